-- What the proofs of the handle's `Allocator` share. Assumes `Logic`.
-- for src/logged.rt
--     handle          the parameter `&self`
--     HandleRef, HeapRef     what a `&` to a handle owns, and a `&` to a heap
--     again           a `&` to a handle can be had twice
--     heap_of, opened     who has a `&` to a handle has one to its heap
--     answer_fits     a machine value that an answer of `allocate` owns is of its type
use Rattle.wasmi_arena.proofs.Steps.{Ura, named, Val, has_ty, WT, ent, sep, id⊢, Lft, Fml, Logic, sem, ‵, ◌$◌, ◌∵◌, !, qed, keep, drop, use1, fsplit, fjoin, feq_i, done, RefOf, Is, hidden_shr, unhide, layout, RawPtr, NamedLft, ShrRef, shr_vals, plain, named_lft}
use Rattle.std.proofs.Common.{◌+◌, List, [], ◌∷◌, refl, Bor, T}
use denote.Ref.{shr_copy}
use denote.Signature.{Slot}
use borrow.Table.RawPtr.{ptr_laws}
use Rattle.std.proofs.alloc.Calls.{Answer}
use Rattle.std.specs.contracts.alloc.AllocError as error_type
use Rattle.std.proofs.alloc.AllocError.TheLaws.{the_row_laws as error_laws}
use Rattle.std.proofs.result.Result.TheLaws.{the_row_laws as result_laws}
use Rattle.std.specs.declared.alloc.Global.{Global}
use Rattle.std.specs.contracts.alloc.Global as heap_type
use Rattle.wasmi_vectors.specs.declared.logged.Logged.{Logged}
use Rattle.wasmi_vectors.specs.contracts.logged.Logged as handle_type
use Rattle.wasmi_vectors.proofs.logged.Logged.TheLaws.{the_row_laws}

abbrev pub handle : Slot 2
handle = RefOf (0 ∷ []) tt (plain (λ κs. handle_type.the_row (named_lft 2 1 tt κs))) (λ _. tt)

abbrev pub HandleRef : Lft → NamedLft → Bor Logged → Fml
HandleRef κ log r = (ShrRef (named 0) κ (handle_type.the_row log)).own_val r (shr_vals r)

abbrev pub HeapRef : Lft → Bor Global → Fml
HeapRef κ r = (ShrRef (named 0) κ heap_type.the_row).own_val r (shr_vals r)

abbrev pub heap_of : Bor Logged → Bor Global
heap_of r = record { ref_ptr = (r.ref_ptr.0, r.ref_ptr.1 + 0); now = r.now.heap }

module _ {M : Type 1} {𝓤 : Ura M} (𝓛 : Logic 𝓤) where
  pub again : (κ : Lft) (log : NamedLft) (r : Bor Logged) → ent 𝓤 (sem 𝓛 (HandleRef κ log r)) (sep 𝓤 (sem 𝓛 (HandleRef κ log r)) (sem 𝓛 (HandleRef κ log r)))
  again κ log r = (shr_copy 𝓛 (named 0) κ (handle_type.the_row log) (the_row_laws log).shr_laws).twice r (shr_vals r)

  pub opened : (κ : Lft) (log : NamedLft) (r : Bor Logged) → ent 𝓤 (sem 𝓛 (HandleRef κ log r)) (sem 𝓛 (HeapRef κ (heap_of r)))
  opened κ log r =
      let heap : Bor Global = heap_of r in
      qed 𝓛 (‵ (HandleRef κ log r) ∷ []) ∵ fsplit ! $ drop ! $ unhide ! $ fsplit ! $ fsplit ! $
      use1 𝓛 (‵ (hidden_shr heap_type.the_row κ heap.now heap.ref_ptr.0 heap.ref_ptr.1)) (id⊢ 𝓤 _) $ keep ! (0 ∷ []) $ feq_i ! (List Val) (shr_vals heap) (shr_vals heap) refl $ fjoin ! $ done !

  pub answer_fits : (x : Answer.Denot) (v : Val) → Is Answer x (v ∷ []) → T (has_ty (layout Answer) v) × WT v
  answer_fits x v is = (((result_laws RawPtr error_type.the_row ptr_laws error_laws).lawful 𝓛).typed x (v ∷ []) is).0
