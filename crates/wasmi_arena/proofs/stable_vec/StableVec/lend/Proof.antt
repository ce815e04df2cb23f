-- `lend` hands out a vector's buckets, of which only the items can be written. Assumes `Logic`.
use Rattle.std.proofs.Common.{ℕ, ◌*◌, ◌<◌, ◌≤◌, ◌^◌, List, [], ◌∷◌, length, refl, sym, ◌∙◌, ap, subst}
use Rattle.wasmi_arena.proofs.Steps.{proved, full_share, GName, ftrue, flft, fobs, fbor, named, Args, a_type, dcons, dnil, inst_fn, size, ◌⊑◌, fact, join, use0, use1, ‵, raw, ◌⊛◌, some, later, ◌$◌, ◌∵◌, !, qed, done, move, keep, drop, split, split3, group, pick, await, fsplit3, fjoin, frame, flt_i, rewrite, suffices, enter, addr, fld, stop, returns, and_then, no_more, alloc_all, pass_all, free_all, look_at, get, through, sets, takes_part, open_ref, agg, SemTy, Body, no, follows, row, mem, layout, bounded, block_ptr, MutRef, mut_vals, mut_Tells, plain, named_lft, heard, Stays, walk_of, stay_dropped, Goes-spent_ref, ends_at}
use Rattle.core.specs.List.{refill}
use Rattle.std.specs.Mem.{type_size}
use Rattle.core.proofs.alloc.Calls.{Al}
use Rattle.core.proofs.mem.Param.{El, R}
use Rattle.core.proofs.slots.Leases.{P}
use Rattle.core.specs.declared.option.Option.{Option}
use Rattle.wasmi_arena.specs.Bucket.{Bucket}
use Rattle.wasmi_arena.specs.Geometry.{max_len}
use Rattle.wasmi_arena.specs.inner.Loan.{SameBuckets}
use Rattle.wasmi_arena.specs.inner.Table.{items_of, IsTable}
use Rattle.wasmi_arena.specs.contracts.stable_vec.StableVec.lend as F
use Rattle.wasmi_arena.proofs.stable_vec.StableVec.lend.Statement.{statement}
use Rattle.wasmi_arena.proofs.stable_vec.StableVec.lend.Code as code
use Rattle.wasmi_arena.proofs.Frame.{let_go, gone, says_two}
use Rattle.wasmi_arena.proofs.LoanMemory.{LoanRow, loan, loan_val, loan_made}
use Rattle.wasmi_arena.proofs.Refilled.{refilled-own}
use Rattle.wasmi_arena.proofs.TableMemory.{MaybeBucket}
use Rattle.wasmi_arena.proofs.Sizes.{array_small}
use Rattle.wasmi_arena.proofs.VecMemory.{VecRow, Seen, buckets_at, bare_vec, vec_out, vec_back}

pub lend_spec : {M : Type 1} → statement M
lend_spec 𝓤 𝓛 𝓜 𝓡 wired X Y LX LY g d dd met md =
    let E : El = record { row = X; laws = LX } in let Z : Al = record { row = Y; laws = LY; g = g; d = d; drops = dd } in
    let args : Args = bounded (a_type ∷ a_type ∷ []) (X, (Y, tt)) (dcons d (dcons dd dnil)) in
    let call = F.ended X Y g d dd in let c = F.clauses X Y g d dd 𝓛 𝓜.mem 𝓡.returns in
    let Self = VecRow E Z in
    let stayed : Stays call.signature.params call.kept = (stay_dropped _ no, tt) in
    let W = walk_of 𝓛 call stayed c in
    proved 𝓛 call stayed c 𝓜 𝓡 (Goes-spent_ref 𝓛 3 (0 ∷ []) tt (plain (λ _. Self)), tt)
    (F.Key.name args) (inst_fn args code.function) (code.unfolded 𝓤 𝓛.H 𝓜 𝓡 wired (X, (Y, tt)) d dd)
    (λ κs. (mut_vals, tt)) (λ κs. (mut_Tells (named 0) κs.0 Self, tt))
    (λ κs qs bounds a _ are.
    let items = a.0.now in let b = a.0.ref_ptr.0 in let o = a.0.ref_ptr.1 in let κ = κs.0 in let q = qs.0 in let γ = a.0.ghost_name in let at = buckets_at E Z o in
    let y : W.Ghost = ((κs, qs, bounds, a, (mut_vals a.0, tt)), tt) in
    let others_alive = ‵ (flft κs.1.0 qs.1.0) ⊛ ‵ (flft κs.1.1.0 qs.1.1.0) ⊛ ‵ ftrue in
    qed 𝓛 (((‵ (flft κ q) ⊛ others_alive) ⊛ ‵ ((MutRef (named 0) κ Self).own_val a.0 (mut_vals a.0)) ⊛ ‵ ftrue)
    ∷ (raw (fact 𝓤 (κs.1.0 ⊑ X.lives)) ⊛ raw (fact 𝓤 (κs.1.1.0 ⊑ Y.lives)) ⊛ raw (fact 𝓤 (size (layout Self) < 2 ^ 63)) ⊛ ‵ ftrue) ∷ []) ∵
    move ! (1 ∷ []) $ split ! $ drop ! $ split ! $ drop ! $ split ! $ heard ! _ (λ small. drop ! $
    split ! $ split ! $ move ! (2 ∷ []) $ split ! $ fsplit3 ! $ keep ! (1 ∷ 2 ∷ 4 ∷ 5 ∷ []) $
    enter ! _ _ _ _ _ $ alloc_all ! (λ l. pass_all ! refl ((tt, tt), tt) $
    sets ! (addr ! (through ! refl (fld ! refl (fld ! refl (stop !))))) refl (tt, tt) $ sets ! (agg ! (no_more !)) refl (tt, tt) $
    sets ! (agg ! (and_then ! (get ! refl) (and_then ! (get ! refl) (no_more !)))) refl (tt, (tt, (tt, tt))) $
    open_ref ! tt (mem Self) {b = b} {o = o} $
    -- [the vector; the open borrow, in three entries; the other tokens]
    use1 𝓛 (some (λ (x : Seen E Z items). ‵ (row (MaybeBucket E Z 27) full_share x.0.table.buckets b at) ⊛ raw (bare_vec E Z 𝓛 b o x.0))) (vec_out E Z 𝓛 b o items) $ pick ! (λ x. split ! $
    let buckets = x.0.table.buckets in let held = items_of buckets in let Lent : SemTy = SameBuckets (R E) (P E Z) g buckets in let code = (VecRow E Z).coded.code items in
    rewrite ! 0 (λ (bs : List (Option (Bucket X.Denot))). ‵ (row (MaybeBucket E Z 27) full_share bs b at)) (sym (refilled-own buckets)) refl $
    move ! (2 ∷ 3 ∷ 4 ∷ 0 ∷ 1 ∷ []) $ group ! 5 $
    use1 𝓛 (later (some (λ (ν : GName). ‵ (fobs ν (Lent.coded.code held)) ⊛ ‵ (fbor κ (Body Lent b at ν)) ⊛ ‵ (flft κ q) ⊛ ‵ (follows Self Self γ ν (refill (length items) items)))))
    (takes_part 𝓛 (mem Self) Lent (refill (length items) items) κ q b o b at γ (bare_vec E Z 𝓛 b o x.0) (vec_back E Z 𝓛 b o items x) code code held) $ await ! tt $ pick ! (λ ν.
    split3 ! $ fjoin ! $ flt_i ! (length buckets * type_size (MaybeBucket E Z 27)) (2 ^ 63) (subst (λ (n : ℕ). n * type_size (MaybeBucket E Z 27) < 2 ^ 63) (sym x.1.1.buckets_counted) (array_small E.row Z.row Z.g small)) $ fjoin ! $
    use1 𝓛 (‵ ((LoanRow (named_lft 3 0 tt κs) E Z).own_val (loan (named_lft 3 0 tt κs) E Z (block_ptr b at) buckets ν ν) (loan_val (named_lft 3 0 tt κs) E Z (block_ptr b at) ∷ []))) (loan_made (named_lft 3 0 tt κs) E Z 𝓛 (block_ptr b at) buckets ν ν) $
    returns ! (look_at ! 0 refl) $ free_all ! refl $
    -- [the loan; the token, and what the vector is afterwards; the other tokens]
    move ! (1 ∷ []) $ split ! $
    suffices ! _ (ends_at 𝓛 call stayed c y (loan_val (named_lft 3 0 tt κs) E Z (block_ptr b at)) (loan (named_lft 3 0 tt κs) E Z (block_ptr b at) buckets ν ν) (tt, tt) (tt, tt)) $
    move ! (0 ∷ 3 ∷ []) $ join ! $ use0 𝓛 (‵ (let_go 1)) (gone 𝓛 1) $ move ! (1 ∷ 0 ∷ 3 ∷ 2 ∷ []) $ group ! 3 $ frame ! $
    says_two ! refl (record { counted = x.1.1.buckets_counted; table = subst (λ (xs : List X.Denot). IsTable 32 xs buckets) x.1.0 x.1.1.table; few_items = subst (λ (n : ℕ). n ≤ max_len) (x.1.1.items_counted ∙ ap length x.1.0) x.1.1.few_items }) $ done !)))))
