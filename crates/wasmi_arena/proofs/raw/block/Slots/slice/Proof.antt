-- `slice` lends what a `&` to the slots lends. Assumes `Logic`.
use Rattle.std.proofs.Common.{◌≡◌, ℕ, ◌+◌, ◌*◌, ◌^◌, List, [], ◌∷◌, length, refl, ap, ◌∙◌, arith, w64}
use Rattle.wasmi_arena.proofs.Steps.{proved, zero-mul, full_share, never, id⊢, fat, flft, ftrue, named, inst_fn, Val, ◌⊑◌, tables, ‵, ◌⊛◌, at_ret, ◌$◌, ◌∵◌, !, qed, by, keep, drop, rewrite, fsplit, fjoin, feq_i, flt_l, flt_i, suffices, whole, sub, agg, enter, of_opd, stop, fld, first, blocks, exec, returns, and_then, no_more, alloc_all, pass_all, free_all, look_at, get, get_in, sets, sets_last, take_at, give_at, env, usize, RefOf, yes, no, hidden_shr, hide, unhide, layout, uint_vals, uint_Tells, Ptr, in_a_block, shr_vals, shr_Tells, plain, slice_val, elements_shared, Stays, walk_of, says, stay_dropped, Goes-dropped, ends_at}
use denote.Slice.{ShrSlice}
use Rattle.core.proofs.mem.Param.{El, R, args}
use Rattle.core.proofs.ptr.Rows.{times_below}
use Rattle.std_alloc.proofs.RcSteps.{word, word-Good}
use Rattle.std_alloc.proofs.VecSteps.Shapes.{after}
use Rattle.wasmi_arena.specs.inner.Block.{slots_lend}
use Rattle.wasmi_arena.specs.contracts.raw.block.Slots.slice as F
use Rattle.wasmi_arena.proofs.raw.block.Slots.slice.Statement.{statement}
use Rattle.wasmi_arena.proofs.raw.block.Slots.slice.Code as code
use Rattle.wasmi_arena.proofs.Frame.{SlotsRow, PtrRow, ptr_vals, ptr_tells, enters_shared, leaves_none}
use Rattle.wasmi_arena.proofs.SlotRuns.{sz}

pub slice_spec : {M : Type 1} → statement M
slice_spec 𝓤 𝓛 𝓜 𝓡 wired X LX =
    let E : El = record { row = X; laws = LX } in
    let c = F.clauses X 𝓛 𝓜.mem 𝓡.returns in
    let stayed : Stays (F.ended X).signature.params (F.ended X).kept = (stay_dropped _ yes, (stay_dropped _ no, (stay_dropped _ yes, tt))) in
    let function = inst_fn (args E) code.function in
    let W = walk_of 𝓛 (F.ended X) stayed c in
    let 𝓣 = tables 𝓤 𝓛.H 𝓜 𝓡 𝓡.env in
    let self = RefOf {n = 2} (0 ∷ []) tt (plain (λ _. SlotsRow E)) (λ _. tt) in
    proved 𝓛 (F.ended X) stayed c 𝓜 𝓡 (Goes-dropped 𝓛 2 self yes (λ κs x w. refl), (Goes-dropped 𝓛 2 (plain (λ _. PtrRow E)) no (λ κs x w. refl), (Goes-dropped 𝓛 2 (plain (λ _. usize)) yes (λ κs x w. refl), tt)))
    (F.Key.name (args E)) function (code.unfolded 𝓤 𝓛.H 𝓜 𝓡 wired (X, tt))
    (λ κs. (shr_vals, (ptr_vals E, (uint_vals w64, tt)))) (λ κs. (shr_Tells (named 0) κs.0 (SlotsRow E), (ptr_tells E, (uint_Tells w64, tt))))
    (λ κs qs bounds a _ are.
    let s = a.0.now in let ptr = a.1.0 in let len = a.1.1.0 in let rb = a.0.ref_ptr.0 in let ro = a.0.ref_ptr.1 in let κ = κs.0 in let size = sz E in
    let y : W.Ghost = ((κs, qs, bounds, a, (shr_vals a.0, (ptr_vals E ptr, (uint_vals w64 len, tt)))), tt) in
    enters_shared E 𝓛 κ κs.1.0 qs.0 qs.1.0 a.0 ptr len (κs.1.0 ⊑ X.lives) (ptr.start ≡ s.block) (s.taken ≡ 0) (len ≡ length s.items) _ (λ same_block none_taken counted.
    qed 𝓛 (‵ (hidden_shr (SlotsRow E) κ s rb ro) ∷ ‵ (flft κ qs.0) ∷ (‵ (flft κs.1.0 qs.1.0) ⊛ ‵ ftrue) ∷ []) ∵
    enter ! _ _ _ _ (W.post y) $ alloc_all ! (λ l. pass_all ! refl ((tt, tt), (word-Good [] ptr.start, ((tt, record { fits = are.1.1.0.1 }), tt))) $
    unhide ! $ fsplit ! $ drop ! $ in_a_block ! s.block (λ p. slots_lend (R E) p s.taken s.items s.free κ) (id⊢ 𝓤 (never 𝓤)) (λ b o at. fsplit ! $ flt_l ! (λ small.
    let start : s.taken * size + o ≡ o = ap (λ n. n * size + o) none_taken ∙ omega (arith, zero-mul size) in
    let items_fit = times_below (length s.items) (s.taken + length s.items + s.free) size (2 ^ 63) (omega arith) small in
    rewrite ! 0 (λ (from : ℕ). ‵ (elements_shared (R E) s.items b from κ)) start refl $ hide ! $
    take_at ! 2 $ rewrite ! 0 (λ (p : Ptr). ‵ (fat full_share (layout (PtrRow E)) (l 2) 0 (word p))) (same_block ∙ at) refl $ give_at ! 2 $ first ! $ blocks ! $
    sets_last ! (agg ! (and_then ! (get_in ! (fld ! refl (stop !)) (sub ! 0 refl (whole !))) (and_then ! (get ! refl) (no_more !)))) refl (tt, (tt, (record { fits = are.1.1.0.1 }, tt))) $
    exec ! 𝓣.C 𝓣.Λ (env function.locals l) (after 1 function.body) (at_ret _ (W.post y)) $ sets ! (of_opd ! (get ! refl)) refl (tt, (tt, (record { fits = are.1.1.0.1 }, tt))) $
    -- [a `&` to the items; the tokens]
    flt_i ! (length s.items * size) (2 ^ 63) items_fit $ flt_i ! (length s.items) (2 ^ 64) (omega arith) $ fjoin ! $
    feq_i ! (List Val) (slice_val (b, o) len ∷ []) (slice_val (b, o) (length s.items) ∷ []) (ap (λ n. slice_val (b, o) n ∷ []) counted) $ fjoin ! $ fjoin ! $
    returns ! (look_at ! 0 refl) $ free_all ! refl $ keep ! (0 ∷ 1 ∷ 2 ∷ []) $
    suffices ! _ (ends_at 𝓛 (F.ended X) stayed c y (slice_val (b, o) len) (record { ref_ptr = (b, o); now = s.items }) (tt, (tt, (tt, tt))) (tt, (tt, (tt, tt)))) $ says ! refl $
    by ! (leaves_none E 𝓛 κ κs.1.0 qs.0 qs.1.0 3 (ShrSlice (named 0) κ (R E)) (record { ref_ptr = (b, o); now = s.items }) (slice_val (b, o) len)))))))
