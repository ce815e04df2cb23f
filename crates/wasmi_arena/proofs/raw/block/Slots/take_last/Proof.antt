-- `take_last` moves the last item out of its slot. Assumes `Logic`.
use Rattle.std.proofs.Common.{◌≡◌, ℕ, ◌+◌, ◌*◌, ◌<◌, ◌^◌, [], ◌∷◌, length, length-append, refl, ap, ◌∙◌, subst, arith, w64}
use Rattle.wasmi_arena.proofs.Steps.{proved, full_share, ftrue, fat, named, inst_fn, Val, ◌⊑◌, tables, ‵, ◌⊛◌, some, given, at_ret, ◌$◌, ◌∵◌, !, qed, by, move, keep, use1, use2, split, pick, learn, rewrite, suffices, whole, sub, enter, of_opd, size_lit, bin, load, look, stop, fld, first, blocks, exec, returns, alloc_all, pass_all, free_all, look_at, get, get_in, through, sets, sets_last, take_at, give_at, env, usize, yes, no, layout, uint_vals, uint_Tells, Ptr, mut_vals, mut_Tells, plain, Stays, walk_of, stay_dropped, Goes-dropped, stay_ref, Goes-ref, ends_at}
use Rattle.core.proofs.mem.Param.{El, R, args, elτ, Good}
use Rattle.std_alloc.proofs.RcSteps.{word, word-Good}
use Rattle.std_alloc.proofs.VecSteps.Shapes.{after}
use Rattle.wasmi_arena.specs.inner.Block.{runs}
use Rattle.wasmi_arena.specs.inner.Slots.{without_last}
use Rattle.wasmi_arena.proofs.SlotRuns.{cut_last, offset_fits, sz, Before, last_out, last_back}
use Rattle.wasmi_arena.specs.contracts.raw.block.Slots.take_last as F
use Rattle.wasmi_arena.proofs.raw.block.Slots.take_last.Statement.{statement}
use Rattle.wasmi_arena.proofs.raw.block.Slots.take_last.Code as code
use Rattle.wasmi_arena.proofs.Frame.{SlotsRow, PtrRow, ptr_vals, ptr_tells, referred, enters_slots, leaves_slots, opens_slots, closes_slots, says_two}

pub take_last_spec : {M : Type 1} → statement M
take_last_spec 𝓤 𝓛 𝓜 𝓡 wired X LX =
    let E : El = record { row = X; laws = LX } in
    let c = F.clauses X 𝓛 𝓜.mem 𝓡.returns in
    let stayed : Stays (F.ended X).signature.params (F.ended X).kept = (stay_ref (0 ∷ []) tt (plain (λ _. SlotsRow E)), (stay_dropped _ no, (stay_dropped _ yes, tt))) in
    let function = inst_fn (args E) code.function in
    let W = walk_of 𝓛 (F.ended X) stayed c in
    let 𝓣 = tables 𝓤 𝓛.H 𝓜 𝓡 𝓡.env in
    proved 𝓛 (F.ended X) stayed c 𝓜 𝓡 (Goes-ref 𝓛 2 0 tt (plain (λ _. SlotsRow E)), (Goes-dropped 𝓛 2 (plain (λ _. PtrRow E)) no (λ κs x w. refl), (Goes-dropped 𝓛 2 (plain (λ _. usize)) yes (λ κs x w. refl), tt)))
    (F.Key.name (args E)) function (code.unfolded 𝓤 𝓛.H 𝓜 𝓡 wired (X, tt))
    (λ κs. (mut_vals, (ptr_vals E, (uint_vals w64, tt)))) (λ κs. (mut_Tells (named 0) κs.0 (SlotsRow E), (ptr_tells E, (uint_Tells w64, tt))))
    (λ κs qs bounds a _ are.
    let s = a.0.now in let ptr = a.1.0 in let slot = a.1.1.0 in let b' = a.0.ref_ptr.0 in let o' = a.0.ref_ptr.1 in
    let y : W.Ghost = ((κs, qs, bounds, a, (mut_vals a.0, (ptr_vals E ptr, (uint_vals w64 slot, tt)))), tt) in
    enters_slots E 𝓛 κs.0 κs.1.0 qs.0 qs.1.0 a.0 ptr slot ftrue (κs.1.0 ⊑ X.lives) (ptr.start ≡ s.block) (slot + 1 ≡ s.taken + length s.items) (0 < length s.items) _ (λ same_block is_last there.
    let cut = cut_last s.items there in let item = cut.0 in let new = without_last s in let size = sz E in
    let count : s.taken + length s.items + s.free ≡ new.taken + length new.items + new.free = omega (arith, ap length cut.1, length-append new.items (item ∷ [])) in
    let here : slot ≡ new.taken + length new.items = omega (arith, ap length cut.1, length-append new.items (item ∷ [])) in
    qed 𝓛 (referred E 𝓛 κs.0 κs.1.0 qs.0 qs.1.0 a.0 s (‵ ftrue ∷ [])) ∵ keep ! (0 ∷ 1 ∷ 2 ∷ 3 ∷ []) $
    enter ! _ _ _ _ (W.post y) $ alloc_all ! (λ l. pass_all ! refl ((tt, tt), (word-Good [] ptr.start, ((tt, record { fits = are.1.1.0.1 }), tt))) $
    opens_slots E ! tt s b' o' (λ vs b o at small.
    let fits = offset_fits slot (s.taken + length s.items + s.free) size (omega arith) small in
    take_at ! 2 $ rewrite ! 0 (λ (p : Ptr). ‵ (fat full_share (layout (PtrRow E)) (l 2) 0 (word p))) (same_block ∙ at) refl $ give_at ! 2 $ first ! $ blocks ! $
    sets ! (bin ! (get ! refl) (size_lit ! (record { fits = fits.0 })) (record { fits = fits.1 })) refl (tt, record { fits = fits.1 }) $
    sets ! (bin ! (get_in ! (fld ! refl (stop !)) (sub ! 0 refl (whole !))) (get ! refl) tt) refl (tt, tt) $
    use1 𝓛 (some (λ (v : Val). given (Good E v) (‵ (fat full_share (elτ E) b (slot * size + o) v) ⊛ ‵ (X.own_val item (v ∷ [])) ⊛ ‵ (Before E 𝓛 b o s.taken new.items s.free))))
    (last_out E 𝓛 b o slot s.taken s.items there s.free is_last) $ pick ! (λ v. learn ! (λ good. split ! $
    -- [the item's machine value; what the item owns, with the other slots; the opened slots]
    sets_last ! (of_opd ! (load ! (through ! refl (stop !)) (look ! 0 refl))) refl good $
    exec ! 𝓣.C 𝓣.Λ (env function.locals l) (after 1 function.body) (at_ret _ (W.post y)) $ sets ! (of_opd ! (get ! refl)) refl good $
    move ! (1 ∷ []) $ split ! $ move ! (2 ∷ 1 ∷ []) $ use2 𝓛 (‵ (runs (R E) b o new.taken new.items new.free)) (last_back E 𝓛 b o slot s.taken new.items s.free v here) $
    move ! (0 ∷ 2 ∷ 3 ∷ 4 ∷ 5 ∷ 6 ∷ []) $ closes_slots E ! tt new vs b' o' b o at (subst (λ (n : ℕ). n * size < 2 ^ 63) count small) $
    returns ! (look_at ! 0 refl) $ free_all ! refl $ move ! (0 ∷ 1 ∷ 2 ∷ 4 ∷ 3 ∷ []) $
    suffices ! _ (ends_at 𝓛 (F.ended X) stayed c y v item (new, (tt, (tt, tt))) (tt, (tt, (tt, tt)))) $ says_two ! cut.1 refl $
    by ! (leaves_slots E 𝓛 κs.0 κs.1.0 qs.0 qs.1.0 a.0 new 2 (R E) item v)))))))
