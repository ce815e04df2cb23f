-- `item_mut` lends the item in a slot, and the slots end with what was written there. Assumes `Logic`.
use Rattle.std.proofs.Common.{◌≡◌, ◌+◌, ◌*◌, ◌<◌, [], ◌∷◌, length, get_or, refl, ◌∙◌, arith, w64, MutBor}
use Rattle.wasmi_arena.proofs.Steps.{proved, full_share, id⊢, GName, ftrue, fat, flft, named, inst_fn, vptr, ◌⊑◌, tables, ‵, raw, ◌⊛◌, some, later, at_ret, ◌$◌, ◌∵◌, !, qed, done, move, keep, use1, split, group, pick, await, frame, rewrite, suffices, whole, sub, bin, size_lit, addr, enter, of_opd, stop, fld, first, blocks, exec, returns, through, alloc_all, pass_all, free_all, look_at, get, get_in, sets, sets_last, take_at, give_at, env, usize, yes, no, follows, layout, uint_vals, uint_Tells, Ptr, MutRef, mut_vals, mut_Tells, plain, Stays, walk_of, says, stay_dropped, Goes-dropped, Goes-spent_ref, ends_at}
use Rattle.core.proofs.mem.Param.{El, R, args, el_x}
use Rattle.core.proofs.ptr.Rows.{hd}
use Rattle.std.proofs.lemmas.Option.{slice_get-get_or}
use Rattle.std_alloc.proofs.RcSteps.{word, word-Good}
use Rattle.std_alloc.proofs.VecSteps.Shapes.{after}
use Rattle.wasmi_arena.specs.contracts.raw.block.Slots.item_mut as F
use Rattle.wasmi_arena.proofs.raw.block.Slots.item_mut.Statement.{statement}
use Rattle.wasmi_arena.proofs.raw.block.Slots.item_mut.Code as code
use Rattle.wasmi_arena.proofs.Frame.{SlotsRow, PtrRow, ptr_vals, ptr_tells, referred, let_go, enters_slots, leaves_none, opens_slots}
use Rattle.wasmi_arena.proofs.Lending.{written_at, LentItem, lends_one}
use Rattle.wasmi_arena.proofs.SlotRuns.{sz, offset_fits}

pub item_mut_spec : {M : Type 1} → statement M
item_mut_spec 𝓤 𝓛 𝓜 𝓡 wired X LX =
    let E : El = record { row = X; laws = LX } in
    let c = F.clauses X 𝓛 𝓜.mem 𝓡.returns in
    let stayed : Stays (F.ended X).signature.params (F.ended X).kept = (stay_dropped _ no, (stay_dropped _ no, (stay_dropped _ yes, tt))) in
    let function = inst_fn (args E) code.function in
    let W = walk_of 𝓛 (F.ended X) stayed c in
    let 𝓣 = tables 𝓤 𝓛.H 𝓜 𝓡 𝓡.env in
    proved 𝓛 (F.ended X) stayed c 𝓜 𝓡 (Goes-spent_ref 𝓛 2 (0 ∷ []) tt (plain (λ _. SlotsRow E)), (Goes-dropped 𝓛 2 (plain (λ _. PtrRow E)) no (λ κs x w. refl), (Goes-dropped 𝓛 2 (plain (λ _. usize)) yes (λ κs x w. refl), tt)))
    (F.Key.name (args E)) function (code.unfolded 𝓤 𝓛.H 𝓜 𝓡 wired (X, tt))
    (λ κs. (mut_vals, (ptr_vals E, (uint_vals w64, tt)))) (λ κs. (mut_Tells (named 0) κs.0 (SlotsRow E), (ptr_tells E, (uint_Tells w64, tt))))
    (λ κs qs bounds a _ are.
    let s = a.0.now in let ptr = a.1.0 in let slot = a.1.1.0 in let b' = a.0.ref_ptr.0 in let o' = a.0.ref_ptr.1 in let κ = κs.0 in let size = sz E in
    let y : W.Ghost = ((κs, qs, bounds, a, (mut_vals a.0, (ptr_vals E ptr, (uint_vals w64 slot, tt)))), tt) in
    enters_slots E 𝓛 κ κs.1.0 qs.0 qs.1.0 a.0 ptr slot ftrue (κs.1.0 ⊑ X.lives) (ptr.start ≡ s.block) (s.taken ≡ 0) (slot < length s.items) _ (λ same_block none_taken inside.
    let some_item = hd s.items (omega arith) in let item = get_or s.items slot some_item in
    qed 𝓛 (referred E 𝓛 κ κs.1.0 qs.0 qs.1.0 a.0 s (‵ ftrue ∷ [])) ∵ keep ! (0 ∷ 1 ∷ 2 ∷ 3 ∷ []) $
    enter ! _ _ _ _ (W.post y) $ alloc_all ! (λ l. pass_all ! refl ((tt, tt), (word-Good [] ptr.start, ((tt, record { fits = are.1.1.0.1 }), tt))) $
    opens_slots E ! tt s b' o' (λ vs b o at small.
    let fits = offset_fits slot (s.taken + length s.items + s.free) size (omega arith) small in
    take_at ! 2 $ rewrite ! 0 (λ (p : Ptr). ‵ (fat full_share (layout (PtrRow E)) (l 2) 0 (word p))) (same_block ∙ at) refl $ give_at ! 2 $ first ! $ blocks ! $
    sets ! (bin ! (get ! refl) (size_lit ! (record { fits = fits.0 })) (record { fits = fits.1 })) refl (tt, record { fits = fits.1 }) $
    sets ! (bin ! (get_in ! (fld ! refl (stop !)) (sub ! 0 refl (whole !))) (get ! refl) tt) refl (tt, tt) $
    sets_last ! (addr ! (through ! refl (stop !))) refl (tt, tt) $
    exec ! 𝓣.C 𝓣.Λ (env function.locals l) (after 1 function.body) (at_ret _ (W.post y)) $ sets ! (of_opd ! (get ! refl)) refl (tt, tt) $
    group ! 6 $ use1 𝓛 (later (some (λ (δ : GName). raw (LentItem E 𝓛 s vs b' o' b o at none_taken small slot inside some_item κ qs.0 a.0.ghost_name δ))))
    (lends_one E 𝓛 s vs b' o' b o at none_taken small slot inside some_item κ qs.0 a.0.ghost_name) $ await ! tt $ pick ! (λ δ.
    let r : MutBor (el_x E) = record { ref_ptr = (b, slot * size + o); ghost_name = δ; now = item } in
    use1 𝓛 (‵ ((MutRef (named 0) κ (R E)).own_val r (mut_vals r)) ⊛ ‵ (flft κ qs.0) ⊛ ‵ (follows (SlotsRow E) (R E) a.0.ghost_name δ (written_at E 𝓛 s vs b' o' b o at none_taken small slot inside some_item))) (id⊢ 𝓤 _) $
    split ! $ move ! (1 ∷ []) $ split ! $
    returns ! (look_at ! 0 refl) $ free_all ! refl $ keep ! (2 ∷ 0 ∷ 3 ∷ 1 ∷ []) $
    suffices ! _ (ends_at 𝓛 (F.ended X) stayed c y (vptr b (slot * size + o)) r (tt, (tt, (tt, tt))) (tt, (tt, (tt, tt)))) $
    group ! 3 $ use1 𝓛 ((‵ (flft κ qs.0) ⊛ ‵ (flft κs.1.0 qs.1.0) ⊛ ‵ ftrue) ⊛ ‵ (let_go 3) ⊛ ‵ ((MutRef (named 0) κ (R E)).own_val r (mut_vals r)))
    (leaves_none E 𝓛 κ κs.1.0 qs.0 qs.1.0 3 (MutRef (named 0) κ (R E)) r (vptr b (slot * size + o))) $ frame ! $ says ! (slice_get-get_or s.items slot some_item inside) $ done !)))))
