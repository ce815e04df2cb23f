-- `slice_mut` lends the items, and the slots end with what was written to them. Assumes `Logic`.
use Rattle.std.proofs.Common.{◌≡◌, ℕ, ◌<◌, ◌^◌, List, [], ◌∷◌, length, refl, sym, subst, ◌∙◌, w64, MutBor}
use Rattle.wasmi_arena.proofs.Steps.{proved, full_share, id⊢, GName, ftrue, fat, flft, named, inst_fn, ◌⊑◌, tables, ‵, raw, ◌⊛◌, some, later, at_ret, ◌$◌, ◌∵◌, !, qed, done, move, keep, use1, split, group, pick, await, frame, rewrite, suffices, whole, sub, agg, enter, of_opd, stop, fld, first, blocks, exec, returns, and_then, no_more, alloc_all, pass_all, free_all, look_at, get, get_in, sets, sets_last, take_at, give_at, env, Array, usize, yes, no, follows, layout, uint_vals, uint_Tells, Ptr, mut_vals, mut_Tells, plain, MutSlice, slice_val, Stays, walk_of, says, stay_dropped, Goes-dropped, Goes-spent_ref, ends_at}
use Rattle.core.proofs.mem.Param.{El, R, args, el_x}
use Rattle.std_alloc.proofs.RcSteps.{word, word-Good}
use Rattle.std_alloc.proofs.VecSteps.Shapes.{after}
use Rattle.wasmi_arena.specs.contracts.raw.block.Slots.slice_mut as F
use Rattle.wasmi_arena.proofs.raw.block.Slots.slice_mut.Statement.{statement}
use Rattle.wasmi_arena.proofs.raw.block.Slots.slice_mut.Code as code
use Rattle.wasmi_arena.proofs.Frame.{SlotsRow, PtrRow, ptr_vals, ptr_tells, referred, let_go, enters_slots, leaves_none, opens_slots}
use Rattle.wasmi_arena.proofs.Lending.{written, Lent, lends_all}

pub slice_mut_spec : {M : Type 1} → statement M
slice_mut_spec 𝓤 𝓛 𝓜 𝓡 wired X LX =
    let E : El = record { row = X; laws = LX } in
    let c = F.clauses X 𝓛 𝓜.mem 𝓡.returns in
    let stayed : Stays (F.ended X).signature.params (F.ended X).kept = (stay_dropped _ no, (stay_dropped _ no, (stay_dropped _ yes, tt))) in
    let function = inst_fn (args E) code.function in
    let W = walk_of 𝓛 (F.ended X) stayed c in
    let 𝓣 = tables 𝓤 𝓛.H 𝓜 𝓡 𝓡.env in
    proved 𝓛 (F.ended X) stayed c 𝓜 𝓡 (Goes-spent_ref 𝓛 2 (0 ∷ []) tt (plain (λ _. SlotsRow E)), (Goes-dropped 𝓛 2 (plain (λ _. PtrRow E)) no (λ κs x w. refl), (Goes-dropped 𝓛 2 (plain (λ _. usize)) yes (λ κs x w. refl), tt)))
    (F.Key.name (args E)) function (code.unfolded 𝓤 𝓛.H 𝓜 𝓡 wired (X, tt))
    (λ κs. (mut_vals, (ptr_vals E, (uint_vals w64, tt)))) (λ κs. (mut_Tells (named 0) κs.0 (SlotsRow E), (ptr_tells E, (uint_Tells w64, tt))))
    (λ κs qs bounds a _ are.
    let s = a.0.now in let ptr = a.1.0 in let len = a.1.1.0 in let b' = a.0.ref_ptr.0 in let o' = a.0.ref_ptr.1 in let κ = κs.0 in
    let y : W.Ghost = ((κs, qs, bounds, a, (mut_vals a.0, (ptr_vals E ptr, (uint_vals w64 len, tt)))), tt) in
    enters_slots E 𝓛 κ κs.1.0 qs.0 qs.1.0 a.0 ptr len ftrue (κs.1.0 ⊑ X.lives) (ptr.start ≡ s.block) (s.taken ≡ 0) (len ≡ length s.items) _ (λ same_block none_taken counted.
    let few : length s.items < 2 ^ 64 = subst (λ (n : ℕ). n < 2 ^ 64) counted are.1.1.0.1 in
    qed 𝓛 (referred E 𝓛 κ κs.1.0 qs.0 qs.1.0 a.0 s (‵ ftrue ∷ [])) ∵ keep ! (0 ∷ 1 ∷ 2 ∷ 3 ∷ []) $
    enter ! _ _ _ _ (W.post y) $ alloc_all ! (λ l. pass_all ! refl ((tt, tt), (word-Good [] ptr.start, ((tt, record { fits = are.1.1.0.1 }), tt))) $
    opens_slots E ! tt s b' o' (λ vs b o at small.
    take_at ! 2 $ rewrite ! 0 (λ (p : Ptr). ‵ (fat full_share (layout (PtrRow E)) (l 2) 0 (word p))) (same_block ∙ at) refl $ give_at ! 2 $ first ! $ blocks ! $
    sets_last ! (agg ! (and_then ! (get_in ! (fld ! refl (stop !)) (sub ! 0 refl (whole !))) (and_then ! (get ! refl) (no_more !)))) refl (tt, (tt, (record { fits = are.1.1.0.1 }, tt))) $
    exec ! 𝓣.C 𝓣.Λ (env function.locals l) (after 1 function.body) (at_ret _ (W.post y)) $ sets ! (of_opd ! (get ! refl)) refl (tt, (tt, (record { fits = are.1.1.0.1 }, tt))) $
    group ! 6 $ use1 𝓛 (later (some (λ (δ : GName). raw (Lent E 𝓛 s vs b' o' b o at none_taken small few κ qs.0 a.0.ghost_name δ))))
    (lends_all E 𝓛 s vs b' o' b o at none_taken small few κ qs.0 a.0.ghost_name) $ await ! tt $ pick ! (λ δ.
    let r : MutBor (List (el_x E)) = record { ref_ptr = (b, o); ghost_name = δ; now = s.items } in
    use1 𝓛 (‵ ((MutSlice (named 0) κ (R E)).own_val r (slice_val (b, o) (length s.items) ∷ [])) ⊛ ‵ (flft κ qs.0) ⊛ ‵ (follows (SlotsRow E) (Array (R E) 0) a.0.ghost_name δ (written E 𝓛 s vs b' o' b o at none_taken small few))) (id⊢ 𝓤 _) $
    split ! $ move ! (1 ∷ []) $ split ! $
    returns ! (look_at ! 0 refl) $ free_all ! refl $ keep ! (2 ∷ 0 ∷ 3 ∷ 1 ∷ []) $
    rewrite ! 0 (λ (n : ℕ). ‵ ((MutSlice (named 0) κ (R E)).own_val r (slice_val (b, o) n ∷ []))) (sym counted) refl $
    suffices ! _ (ends_at 𝓛 (F.ended X) stayed c y (slice_val (b, o) len) r (tt, (tt, (tt, tt))) (tt, (tt, (tt, tt)))) $
    group ! 3 $ use1 𝓛 ((‵ (flft κ qs.0) ⊛ ‵ (flft κs.1.0 qs.1.0) ⊛ ‵ ftrue) ⊛ ‵ (let_go 3) ⊛ ‵ ((MutSlice (named 0) κ (R E)).own_val r (slice_val (b, o) len ∷ [])))
    (leaves_none E 𝓛 κ κs.1.0 qs.0 qs.1.0 3 (MutSlice (named 0) κ (R E)) r (slice_val (b, o) len)) $ frame ! $ says ! refl $ done !)))))
