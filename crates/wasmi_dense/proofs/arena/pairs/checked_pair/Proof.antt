-- `checked_pair` lends two items of a slice, or returns an error and changes nothing. Assumes `Logic`.
use Rattle.wasmi_arena.proofs.Steps.{T, eqb, eqb→eq, leb→le, nleb→lt, emp, id⊢, ftrue, flft, fobs, named, Args, a_type, inst_fn, Val, of_list, ◌⊑◌, fact, tables, join, use0, use1, use2, ‵, raw, ◌⊛◌, some, later, prop, at_ret, Sq, ◌$◌, ◌∵◌, !, qed, done, move, keep, drop, split, split3, group, pick, await, fsplit3, rewrite, suffices, live, whole, sub, agg, enter, of_opd, lit, bin, addr, fld, stop, first, branches, skips, exec, returns, returns_within, and_then, no_more, alloc_all, pass_all, free_all, look_at, get, get_in, sets, lands_as, env, Array, usize, yes, no, follows_both, follows_both_if, shows, param, layouts, uint_Makes, uint_vals, uint_Tells, MutRef, plain, MutSlice, nothing, owned, heard, peeks, Tuple, calls_at, lasts, triple_of, framed, Stays, walk_of, stay_dropped, Goes-dropped, ends_at}
use Rattle.std.proofs.Common.{◌≡◌, ◌≢◌, ◌<◌, List, [], ◌∷◌, length, lit<, slice_get, slice_set, Some, refl, subst, w64, MutBor}
use Rattle.std.proofs.raw_atomic.Walks.{proved}
use Rattle.std.specs.Prelude.{Ok, Err}
use lib.Dec.{T_not, eqb_refl}
use mathlib.Core.Logic.{inl, inr}
use base.Fml.{fres}
use contract.Fact.{fact_i}
use types.Run.{from, hop}
use types.ByLocal.{look_in_at}
use denote.Follow.{both_if_by}
use denote.FollowSlice.{heres_id}
use denote.Slice.{mut_slice_vals, mut_slice_Tells}
use denote.Triple.Walked.{Goes-spent_slice}
use Rattle.std.proofs.VecSteps.Shapes.{after}
use Rattle.std.specs.contracts.result.Result as Res
use Rattle.wasmi_arena.specs.contracts.error.ArenaError as Error
use Rattle.wasmi_arena.specs.declared.error.ArenaError.{ArenaError}
use Rattle.core.proofs.once.Made.{ok_of, err_of}
use Rattle.wasmi_arena.proofs.Frame.{let_go, gone}
use Rattle.wasmi_arena.proofs.PairResults.{error_val, place_of, error_made, pair_val, pair_told}
use Rattle.wasmi_arena.specs.Pairs.{names_if_ok}
use Rattle.wasmi_dense.specs.contracts.arena.pairs.checked_pair as F
use Rattle.wasmi_dense.specs.contracts.slice_pair.pair_within as Two
use Rattle.wasmi_dense.proofs.slice_pair.pair_within.Met as LendsTwo
use Rattle.wasmi_dense.proofs.arena.pairs.checked_pair.Statement.{statement}
use Rattle.wasmi_dense.proofs.arena.pairs.checked_pair.Code as code
use Rattle.wasmi_dense.proofs.PairOrError.{Reads, Outside, Alike, Errors, Told, told_outside, told_alike, told_lent}

pub checked_pair_spec : {M : Type 1} → statement M
unfolding both_if_by
checked_pair_spec 𝓤 𝓛 𝓜 𝓡 wired X LX =
    let args : Args = layouts (a_type ∷ []) (X, tt) in
    let call = F.ended X in let c = F.clauses X 𝓛 𝓜.mem 𝓡.returns in
    let Item = param 0 X in let Items = Array Item 0 in
    let stayed : Stays call.signature.params call.kept = (stay_dropped _ no, (stay_dropped _ yes, (stay_dropped _ yes, tt))) in
    let function = inst_fn args code.function in
    let W = walk_of 𝓛 call stayed c in let 𝓣 = tables 𝓤 𝓛.H 𝓜 𝓡 𝓡.env in
    let number = Goes-dropped 𝓛 2 (plain (λ _. usize)) yes (λ κs x w. refl) in
    proved 𝓛 call stayed c 𝓜 𝓡 (Goes-spent_slice 𝓛 2 (0 ∷ []) tt (plain (λ _. Item)), (number, (number, tt)))
    (F.Key.name args) function (code.unfolded 𝓤 𝓛.H 𝓜 𝓡 wired (X, tt))
    (λ κs. (mut_slice_vals, (uint_vals w64, (uint_vals w64, tt)))) (λ κs. (mut_slice_Tells (named 0) κs.0 Item, (uint_Tells w64, (uint_Tells w64, tt))))
    (λ κs qs bounds a _ are.
    let items = a.0.now in let one = a.1.0 in let other = a.1.1.0 in let n = length items in
    let κ = κs.0 in let q = qs.0 in let γ = a.0.ghost_name in let vs = mut_slice_vals a.0 in
    let y : W.Ghost = ((κs, qs, bounds, a, (vs, (uint_vals w64 one, (uint_vals w64 other, tt)))), tt) in
    let alive = ‵ (flft κ q) ⊛ ‵ (flft κs.1.0 qs.1.0) ⊛ ‵ ftrue in
    let Ref = MutRef (named 0) κ Item in let Pair = Tuple (Ref ∷ Ref ∷ []) in let Answer = Res.the_row Pair Error.the_row in
    let kept = (MutSlice (named 0) κ Item).own_val a.0 vs in
    let out : (r : Answer.Denot) (v : Val) → Told items one other r
    → Sq 𝓛 (‵ (follows_both_if Items Item Item γ (names_if_ok r) (λ x y. slice_set (slice_set items one x) other y) items) ∷ ‵ (Answer.own_val r (v ∷ [])) ∷ alive ∷ []) (prop (W.post y v)) = λ r v told.
    suffices ! _ (ends_at 𝓛 call stayed c y v r (tt, (tt, (tt, tt))) (tt, (tt, (tt, tt)))) $
    use0 𝓛 (raw (fact 𝓤 (Errors items one other r))) (fact_i 𝓤 _ (emp 𝓤) told.3) $ use0 𝓛 (raw (fact 𝓤 (Alike items one other r))) (fact_i 𝓤 _ (emp 𝓤) told.2) $
    use0 𝓛 (raw (fact 𝓤 (Outside items one other r))) (fact_i 𝓤 _ (emp 𝓤) told.1) $ use0 𝓛 (raw (fact 𝓤 (Reads items one other r))) (fact_i 𝓤 _ (emp 𝓤) told.0) $
    use0 𝓛 (‵ (let_go 3)) (gone 𝓛 3) $ move ! (7 ∷ 0 ∷ 6 ∷ []) $ group ! 3 $ move ! (0 ∷ 5 ∷ []) $ done ! in
    let refuse : (e : ArenaError) → Told items one other (Err e)
    → Sq 𝓛 (‵ kept ∷ alive ∷ []) (prop (W.post y (live 1 (of_list (error_val (place_of e) ∷ []))))) = λ e told.
    let w = error_val (place_of e) in
    fsplit3 ! $ keep ! (1 ∷ 3 ∷ []) $ rewrite ! 0 (λ (l : List X.Denot). ‵ (fobs γ (Items.coded.code l))) (heres_id Item items) refl $
    use1 𝓛 (‵ (fres γ (Items.coded.code items))) (𝓛.names.obs-res γ (Items.coded.code items)) $
    use0 𝓛 (‵ (Error.the_row.own_val e (w ∷ []))) (error_made 𝓛 e) $ use1 𝓛 (‵ (Answer.own_val (Err e) (live 1 (of_list (w ∷ [])) ∷ []))) (err_of 𝓛 Pair Error.the_row e w) $
    move ! (1 ∷ 0 ∷ []) $ out (Err e) (live 1 (of_list (w ∷ []))) told in
    qed 𝓛 ((alive ⊛ ‵ kept ⊛ ‵ (usize.own_val one (uint_vals w64 one)) ⊛ ‵ (usize.own_val other (uint_vals w64 other)) ⊛ ‵ ftrue)
    ∷ (raw (fact 𝓤 (κs.1.0 ⊑ X.lives)) ⊛ ‵ ftrue) ∷ []) ∵
    move ! (1 ∷ []) $ split ! $ heard ! _ (λ in_X. drop ! $
    split ! $ move ! (1 ∷ []) $ split ! $ keep ! (0 ∷ 2 ∷ []) $
    -- [the slice; the tokens]
    enter ! _ _ _ _ _ $ alloc_all ! (λ l. pass_all ! refl ((tt, (tt, (record { fits = are.0.0.1.0 }, tt))), ((tt, record { fits = are.1.0.1 }), ((tt, record { fits = are.1.1.0.1 }), tt))) $
    sets ! (of_opd ! (get_in ! (fld ! refl (stop !)) (sub ! 1 refl (whole !)))) refl (tt, record { fits = are.0.0.1.0 }) $
    sets ! (bin ! (get ! refl) (get ! refl) tt) refl (tt, tt) $ first ! $ branches ! (get ! refl)
    (λ far. sets ! (agg ! (and_then ! (lit ! tt) (no_more !))) refl (tt, (record { fits = lit< tt }, tt)) $
    sets ! (agg ! (and_then ! (lit ! tt) (and_then ! (get ! refl) (no_more !)))) refl (tt, (record { fits = lit< tt }, ((record { fits = lit< tt }, tt), tt))) $
    returns_within ! (W.post y) refl (look_at ! 0 refl) $ free_all ! refl $ refuse ArenaError.KeyOutOfBounds (told_outside items one other (inl (leb→le n one far))))
    (λ near. let one_in : one < n = nleb→lt n one near in
    skips ! $ exec ! 𝓣.C 𝓣.Λ (env function.locals l) (after 3 function.body) (at_ret (env function.locals l) (W.post y)) $
    sets ! (bin ! (get ! refl) (get ! refl) tt) refl (tt, tt) $ first ! $ branches ! (get ! refl)
    (λ far. sets ! (agg ! (and_then ! (lit ! tt) (no_more !))) refl (tt, (record { fits = lit< tt }, tt)) $
    sets ! (agg ! (and_then ! (lit ! tt) (and_then ! (get ! refl) (no_more !)))) refl (tt, (record { fits = lit< tt }, ((record { fits = lit< tt }, tt), tt))) $
    returns_within ! (W.post y) refl (look_at ! 0 refl) $ free_all ! refl $ refuse ArenaError.KeyOutOfBounds (told_outside items one other (inr (leb→le n other far))))
    (λ near'. let other_in : other < n = nleb→lt n other near' in
    skips ! $ exec ! 𝓣.C 𝓣.Λ (env function.locals l) (after 5 function.body) (at_ret (env function.locals l) (W.post y)) $
    sets ! (bin ! (get ! refl) (get ! refl) tt) refl (tt, tt) $ first ! $ branches ! (get ! refl)
    (λ alike. sets ! (agg ! (and_then ! (lit ! tt) (no_more !))) refl (tt, (record { fits = lit< tt }, tt)) $
    sets ! (agg ! (and_then ! (lit ! tt) (and_then ! (get ! refl) (no_more !)))) refl (tt, (record { fits = lit< tt }, ((record { fits = lit< tt }, tt), tt))) $
    returns_within ! (W.post y) refl (look_at ! 0 refl) $ free_all ! refl $ refuse ArenaError.AliasingPairAccess (told_alike items one other one_in other_in (eqb→eq one other alike)))
    (λ differ. let apart : one ≢ other = λ same. T_not (eqb one other) differ (subst (λ n. T (eqb one n)) same (eqb_refl one)) in
    skips ! $ exec ! 𝓣.C 𝓣.Λ (env function.locals l) (after 7 function.body) (at_ret (env function.locals l) (W.post y)) $
    sets ! (addr ! (from ! (fld ! refl (hop ! (look_in_at ! 1 (sub ! 0 refl (whole !))) (stop !))))) refl (tt, tt) $
    sets ! (agg ! (and_then ! (get ! refl) (and_then ! (get_in ! (fld ! refl (stop !)) (sub ! 1 refl (whole !))) (no_more !)))) refl (tt, (tt, (record { fits = are.0.0.1.0 }, tt))) $
    let G = triple_of 𝓛 (Two.signature X) (Two.spec X 𝓛 𝓜.mem 𝓡.returns) in
    let z : G.Ghost = ((κs, qs, bounds, a, (vs, (uint_vals w64 one, (uint_vals w64 other, tt)))), tt) in
    nothing ! $ owned ! usize _ (uint_Makes 𝓛 w64) other _ (refl, are.1.1.0.1) $ join ! $ owned ! usize _ (uint_Makes 𝓛 w64) one _ (refl, are.1.0.1) $ join ! $
    move ! (1 ∷ 0 ∷ []) $ join ! $ move ! (1 ∷ 0 ∷ []) $ join ! $
    use0 𝓛 (raw (fact 𝓤 (other < n))) (fact_i 𝓤 _ (emp 𝓤) other_in) $ use0 𝓛 (raw (fact 𝓤 (one < n))) (fact_i 𝓤 _ (emp 𝓤) one_in) $ join ! $
    use0 𝓛 (raw (fact 𝓤 (one ≢ other))) (fact_i 𝓤 _ (emp 𝓤) apart) $ join ! $ use0 𝓛 (raw (fact 𝓤 (κs.1.0 ⊑ X.lives))) (fact_i 𝓤 _ (emp 𝓤) in_X) $ join ! $
    move ! (1 ∷ 0 ∷ []) $ use2 𝓛 (raw (G.pre z)) (id⊢ 𝓤 _) $
    calls_at ! (framed 𝓤 𝓛.H 𝓜 𝓣) G (LendsTwo.met 𝓤 𝓛 𝓜 𝓡 (code.calls-wasmi_dense::slice_pair::pair_within 𝓡.env wired) X LX) z
    (and_then ! (get ! refl) (and_then ! (get ! refl) (and_then ! (get ! refl) (no_more !)))) (λ v.
    use1 𝓛 (later (some (λ (r : MutBor X.Denot × MutBor X.Denot). (alive ⊛ ‵ (Pair.own_val r (v ∷ []))) ⊛
    some (λ (ws : Unit {0} × (Unit {0} × (Unit {0} × Unit {0}))). ‵ (lasts (Two.ended X) κs a ws) ⊛ ‵ (follows_both Items Item Item γ r.0.ghost_name r.1.ghost_name (λ x y. slice_set (slice_set items one x) other y))
    ⊛ raw (fact 𝓤 (slice_get items one ≡ Some r.0.now)) ⊛ raw (fact 𝓤 (slice_get items other ≡ Some r.1.now)))))) (id⊢ 𝓤 _) $
    await ! tt $ pick ! (λ r. split ! $ split ! $ move ! (2 ∷ []) $ pick ! (λ ws. split3 ! $ drop ! $ move ! (1 ∷ []) $ split ! $ heard ! _ (λ first. heard ! _ (λ second. move ! (2 ∷ []) $
    -- [the pair; what the slice is afterwards; the tokens]
    peeks ! Pair _ (shows 𝓛 Pair) r (v ∷ []) (λ seen.
    let pair = pair_val r in let e : v ≡ pair = pair_told κ Item r v seen in
    lands_as ! e refl (tt, (tt, (tt, tt))) $ rewrite ! 0 (λ (w : Val). ‵ (Pair.own_val r (w ∷ []))) e refl $
    sets ! (agg ! (and_then ! (lit ! tt) (and_then ! (get ! refl) (no_more !)))) refl (tt, (record { fits = lit< tt }, ((tt, (tt, tt)), tt))) $
    returns ! (look_at ! 0 refl) $ free_all ! refl $ use1 𝓛 (‵ (Answer.own_val (Ok r) (live 0 (of_list (pair ∷ [])) ∷ []))) (ok_of 𝓛 Pair Error.the_row r pair) $ move ! (1 ∷ 0 ∷ []) $
    out (Ok r) (live 0 (of_list (pair ∷ []))) (told_lent items one other one_in other_in apart r first second)))))))))))))
