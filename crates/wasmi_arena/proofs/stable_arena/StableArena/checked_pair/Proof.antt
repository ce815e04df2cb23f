-- `checked_pair` lends two items, or leaves the arena as it is. Assumes `Logic`.
use Rattle.std.proofs.Common.{◌≡◌, ◌≢◌, ℕ, ◌<◌, ◌≤◌, ◌^◌, List, [], ◌∷◌, length, set, Result, Ok, Err, Some, refl, subst, inl, inr, lit<, MutBor}
use Rattle.wasmi_arena.proofs.Steps.{eqb→eq, leb→le, nleb→lt, proved, ent, id⊢, emp, sem, Fml, ftrue, flft, ◌⊑◌, fact, tables, named, Args, a_type, dcons, dnil, w64, inst_fn, Val, of_list, size, alloc_all, pass_all, free_all, look_at, get, through, sets, lands_as, env, ‵, raw, ◌⊛◌, some, later, prop, at_ret, Sq, ◌$◌, ◌∵◌, !, qed, done, move, keep, drop, join, split, split3, fsplit, fsplit3, fjoin, use0, use1, use2, pick, rewrite, await, group, frame, suffices, live, agg, enter, addr, stop, bin, lit, and_then, no_more, first, branches, skips, exec, returns, returns_within, usize, no, yes, follows_both_if, layout, param, bounded, uint_vals, uint_Tells, uint_Makes, RattleType, Valss, owns, MutRef, mut_vals, mut_Tells, plain, shows, nothing, heard, owned, peeks, calls_at, lasts, triple_of, framed, Stays, walk_of, says, stay_dropped, Goes-spent_ref, Goes-dropped, ends_at}
use Rattle.std_alloc.proofs.VecSteps.Shapes.{after as rest_of}
use Rattle.std.specs.Prelude.{slice_get}
use Rattle.core.proofs.once.Made.{ok_of}
use Rattle.wasmi_arena.specs.contracts.error.ArenaError as ErrorType
use contract.Fact.{fact_i}
use denote.Follow.{both_if_by}
use Rattle.core.proofs.alloc.Calls.{Al}
use Rattle.core.proofs.mem.Param.{El}
use Rattle.wasmi_arena.specs.Pairs.{names_if_ok}
use Rattle.wasmi_arena.specs.inner.Pairs.{PairAnswer}
use Rattle.wasmi_arena.specs.declared.error.ArenaError.{ArenaError}
use Rattle.wasmi_arena.specs.declared.error.ArenaError.TheVariants.{KeyOutOfBounds, AliasingPairAccess}
use Rattle.wasmi_arena.specs.contracts.stable_arena.StableArena.checked_pair as F
use Rattle.wasmi_arena.specs.contracts.stable_arena.StableArena.pair as Call
use Rattle.wasmi_arena.proofs.stable_arena.StableArena.pair.Met as Lends
use Rattle.wasmi_arena.proofs.stable_arena.StableArena.checked_pair.Statement.{statement}
use Rattle.wasmi_arena.proofs.stable_arena.StableArena.checked_pair.Code as code
use Rattle.wasmi_arena.proofs.Frame.{let_go, gone}
use Rattle.wasmi_arena.proofs.PairResults.{Pair, PairOr, pair_val, pair_told, error_val, place_of, refused, neqb→neq}
use Rattle.wasmi_arena.proofs.ArenaMemory.{ArenaRow}

pub checked_pair_spec : {M : Type 1} → statement M
unfolding both_if_by
checked_pair_spec 𝓤 𝓛 𝓜 𝓡 wired K X Y LK LX LY copy keys kd clone cd g d dd k_met c_met met md =
    let E : El = record { row = X; laws = LX } in let Z : Al = record { row = Y; laws = LY; g = g; d = d; drops = dd } in
    let args : Args = bounded (a_type ∷ a_type ∷ a_type ∷ []) (K, (X, (Y, tt))) (dcons kd (dcons cd (dcons d (dcons dd dnil)))) in
    let call = F.ended K X Y keys kd clone cd g d dd in let c = F.clauses K X Y keys kd clone cd g d dd 𝓛 𝓜.mem 𝓡.returns in
    let T = param 1 X in let Self = ArenaRow K E Z keys in let function = inst_fn args code.function in
    let stayed : Stays call.signature.params call.kept = (stay_dropped _ no, (stay_dropped _ yes, (stay_dropped _ yes, (stay_dropped _ yes, tt)))) in
    let W = walk_of 𝓛 call stayed c in let 𝓣 = tables 𝓤 𝓛.H 𝓜 𝓡 𝓡.env in
    let number = Goes-dropped 𝓛 4 (plain (λ _. usize)) yes (λ κs x w. refl) in
    proved 𝓛 call stayed c 𝓜 𝓡 (Goes-spent_ref 𝓛 4 (0 ∷ []) tt (plain (λ _. Self)), (number, (number, (number, tt))))
    (F.Key.name args) function (code.unfolded 𝓤 𝓛.H 𝓜 𝓡 wired (K, (X, (Y, tt))) kd cd d dd)
    (λ κs. (mut_vals, (uint_vals w64, (uint_vals w64, (uint_vals w64, tt))))) (λ κs. (mut_Tells (named 0) κs.0 Self, (uint_Tells w64, (uint_Tells w64, (uint_Tells w64, tt)))))
    (λ κs qs bounds a _ are.
    let items = a.0.now in let b = a.0.ref_ptr.0 in let o = a.0.ref_ptr.1 in let κ = κs.0 in let q = qs.0 in let γ = a.0.ghost_name in
    let len = a.1.0 in let i = a.1.1.0 in let j = a.1.1.1.0 in
    let Taken : List RattleType = MutRef (named 0) κ Self ∷ usize ∷ usize ∷ usize ∷ [] in
    let vals : Valss Taken = (mut_vals a.0, (uint_vals w64 len, (uint_vals w64 i, (uint_vals w64 j, tt)))) in
    let y : W.Ghost = ((κs, qs, bounds, a, vals), tt) in
    let others_alive = ‵ (flft κs.1.0 qs.1.0) ⊛ ‵ (flft κs.1.1.0 qs.1.1.0) ⊛ ‵ (flft κs.1.1.1.0 qs.1.1.1.0) ⊛ ‵ ftrue in
    let alive = ‵ (flft κ q) ⊛ others_alive in let Two : Type 0 = MutBor X.Denot × MutBor X.Denot in
    let Final = λ (x y : X.Denot). set (set items i x) j y in let Ends : Result Two ArenaError → Fml = λ r. follows_both_if Self T T γ (names_if_ok r) Final items in
    let refuses : (e : ArenaError) (v : Val) → ent 𝓤 (emp 𝓤) (sem 𝓛 ((PairOr κ T).own_val (Err e) (v ∷ []))) → PairAnswer items i j (Err e)
    → Sq 𝓛 (‵ ((MutRef (named 0) κ Self).own_val a.0 (mut_vals a.0)) ∷ alive ∷ []) (prop (W.post y v)) = λ e v made says_so.
    suffices ! _ (ends_at 𝓛 call stayed c y v (Err e) (tt, (tt, (tt, (tt, tt)))) (tt, (tt, (tt, (tt, tt))))) $
    fsplit3 ! $ keep ! (1 ∷ 3 ∷ []) $ use1 𝓛 (‵ (Ends (Err e))) (𝓛.names.obs-res γ (Self.coded.code items)) $ use0 𝓛 (‵ ((PairOr κ T).own_val (Err e) (v ∷ []))) made $
    use0 𝓛 (‵ (let_go 4)) (gone 𝓛 4) $ move ! (3 ∷ 0 ∷ 1 ∷ 2 ∷ []) $ group ! 3 $ frame ! $ says ! says_so $ done ! in
    qed 𝓛 ((alive ⊛ ‵ (owns Taken a vals))
    ∷ (raw (fact 𝓤 (κs.1.0 ⊑ K.lives)) ⊛ raw (fact 𝓤 (κs.1.1.0 ⊑ X.lives)) ⊛ raw (fact 𝓤 (κs.1.1.1.0 ⊑ Y.lives)) ⊛ raw (fact 𝓤 (size (layout Self) < 2 ^ 63)) ⊛ raw (fact 𝓤 (len ≡ length items))) ∷ []) ∵
    move ! (1 ∷ []) $ split ! $ heard ! _ (λ in_K. split ! $ heard ! _ (λ in_T. split ! $ heard ! _ (λ in_A. split ! $ heard ! _ (λ small. heard ! _ (λ counted.
    split ! $ move ! (1 ∷ []) $ fsplit ! $ keep ! (0 ∷ 2 ∷ []) $
    -- [the reference; the tokens]
    enter ! _ _ _ _ _ $ alloc_all ! (λ l. let here = env function.locals l in pass_all ! refl ((tt, tt), ((tt, record { fits = are.1.0.1 }), ((tt, record { fits = are.1.1.0.1 }), ((tt, record { fits = are.1.1.1.0.1 }), tt)))) $
    sets ! (bin ! (get ! refl) (get ! refl) tt) refl (tt, tt) $ first ! $ branches ! (get ! refl)
    (λ same. sets ! (agg ! (and_then ! (lit ! tt) (no_more !))) refl (tt, (record { fits = lit< tt }, tt)) $
    sets ! (agg ! (and_then ! (lit ! tt) (and_then ! (get ! refl) (no_more !)))) refl (tt, (record { fits = lit< tt }, ((record { fits = lit< tt }, tt), tt))) $
    returns_within ! (W.post y) refl (look_at ! 0 refl) $ free_all ! refl $ refuses AliasingPairAccess (live 1 (of_list (error_val (place_of AliasingPairAccess) ∷ []))) (refused 𝓛 κ T AliasingPairAccess) (eqb→eq i j same))
    (λ differ. let distinct : i ≢ j = neqb→neq i j differ in
    skips ! $ exec ! 𝓣.C 𝓣.Λ here (rest_of 2 function.body) (at_ret here (W.post y)) $
    sets ! (bin ! (get ! refl) (get ! refl) tt) refl (tt, tt) $ first ! $ branches ! (get ! refl)
    (λ out. sets ! (agg ! (and_then ! (lit ! tt) (no_more !))) refl (tt, (record { fits = lit< tt }, tt)) $
    sets ! (agg ! (and_then ! (lit ! tt) (and_then ! (get ! refl) (no_more !)))) refl (tt, (record { fits = lit< tt }, ((record { fits = lit< tt }, tt), tt))) $
    returns_within ! (W.post y) refl (look_at ! 0 refl) $ free_all ! refl $ refuses KeyOutOfBounds (live 1 (of_list (error_val (place_of KeyOutOfBounds) ∷ []))) (refused 𝓛 κ T KeyOutOfBounds) (distinct, inl (subst (λ (n : ℕ). n ≤ i) counted (leb→le len i out))))
    (λ within_i. skips ! $ exec ! 𝓣.C 𝓣.Λ here (rest_of 4 function.body) (at_ret here (W.post y)) $
    sets ! (bin ! (get ! refl) (get ! refl) tt) refl (tt, tt) $ first ! $ branches ! (get ! refl)
    (λ out. sets ! (agg ! (and_then ! (lit ! tt) (no_more !))) refl (tt, (record { fits = lit< tt }, tt)) $
    sets ! (agg ! (and_then ! (lit ! tt) (and_then ! (get ! refl) (no_more !)))) refl (tt, (record { fits = lit< tt }, ((record { fits = lit< tt }, tt), tt))) $
    returns_within ! (W.post y) refl (look_at ! 0 refl) $ free_all ! refl $ refuses KeyOutOfBounds (live 1 (of_list (error_val (place_of KeyOutOfBounds) ∷ []))) (refused 𝓛 κ T KeyOutOfBounds) (distinct, inr (subst (λ (n : ℕ). n ≤ j) counted (leb→le len j out))))
    (λ within_j. skips ! $ exec ! 𝓣.C 𝓣.Λ here (rest_of 6 function.body) (at_ret here (W.post y)) $
    let low : i < length items = subst (λ (n : ℕ). i < n) counted (nleb→lt len i within_i) in let high : j < length items = subst (λ (n : ℕ). j < n) counted (nleb→lt len j within_j) in
    sets ! (addr ! (through ! refl (stop !))) refl (tt, tt) $
    let G = triple_of 𝓛 (Call.signature K X Y keys kd clone cd g d dd) (Call.spec K X Y keys kd clone cd g d dd 𝓛 𝓜.mem 𝓡.returns) in
    let z : G.Ghost = ((κs, qs, bounds, (a.0, (i, (j, tt))), (mut_vals a.0, (uint_vals w64 i, (uint_vals w64 j, tt)))), tt) in
    nothing ! $ owned ! usize _ (uint_Makes 𝓛 w64) j _ (refl, are.1.1.1.0.1) $ fjoin ! $ owned ! usize _ (uint_Makes 𝓛 w64) i _ (refl, are.1.1.0.1) $ fjoin ! $
    move ! (1 ∷ 0 ∷ []) $ fjoin ! $ move ! (1 ∷ 0 ∷ []) $ join ! $
    use0 𝓛 (raw (fact 𝓤 (j < length items))) (fact_i 𝓤 _ (emp 𝓤) high) $ use0 𝓛 (raw (fact 𝓤 (i < length items))) (fact_i 𝓤 _ (emp 𝓤) low) $ join ! $
    use0 𝓛 (raw (fact 𝓤 (i ≢ j))) (fact_i 𝓤 _ (emp 𝓤) distinct) $ join ! $ use0 𝓛 (raw (fact 𝓤 (size (layout Self) < 2 ^ 63))) (fact_i 𝓤 _ (emp 𝓤) small) $ join ! $
    use0 𝓛 (raw (fact 𝓤 (κs.1.1.1.0 ⊑ Y.lives))) (fact_i 𝓤 _ (emp 𝓤) in_A) $ join ! $ use0 𝓛 (raw (fact 𝓤 (κs.1.1.0 ⊑ X.lives))) (fact_i 𝓤 _ (emp 𝓤) in_T) $ join ! $
    use0 𝓛 (raw (fact 𝓤 (κs.1.0 ⊑ K.lives))) (fact_i 𝓤 _ (emp 𝓤) in_K) $ join ! $
    move ! (1 ∷ 0 ∷ []) $ use2 𝓛 (raw (G.pre z)) (id⊢ 𝓤 _) $
    calls_at ! (framed 𝓤 𝓛.H 𝓜 𝓣) G (Lends.met 𝓤 𝓛 𝓜 𝓡 (code.calls-wasmi_arena::stable_arena::StableArena::pair 𝓡.env wired) K X Y LK LX LY copy keys kd clone cd g d dd k_met c_met met md) z
    (and_then ! (get ! refl) (and_then ! (get ! refl) (and_then ! (get ! refl) (no_more !)))) (λ v.
    use1 𝓛 (later (some (λ (r : Two). (alive ⊛ ‵ ((Pair κ T).own_val r (v ∷ []))) ⊛
    some (λ (ws : Unit {0} × (Unit {0} × (Unit {0} × Unit {0}))). ‵ (lasts (Call.ended K X Y keys kd clone cd g d dd) κs (a.0, (i, (j, tt))) ws)
    ⊛ ‵ (Ends (Ok r)) ⊛ raw (fact 𝓤 (slice_get items i ≡ Some r.0.now)) ⊛ raw (fact 𝓤 (slice_get items j ≡ Some r.1.now)))))) (id⊢ 𝓤 _) $
    await ! tt $ pick ! (λ r. split ! $ split ! $ move ! (2 ∷ []) $ pick ! (λ ws. split3 ! $ drop ! $ move ! (1 ∷ []) $ split ! $ heard ! _ (λ at_i. heard ! _ (λ at_j.
    move ! (2 ∷ []) $ peeks ! (Pair κ T) _ (shows 𝓛 (Pair κ T)) r (v ∷ []) (λ seen.
    let told = pair_told κ T r v seen in let both = pair_val r in
    lands_as ! told refl (tt, (tt, (tt, tt))) $ rewrite ! 0 (λ (w : Val). ‵ ((Pair κ T).own_val r (w ∷ []))) told refl $
    sets ! (agg ! (and_then ! (lit ! tt) (and_then ! (get ! refl) (no_more !)))) refl (tt, (record { fits = lit< tt }, ((tt, (tt, tt)), tt))) $
    returns ! (look_at ! 0 refl) $ free_all ! refl $
    use1 𝓛 (‵ ((PairOr κ T).own_val (Ok r) (live 0 (of_list (both ∷ [])) ∷ []))) (ok_of 𝓛 (Pair κ T) ErrorType.the_row r both) $
    suffices ! _ (ends_at 𝓛 call stayed c y (live 0 (of_list (both ∷ []))) (Ok r) (tt, (tt, (tt, (tt, tt)))) (tt, (tt, (tt, (tt, tt))))) $
    -- [the result; what is said of the lender; the tokens]
    use0 𝓛 (‵ (let_go 4)) (gone 𝓛 4) $
    move ! (3 ∷ 0 ∷ 1 ∷ 2 ∷ []) $ group ! 3 $ frame ! $ says ! (distinct, at_i, at_j) $ done !))))))))))))))))
