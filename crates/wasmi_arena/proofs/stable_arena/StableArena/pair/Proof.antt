-- `pair` lends two items of all. Assumes `Logic`.
use Rattle.std.proofs.Common.{◌≡◌, ◌≢◌, ◌<◌, ◌^◌, List, [], ◌∷◌, length, set, Some, refl, sym, ap, ◌∙◌, subst, w64, MutBor}
use Rattle.wasmi_arena.proofs.Steps.{proved, id⊢, emp, GName, ftrue, flft, ◌⊑◌, Lfts, Shares, fact, tables, named, Args, a_type, dcons, dnil, inst_fn, Val, size, alloc_all, pass_all, free_all, look_at, get, through, sets, lands_as, ‵, raw, ◌⊛◌, some, later, ◌$◌, ◌∵◌, !, qed, done, move, keep, drop, join, split, split3, use0, use1, use2, pick, rewrite, await, group, frame, suffices, enter, of_opd, addr, stop, and_then, no_more, returns, Array, usize, no, yes, follows, follows_both, layout, param, bounded, uint_vals, uint_Tells, uint_Makes, MutRef, mut_vals, mut_Tells, plain, named_lft, shows, nothing, heard, owned, peeks, only, calls_at, lasts, triple_of, framed, Stays, walk_of, stay_dropped, Goes-spent_ref, Goes-dropped, ends_at}
use Rattle.std.specs.Prelude.{slice_get}
use Rattle.core.specs.List.{refill}
use contract.Fact.{fact_i}
use Rattle.core.proofs.alloc.Calls.{Al}
use Rattle.core.proofs.mem.Param.{El}
use Rattle.wasmi_arena.specs.inner.Table.{items_of, HasBuckets}
use Rattle.wasmi_arena.specs.contracts.stable_arena.StableArena.pair as F
use Rattle.wasmi_arena.specs.contracts.stable_arena.StableArena.lend as All
use Rattle.wasmi_arena.specs.contracts.raw.loan.ItemsLoan.pair as Both
use Rattle.wasmi_arena.proofs.stable_arena.StableArena.lend.Met as LendsAll
use Rattle.wasmi_arena.proofs.raw.loan.ItemsLoan.pair.Met as LendsBoth
use Rattle.wasmi_arena.proofs.stable_arena.StableArena.pair.Statement.{statement}
use Rattle.wasmi_arena.proofs.stable_arena.StableArena.pair.Code as code
use Rattle.wasmi_arena.proofs.FilledParts.{HasBuckets-items, HasBuckets-own}
use Rattle.wasmi_arena.proofs.Frame.{let_go, gone, says_two}
use Rattle.wasmi_arena.proofs.LoanMemory.{LoanRow, loan_val, loan_tells, loan_good}
use Rattle.wasmi_arena.proofs.PairLoans.{follows_both_then}
use Rattle.wasmi_arena.proofs.PairPlaces.{ends_both}
use Rattle.wasmi_arena.proofs.PairResults.{Pair, pair_val, pair_told}
use Rattle.wasmi_arena.proofs.ArenaMemory.{ArenaRow}

pub pair_spec : {M : Type 1} → statement M
pair_spec 𝓤 𝓛 𝓜 𝓡 wired K X Y LK LX LY copy keys kd clone cd g d dd k_met c_met met md =
    let E : El = record { row = X; laws = LX } in let Z : Al = record { row = Y; laws = LY; g = g; d = d; drops = dd } in
    let args : Args = bounded (a_type ∷ a_type ∷ a_type ∷ []) (K, (X, (Y, tt))) (dcons kd (dcons cd (dcons d (dcons dd dnil)))) in
    let call = F.ended K X Y keys kd clone cd g d dd in let c = F.clauses K X Y keys kd clone cd g d dd 𝓛 𝓜.mem 𝓡.returns in
    let T = param 1 X in let Items = Array T 0 in let Self = ArenaRow K E Z keys in let function = inst_fn args code.function in
    let stayed : Stays call.signature.params call.kept = (stay_dropped _ no, (stay_dropped _ yes, (stay_dropped _ yes, tt))) in
    let W = walk_of 𝓛 call stayed c in let 𝓣 = tables 𝓤 𝓛.H 𝓜 𝓡 𝓡.env in
    let number = Goes-dropped 𝓛 4 (plain (λ _. usize)) yes (λ κs x w. refl) in
    proved 𝓛 call stayed c 𝓜 𝓡 (Goes-spent_ref 𝓛 4 (0 ∷ []) tt (plain (λ _. Self)), (number, (number, tt)))
    (F.Key.name args) function (code.unfolded 𝓤 𝓛.H 𝓜 𝓡 wired (K, (X, (Y, tt))) kd cd d dd)
    (λ κs. (mut_vals, (uint_vals w64, (uint_vals w64, tt)))) (λ κs. (mut_Tells (named 0) κs.0 Self, (uint_Tells w64, (uint_Tells w64, tt))))
    (λ κs qs bounds a _ are.
    let items = a.0.now in let κ = κs.0 in let q = qs.0 in let γ = a.0.ghost_name in let i = a.1.0 in let j = a.1.1.0 in
    let y : W.Ghost = ((κs, qs, bounds, a, (mut_vals a.0, (uint_vals w64 i, (uint_vals w64 j, tt)))), tt) in
    let alive = ‵ (flft κ q) ⊛ ‵ (flft κs.1.0 qs.1.0) ⊛ ‵ (flft κs.1.1.0 qs.1.1.0) ⊛ ‵ (flft κs.1.1.1.0 qs.1.1.1.0) ⊛ ‵ ftrue in let Two : Type 0 = MutBor X.Denot × MutBor X.Denot in
    let Final = λ (x y : X.Denot). set (set items i x) j y in
    qed 𝓛 ((alive ⊛ ‵ ((MutRef (named 0) κ Self).own_val a.0 (mut_vals a.0)) ⊛ ‵ (usize.own_val i (uint_vals w64 i)) ⊛ ‵ (usize.own_val j (uint_vals w64 j)) ⊛ ‵ ftrue)
    ∷ (raw (fact 𝓤 (κs.1.0 ⊑ K.lives)) ⊛ raw (fact 𝓤 (κs.1.1.0 ⊑ X.lives)) ⊛ raw (fact 𝓤 (κs.1.1.1.0 ⊑ Y.lives)) ⊛ raw (fact 𝓤 (size (layout Self) < 2 ^ 63)) ⊛ raw (fact 𝓤 (i ≢ j)) ⊛ raw (fact 𝓤 (i < length items)) ⊛ raw (fact 𝓤 (j < length items))) ∷ []) ∵
    move ! (1 ∷ []) $ split ! $ heard ! _ (λ in_K. split ! $ heard ! _ (λ in_T. split ! $ heard ! _ (λ in_A. split ! $ heard ! _ (λ small. split ! $ heard ! _ (λ apart. split ! $ heard ! _ (λ low. heard ! _ (λ high.
    split ! $ move ! (1 ∷ []) $ split ! $ keep ! (0 ∷ 2 ∷ []) $
    -- [the reference; the tokens]
    enter ! _ _ _ _ _ $ alloc_all ! (λ l. pass_all ! refl ((tt, tt), ((tt, record { fits = are.1.0.1 }), ((tt, record { fits = are.1.1.0.1 }), tt))) $
    -- all items
    sets ! (addr ! (through ! refl (stop !))) refl (tt, tt) $
    let G₁ = triple_of 𝓛 (All.signature K X Y keys kd clone cd g d dd) (All.spec K X Y keys kd clone cd g d dd 𝓛 𝓜.mem 𝓡.returns) in let z₁ : G₁.Ghost = ((κs, qs, bounds, (a.0, tt), (mut_vals a.0, tt)), tt) in
    let ℓ = named_lft 4 0 tt κs in let Loan = LoanRow ℓ E Z in
    nothing ! $ move ! (1 ∷ 0 ∷ []) $ join ! $ move ! (1 ∷ 0 ∷ []) $ join ! $ nothing ! $ use0 𝓛 (raw (fact 𝓤 (size (layout Self) < 2 ^ 63))) (fact_i 𝓤 _ (emp 𝓤) small) $ join ! $
    use0 𝓛 (raw (fact 𝓤 (κs.1.1.1.0 ⊑ Y.lives))) (fact_i 𝓤 _ (emp 𝓤) in_A) $ join ! $ use0 𝓛 (raw (fact 𝓤 (κs.1.1.0 ⊑ X.lives))) (fact_i 𝓤 _ (emp 𝓤) in_T) $ join ! $
    use0 𝓛 (raw (fact 𝓤 (κs.1.0 ⊑ K.lives))) (fact_i 𝓤 _ (emp 𝓤) in_K) $ join ! $ move ! (1 ∷ 0 ∷ []) $ use2 𝓛 (raw (G₁.pre z₁)) (id⊢ 𝓤 _) $
    calls_at ! (framed 𝓤 𝓛.H 𝓜 𝓣) G₁ (LendsAll.met 𝓤 𝓛 𝓜 𝓡 (code.calls-wasmi_arena::stable_arena::StableArena::lend 𝓡.env wired) K X Y LK LX LY copy keys kd clone cd g d dd k_met c_met met md) z₁
    (and_then ! (get ! refl) (no_more !)) (λ v₁.
    let With = refill (length items) items in
    use1 𝓛 (later (some (λ (it : Loan.Denot). (alive ⊛ ‵ (Loan.own_val it (v₁ ∷ []))) ⊛
    some (λ (ws : Unit {0} × Unit {0}). ‵ (lasts (All.ended K X Y keys kd clone cd g d dd) κs (a.0, tt) ws) ⊛ ‵ (follows Self Self γ it.whole With) ⊛ raw (fact 𝓤 (it.name ≡ it.whole)) ⊛ raw (fact 𝓤 (HasBuckets items it.buckets)))))) (id⊢ 𝓤 _) $
    await ! tt $ pick ! (λ it. split ! $ split ! $ move ! (2 ∷ []) $ pick ! (λ ws₁. split3 ! $ drop ! $ move ! (1 ∷ []) $ split ! $ heard ! _ (λ one_name. heard ! _ (λ has. move ! (2 ∷ []) $
    peeks ! Loan _ (shows 𝓛 Loan) it (v₁ ∷ []) (λ seen₁.
    let loan = loan_val ℓ E Z it.start in let e₁ : v₁ ≡ loan = ap only (loan_tells ℓ E Z it (v₁ ∷ []) seen₁) in
    lands_as ! e₁ refl (loan_good ℓ E Z it.start) $ rewrite ! 0 (λ (w : Val). ‵ (Loan.own_val it (w ∷ []))) e₁ refl $ sets ! (of_opd ! (get ! refl)) refl (loan_good ℓ E Z it.start) $
    -- [the loan; what the arena is afterwards; the tokens]
    -- two of them
    let are_items = HasBuckets-items items it.buckets has in let own = HasBuckets-own items it.buckets has in
    let low' : i < length (items_of it.buckets) = subst (λ (xs : List X.Denot). i < length xs) (sym are_items) low in let high' : j < length (items_of it.buckets) = subst (λ (xs : List X.Denot). j < length xs) (sym are_items) high in
    let G₂ = triple_of 𝓛 (Both.signature X Y g d dd) (Both.spec X Y g d dd 𝓛 𝓜.mem 𝓡.returns) in
    let κs₂ : Lfts 3 = (κ, κs.1.1) in let qs₂ : Shares 3 = (q, qs.1.1) in
    let z₂ : G₂.Ghost = ((κs₂, qs₂, bounds.1, (it, (i, (j, tt))), (loan ∷ [], (uint_vals w64 i, (uint_vals w64 j, tt)))), tt) in
    nothing ! $ owned ! usize _ (uint_Makes 𝓛 w64) j _ (refl, are.1.1.0.1) $ join ! $ owned ! usize _ (uint_Makes 𝓛 w64) i _ (refl, are.1.0.1) $ join ! $ move ! (1 ∷ 0 ∷ []) $ join ! $
    move ! (2 ∷ []) $ split3 ! $ move ! (0 ∷ 2 ∷ []) $ join ! $ move ! (0 ∷ 2 ∷ []) $ join ! $
    use0 𝓛 (raw (fact 𝓤 (j < length (items_of it.buckets)))) (fact_i 𝓤 _ (emp 𝓤) high') $ use0 𝓛 (raw (fact 𝓤 (i < length (items_of it.buckets)))) (fact_i 𝓤 _ (emp 𝓤) low') $ join ! $
    use0 𝓛 (raw (fact 𝓤 (i ≢ j))) (fact_i 𝓤 _ (emp 𝓤) apart) $ join ! $ use0 𝓛 (raw (fact 𝓤 (HasBuckets (items_of it.buckets) it.buckets))) (fact_i 𝓤 _ (emp 𝓤) own) $ join ! $
    use0 𝓛 (raw (fact 𝓤 (κs.1.1.1.0 ⊑ Y.lives))) (fact_i 𝓤 _ (emp 𝓤) in_A) $ join ! $ use0 𝓛 (raw (fact 𝓤 (κs.1.1.0 ⊑ X.lives))) (fact_i 𝓤 _ (emp 𝓤) in_T) $ join ! $
    move ! (1 ∷ 0 ∷ []) $ use2 𝓛 (raw (G₂.pre z₂)) (id⊢ 𝓤 _) $
    calls_at ! (framed 𝓤 𝓛.H 𝓜 𝓣) G₂ (LendsBoth.met 𝓤 𝓛 𝓜 𝓡 (code.calls-wasmi_arena::raw::loan::ItemsLoan::pair 𝓡.env wired) X Y LX LY g d dd met md) z₂
    (and_then ! (get ! refl) (and_then ! (get ! refl) (and_then ! (get ! refl) (no_more !)))) (λ v.
    let Written = λ (x y : X.Denot). set (set (items_of it.buckets) i x) j y in
    use1 𝓛 (later (some (λ (r : Two). ((‵ (flft κ q) ⊛ ‵ (flft κs.1.1.0 qs.1.1.0) ⊛ ‵ (flft κs.1.1.1.0 qs.1.1.1.0) ⊛ ‵ ftrue) ⊛ ‵ ((Pair κ T).own_val r (v ∷ []))) ⊛
    some (λ (ws : Unit {0} × (Unit {0} × (Unit {0} × Unit {0}))). ‵ (lasts (Both.ended X Y g d dd) κs₂ (it, (i, (j, tt))) ws) ⊛ ‵ (follows_both Items T T it.name r.0.ghost_name r.1.ghost_name Written)
    ⊛ raw (fact 𝓤 (slice_get (items_of it.buckets) i ≡ Some r.0.now)) ⊛ raw (fact 𝓤 (slice_get (items_of it.buckets) j ≡ Some r.1.now)))))) (id⊢ 𝓤 _) $
    await ! tt $ pick ! (λ r. split ! $ split ! $ move ! (2 ∷ []) $ pick ! (λ ws. split3 ! $ drop ! $ move ! (1 ∷ []) $ split ! $ heard ! _ (λ at_i. heard ! _ (λ at_j. move ! (2 ∷ []) $
    peeks ! (Pair κ T) _ (shows 𝓛 (Pair κ T)) r (v ∷ []) (λ seen.
    let told = pair_told κ T r v seen in let both = pair_val r in
    lands_as ! told refl (tt, (tt, (tt, tt))) $ rewrite ! 0 (λ (w : Val). ‵ ((Pair κ T).own_val r (w ∷ []))) told refl $
    returns ! (look_at ! 0 refl) $ free_all ! refl $
    -- [the pair; what the loan is afterwards; the tokens of the borrow, T and A; that of Key; what the arena is afterwards]
    move ! (2 ∷ []) $ split ! $ move ! (4 ∷ 1 ∷ []) $ join ! $ move ! (1 ∷ 0 ∷ []) $ join ! $ move ! (1 ∷ 2 ∷ 0 ∷ 3 ∷ []) $
    -- [the pair; what the loan is afterwards; the tokens; what the arena is afterwards]
    let is : (λ x y. With (Written x y)) ≡ Final = λ k x y. ends_both items it.buckets has i j x y k in
    move ! (1 ∷ []) $ rewrite ! 0 (λ (n : GName). ‵ (follows_both Self T T n r.0.ghost_name r.1.ghost_name Written)) one_name refl $ move ! (3 ∷ 0 ∷ []) $
    use2 𝓛 (‵ (follows_both Self T T γ r.0.ghost_name r.1.ghost_name (λ x y. With (Written x y)))) (follows_both_then 𝓛 Self Self T T With Written γ it.whole r.0.ghost_name r.1.ghost_name) $
    rewrite ! 0 (λ (f : X.Denot → X.Denot → List X.Denot). ‵ (follows_both Self T T γ r.0.ghost_name r.1.ghost_name f)) is refl $ move ! (1 ∷ []) $
    -- [the pair; what the arena is afterwards; the tokens]
    suffices ! _ (ends_at 𝓛 call stayed c y both r (tt, (tt, (tt, tt))) (tt, (tt, (tt, tt)))) $
    use0 𝓛 (‵ (let_go 3)) (gone 𝓛 3) $ move ! (3 ∷ 0 ∷ 1 ∷ 2 ∷ []) $ group ! 3 $ frame ! $
    says_two ! (ap (λ (xs : List X.Denot). slice_get xs i) (sym are_items) ∙ at_i) (ap (λ (xs : List X.Denot). slice_get xs j) (sym are_items) ∙ at_j) $ done !)))))))))))))))))))))
