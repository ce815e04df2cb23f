-- `pair` lends two items by their slots. Assumes `Logic`.
use Rattle.std.proofs.Common.{◌≡◌, ◌≢◌, ◌<◌, List, [], ◌∷◌, length, get_or, set, None, Some, refl, sym, ap, ◌∙◌, subst, w64, MutBor}
use Rattle.wasmi_arena.proofs.Steps.{proved, emp, id⊢, ftrue, flft, Args, a_type, dcons, dnil, inst_fn, Val, vint, vstruct, vcons, vnil, has_ty, WT, ◌⊑◌, fact, tables, join, use0, use1, use2, ‵, raw, ◌⊛◌, some, later, prop, Sq, ◌$◌, ◌∵◌, !, qed, done, move, keep, drop, split, split3, group, pick, await, frame, rewrite, suffices, whole, sub, enter, of_opd, fld, stop, returns, and_then, no_more, alloc_all, pass_all, free_all, look_at, get, get_in, sets, lands_as, env, Array, usize, yes, no, follows_both, shows, bounded, layout, uint_vals, uint_Tells, uint_Makes, plain, named_lft, nothing, heard, owned, peeks, only, Struct-Tells, Tuple, tuple_type, calls_at, lasts, triple_of, framed, Stays, walk_of, stay_dropped, Goes-dropped, ends_at}
use Rattle.std.specs.Prelude.{slice_get}
use lib.Dec as dec
use contract.Fact.{fact_i}
use denote.Steps.{facts}
use denote.Struct.Declared as Declared
use Rattle.core.proofs.alloc.Calls.{Al, Goes-blank}
use Rattle.core.proofs.mem.Param.{El, R}
use Rattle.wasmi_arena.specs.Geometry.{IsPlace, max_len}
use Rattle.wasmi_arena.specs.inner.Table.{items_of, items_in, write, HasBuckets}
use Rattle.wasmi_arena.specs.contracts.raw.loan.ItemsLoan.pair as F
use Rattle.wasmi_arena.specs.contracts.raw.loan.ItemsLoan.pair_slots as Slots
use Rattle.wasmi_arena.specs.contracts.geometry.two_places as Places
use Rattle.wasmi_arena.proofs.raw.loan.ItemsLoan.pair_slots.Met as LendsSlots
use Rattle.wasmi_arena.proofs.geometry.two_places.Met as Placed
use Rattle.wasmi_arena.proofs.raw.loan.ItemsLoan.pair.Statement.{statement}
use Rattle.wasmi_arena.proofs.raw.loan.ItemsLoan.pair.Code as code
use Rattle.wasmi_arena.proofs.Frame.{let_go, gone, says_two}
use Rattle.wasmi_arena.proofs.LoanMemory.{LoanRow, loan_val, loan_tells, loan_good}
use Rattle.wasmi_arena.proofs.PairPlaces.{below_max, filled, reads, slots_apart, ends}
use Rattle.wasmi_arena.proofs.PairResults.{Pair, pair_told}

pub pair_spec : {M : Type 1} → statement M
pair_spec 𝓤 𝓛 𝓜 𝓡 wired X Y LX LY g d dd met md =
    let E : El = record { row = X; laws = LX } in let Z : Al = record { row = Y; laws = LY; g = g; d = d; drops = dd } in
    let args : Args = bounded (a_type ∷ a_type ∷ []) (X, (Y, tt)) (dcons d (dcons dd dnil)) in
    let call = F.ended X Y g d dd in let c = F.clauses X Y g d dd 𝓛 𝓜.mem 𝓡.returns in
    let stayed : Stays call.signature.params call.kept = (stay_dropped _ no, (stay_dropped _ yes, (stay_dropped _ yes, tt))) in
    let function = inst_fn args code.function in
    let W = walk_of 𝓛 call stayed c in let 𝓣 = tables 𝓤 𝓛.H 𝓜 𝓡 𝓡.env in
    let T = R E in let Items = Array T 0 in
    let number = Goes-dropped 𝓛 3 (plain (λ _. usize)) yes (λ κs x w. refl) in
    proved 𝓛 call stayed c 𝓜 𝓡 (Goes-blank 𝓛 3 (plain (λ κs. LoanRow (named_lft 3 0 tt κs) E Z)) no (λ κs x w. tt), (number, (number, tt)))
    (F.Key.name args) function (code.unfolded 𝓤 𝓛.H 𝓜 𝓡 wired (X, (Y, tt)) d dd)
    (λ κs. ((λ l. loan_val (named_lft 3 0 tt κs) E Z l.start ∷ []), (uint_vals w64, (uint_vals w64, tt)))) (λ κs. (loan_tells (named_lft 3 0 tt κs) E Z, (uint_Tells w64, (uint_Tells w64, tt))))
    (λ κs qs bounds a _ are.
    let ℓ = named_lft 3 0 tt κs in let it = a.0 in let i = a.1.0 in let j = a.1.1.0 in let κ = κs.0 in let q = qs.0 in
    let items = items_of it.buckets in let loan = loan_val ℓ E Z it.start in let Two : Type 0 = MutBor X.Denot × MutBor X.Denot in
    let y : W.Ghost = ((κs, qs, bounds, a, (loan ∷ [], (uint_vals w64 i, (uint_vals w64 j, tt)))), tt) in
    let alive = ‵ (flft κ q) ⊛ ‵ (flft κs.1.0 qs.1.0) ⊛ ‵ (flft κs.1.1.0 qs.1.1.0) ⊛ ‵ ftrue in
    let Final = λ (x y : X.Denot). set (set items i x) j y in
    let out : (r : Two) (v : Val) → slice_get items i ≡ Some r.0.now → slice_get items j ≡ Some r.1.now
    → Sq 𝓛 (‵ (follows_both Items T T it.name r.0.ghost_name r.1.ghost_name Final) ∷ ‵ ((Pair κ T).own_val r (v ∷ [])) ∷ alive ∷ []) (prop (W.post y v)) = λ r v at_i at_j.
    suffices ! _ (ends_at 𝓛 call stayed c y v r (tt, (tt, (tt, tt))) (tt, (tt, (tt, tt)))) $
    use0 𝓛 (‵ (let_go 3)) (gone 𝓛 3) $ move ! (3 ∷ 0 ∷ 2 ∷ 1 ∷ []) $ group ! 3 $ frame ! $ says_two ! at_i at_j $ done ! in
    qed 𝓛 ((alive ⊛ ‵ ((LoanRow ℓ E Z).own_val it (loan ∷ [])) ⊛ ‵ (usize.own_val i (uint_vals w64 i)) ⊛ ‵ (usize.own_val j (uint_vals w64 j)) ⊛ ‵ ftrue)
    ∷ (raw (fact 𝓤 (κs.1.0 ⊑ X.lives)) ⊛ raw (fact 𝓤 (κs.1.1.0 ⊑ Y.lives)) ⊛ raw (fact 𝓤 (HasBuckets items it.buckets)) ⊛ raw (fact 𝓤 (i ≢ j)) ⊛ raw (fact 𝓤 (i < length items)) ⊛ raw (fact 𝓤 (j < length items))) ∷ []) ∵
    move ! (1 ∷ []) $ split ! $ heard ! _ (λ in_T. split ! $ heard ! _ (λ in_A. split ! $ heard ! _ (λ has. split ! $ heard ! _ (λ apart. split ! $ heard ! _ (λ one_in. heard ! _ (λ other_in.
    split ! $ move ! (1 ∷ []) $ split ! $ keep ! (0 ∷ 2 ∷ []) $
    -- [the loan; the tokens]
    enter ! _ _ _ _ _ $ alloc_all ! (λ l. let here = env function.locals l in pass_all ! refl (loan_good ℓ E Z it.start, ((tt, record { fits = are.1.0.1 }), ((tt, record { fits = are.1.1.0.1 }), tt))) $
    let low : i < max_len = below_max it.buckets has i one_in in let high : j < max_len = below_max it.buckets has j other_in in
    let G₁ = triple_of 𝓛 Places.signature (Places.spec 𝓛 𝓜.mem 𝓡.returns) in let Four = Tuple (usize ∷ usize ∷ usize ∷ usize ∷ []) in
    let z₁ : G₁.Ghost = ((tt, tt, tt, (i, (j, tt)), (uint_vals w64 i, (uint_vals w64 j, tt))), tt) in
    nothing ! $ owned ! usize _ (uint_Makes 𝓛 w64) j _ (refl, are.1.1.0.1) $ join ! $ owned ! usize _ (uint_Makes 𝓛 w64) i _ (refl, are.1.0.1) $ join ! $ nothing ! $ join ! $
    use0 𝓛 (raw (fact 𝓤 (j < max_len))) (fact_i 𝓤 _ (emp 𝓤) high) $ use0 𝓛 (raw (fact 𝓤 (i < max_len))) (fact_i 𝓤 _ (emp 𝓤) low) $ join ! $
    move ! (1 ∷ 0 ∷ []) $ use2 𝓛 (raw (G₁.pre z₁)) (id⊢ 𝓤 _) $
    calls_at ! (framed 𝓤 𝓛.H 𝓜 𝓣) G₁ (Placed.met 𝓤 𝓛 𝓜 𝓡 (code.calls-wasmi_arena::geometry::two_places 𝓡.env wired)) z₁
    (and_then ! (get ! refl) (and_then ! (get ! refl) (no_more !))) (λ v₁.
    use1 𝓛 (later (some (λ (n : Four.Denot). (‵ ftrue ⊛ ‵ (Four.own_val n (v₁ ∷ []))) ⊛
    some (λ (ws : Unit {0} × (Unit {0} × Unit {0})). ‵ (lasts Places.ended tt (i, (j, tt)) ws) ⊛ raw (fact 𝓤 (IsPlace i n.0 n.1)) ⊛ raw (fact 𝓤 (IsPlace j n.2 n.3)))))) (id⊢ 𝓤 _) $
    await ! tt $ pick ! (λ n. split ! $ split ! $ drop ! $ move ! (1 ∷ []) $ pick ! (λ ws. split3 ! $ drop ! $ heard ! _ (λ place_i. heard ! _ (λ place_j. facts ! Four _ (shows 𝓛 Four) n (v₁ ∷ []) (λ seen.
    let b = n.0 in let s = n.1 in let e = n.2 in let t = n.3 in
    let fits₁ = seen.1.1.0.1 in let fits₂ = seen.1.1.1.0.1 in let fits₃ = seen.1.1.1.1.0.1 in let fits₄ = seen.1.1.1.1.1.0.1 in
    let all : Val = vstruct (vcons (vint w64 b) (vcons (vint w64 s) (vcons (vint w64 e) (vcons (vint w64 t) vnil)))) in
    let e₁ : v₁ ≡ all = ap only (Struct-Tells (Declared.shape (tuple_type (usize ∷ usize ∷ usize ∷ usize ∷ []))) (uint_vals w64, (uint_vals w64, (uint_vals w64, (uint_vals w64, tt))))
    (uint_Tells w64, (uint_Tells w64, (uint_Tells w64, (uint_Tells w64, tt)))) (b, (s, (e, (t, tt)))) (v₁ ∷ []) seen) in
    lands_as ! e₁ refl (tt, (record { fits = fits₁ }, (record { fits = fits₂ }, (record { fits = fits₃ }, (record { fits = fits₄ }, tt))))) $
    sets ! (of_opd ! (get_in ! (fld ! refl (stop !)) (sub ! 0 refl (whole !)))) refl (tt, record { fits = fits₁ }) $
    sets ! (of_opd ! (get_in ! (fld ! refl (stop !)) (sub ! 1 refl (whole !)))) refl (tt, record { fits = fits₂ }) $
    sets ! (of_opd ! (get_in ! (fld ! refl (stop !)) (sub ! 2 refl (whole !)))) refl (tt, record { fits = fits₃ }) $
    sets ! (of_opd ! (get_in ! (fld ! refl (stop !)) (sub ! 3 refl (whole !)))) refl (tt, record { fits = fits₄ }) $
    let distinct : b ≡ e → s ≢ t = slots_apart it.buckets has i b s place_i one_in j e t place_j other_in apart in
    let one = get_or it.buckets b None in let other = get_or it.buckets e None in
    let s_in = filled it.buckets has i b s place_i one_in in let t_in = filled it.buckets has j e t place_j other_in in
    let at_i = reads it.buckets has i b s place_i one_in in let at_j = reads it.buckets has j e t place_j other_in in
    sets ! (of_opd ! (get ! refl)) refl (loan_good ℓ E Z it.start) $
    let G₂ = triple_of 𝓛 (Slots.signature X Y g d dd) (Slots.spec X Y g d dd 𝓛 𝓜.mem 𝓡.returns) in
    let z₂ : G₂.Ghost = ((κs, qs, bounds, (it, (b, (s, (e, (t, tt))))), (loan ∷ [], (uint_vals w64 b, (uint_vals w64 s, (uint_vals w64 e, (uint_vals w64 t, tt)))))), tt) in
    nothing ! $ owned ! usize _ (uint_Makes 𝓛 w64) t _ (refl, fits₄) $ join ! $ owned ! usize _ (uint_Makes 𝓛 w64) e _ (refl, fits₃) $ join ! $ owned ! usize _ (uint_Makes 𝓛 w64) s _ (refl, fits₂) $ join ! $
    owned ! usize _ (uint_Makes 𝓛 w64) b _ (refl, fits₁) $ join ! $ move ! (1 ∷ 0 ∷ []) $ join ! $ move ! (1 ∷ 0 ∷ []) $ join ! $
    use0 𝓛 (raw (fact 𝓤 (t < length (items_in other)))) (fact_i 𝓤 _ (emp 𝓤) t_in) $ use0 𝓛 (raw (fact 𝓤 (s < length (items_in one)))) (fact_i 𝓤 _ (emp 𝓤) s_in) $ join ! $
    use0 𝓛 (raw (fact 𝓤 (b ≡ e → s ≢ t))) (fact_i 𝓤 _ (emp 𝓤) distinct) $ join ! $ use0 𝓛 (raw (fact 𝓤 (κs.1.1.0 ⊑ Y.lives))) (fact_i 𝓤 _ (emp 𝓤) in_A) $ join ! $
    use0 𝓛 (raw (fact 𝓤 (κs.1.0 ⊑ X.lives))) (fact_i 𝓤 _ (emp 𝓤) in_T) $ join ! $ move ! (1 ∷ 0 ∷ []) $ use2 𝓛 (raw (G₂.pre z₂)) (id⊢ 𝓤 _) $
    calls_at ! (framed 𝓤 𝓛.H 𝓜 𝓣) G₂ (LendsSlots.met 𝓤 𝓛 𝓜 𝓡 (code.calls-wasmi_arena::raw::loan::ItemsLoan::pair_slots 𝓡.env wired) X Y LX LY g d dd met md) z₂
    (and_then ! (get ! refl) (and_then ! (get ! refl) (and_then ! (get ! refl) (and_then ! (get ! refl) (and_then ! (get ! refl) (no_more !)))))) (λ v₂.
    let Ends = λ (x y : X.Denot). items_of (write (write it.buckets b s x) e t y) in
    use1 𝓛 (later (some (λ (r : Two). (alive ⊛ ‵ ((Pair κ T).own_val r (v₂ ∷ []))) ⊛
    some (λ (ws : Unit {0} × (Unit {0} × (Unit {0} × (Unit {0} × (Unit {0} × Unit {0}))))). ‵ (lasts (Slots.ended X Y g d dd) κs (it, (b, (s, (e, (t, tt))))) ws) ⊛ ‵ (follows_both Items T T it.name r.0.ghost_name r.1.ghost_name Ends)
    ⊛ raw (fact 𝓤 (slice_get (items_in one) s ≡ Some r.0.now)) ⊛ raw (fact 𝓤 (slice_get (items_in other) t ≡ Some r.1.now)))))) (id⊢ 𝓤 _) $
    await ! tt $ pick ! (λ r. split ! $ split ! $ move ! (2 ∷ []) $ pick ! (λ ws₂. split3 ! $ drop ! $ move ! (1 ∷ []) $ split ! $ heard ! _ (λ first_is. heard ! _ (λ second_is. move ! (2 ∷ []) $
    peeks ! (Pair κ T) _ (shows 𝓛 (Pair κ T)) r (v₂ ∷ []) (λ seen₂.
    let good = subst (λ (v : Val). dec.T (has_ty (layout (Pair κ T)) v) × WT v) (sym (pair_told κ T r v₂ seen₂)) (tt, (tt, (tt, tt))) in
    lands_as ! refl refl good $ returns ! (look_at ! 0 refl) $ free_all ! refl $
    -- [the pair; what the loan is afterwards; the tokens]
    let is : Ends ≡ Final = λ k x y. ends it.buckets has i b s place_i one_in j e t place_j other_in x y k in
    move ! (1 ∷ []) $ rewrite ! 0 (λ (f : X.Denot → X.Denot → List X.Denot). ‵ (follows_both Items T T it.name r.0.ghost_name r.1.ghost_name f)) is refl $
    out r v₂ (sym at_i ∙ first_is) (sym at_j ∙ second_is)))))))))))))))))))))
