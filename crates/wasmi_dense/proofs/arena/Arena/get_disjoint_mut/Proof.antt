-- `get_disjoint_mut` lends two of the items that it has lent itself. Assumes `Logic`.
use Rattle.wasmi_arena.proofs.Steps.{emp, id⊢, ftrue, flft, named, Args, a_type, dcons, dnil, inst_fn, Val, vint, vstruct, vcons, vnil, ◌⊑◌, Lfts, Shares, fact, tables, size, join, use0, use1, use2, ‵, raw, ◌⊛◌, some, later, ◌$◌, ◌∵◌, !, qed, done, move, keep, drop, split, split3, group, pick, await, rewrite, suffices, whole, sub, enter, of_opd, addr, fld, stop, returns, and_then, no_more, alloc_all, pass_all, free_all, look_at, get, get_in, through, sets, lands_as, Array, usize, no, follows, follows_both_if, shows, layout, param, copied, bounded, array_told, array_laws, uint_Makes, uint_vals, uint_Tells, RattleType, MutRef, mut_vals, mut_Tells, plain, MutSlice, slice_val, nothing, owned, heard, peeks, only, Struct-Tells, Tuple, tuple_type, calls_at, lasts, triple_of, framed, Stays, walk_of, stay_dropped, Goes-dropped, Goes-spent_ref, ends_at}
use Rattle.std.proofs.Common.{◌≡◌, ℕ, ◌<◌, ◌^◌, List, [], ◌∷◌, length, slice_set, refl, ap, ◌∙◌, subst, w64, MutBor}
use Rattle.std.proofs.raw_atomic.Walks.{proved}
use mir.Syntax.{wrote}
use contract.Fact.{fact_i}
use denote.Param.Laws.{Told as Spelt, copied_laws, copied_copy, copy_told}
use denote.Slice.{mut_slice_vals}
use denote.Steps.{facts}
use denote.Struct.Declared as Declared
use Rattle.wasmi_arena.specs.Arena.{ArenaState}
use Rattle.wasmi_arena.proofs.Answered.{asked-writes}
use Rattle.wasmi_arena.proofs.Frame.{let_go, gone}
use Rattle.wasmi_arena.proofs.PairResults.{PairOr}
use Rattle.wasmi_dense.specs.ArenaLoan.{written}
use Rattle.wasmi_arena.specs.Pairs.{names_if_ok, with_both}
use Rattle.wasmi_arena.specs.inner.Pairs.{AreNumbers}
use Rattle.wasmi_dense.specs.contracts.arena.Arena.{the_row}
use Rattle.wasmi_dense.specs.contracts.arena.Arena.get_disjoint_mut as F
use Rattle.wasmi_dense.specs.contracts.arena.Arena.items_mut as All
use Rattle.wasmi_dense.specs.contracts.arena.pairs.numbers_of as Numbers
use Rattle.wasmi_dense.specs.contracts.arena.pairs.checked_pair as Two
use Rattle.wasmi_dense.proofs.arena.Arena.items_mut.Met as LendsAll
use Rattle.wasmi_dense.proofs.arena.pairs.numbers_of.Met as Numbered
use Rattle.wasmi_dense.proofs.arena.pairs.checked_pair.Met as LendsTwo
use Rattle.wasmi_dense.proofs.arena.Arena.get_disjoint_mut.Statement.{statement}
use Rattle.wasmi_dense.proofs.arena.Arena.get_disjoint_mut.Code as code
use Rattle.wasmi_dense.proofs.ArenaLoans.{written-two, written-same}
use Rattle.wasmi_dense.proofs.PairOrError.{follows_through, good, Reads, Outside, Alike, Errors, Told, ReadsKeys, OutsideKeys, AlikeKeys, told_keys}

pub get_disjoint_mut_spec : {M : Type 1} → statement M
get_disjoint_mut_spec 𝓤 𝓛 𝓜 𝓡 wired K X Y LK LX LY copy gk dk gc dc g d dd metk metc met md =
    let args : Args = bounded (a_type ∷ a_type ∷ a_type ∷ []) (K, (X, (Y, tt))) (dcons dk (dcons dc (dcons d (dcons dd dnil)))) in
    let call = F.ended K X Y gk dk gc dc g d dd in let c = F.clauses K X Y gk dk gc dc g d dd 𝓛 𝓜.mem 𝓡.returns in
    let Self = the_row (copied 0 K) (param 1 X) (param 2 Y) gk g in let Item = param 1 X in let Items = Array Item 0 in let Keys = Array (copied 0 K) 2 in
    let spelt : Spelt Keys = array_told (copied 0 K) (copy_told (copied 0 K) (copied_copy 0 K copy)) 2 in
    let stayed : Stays call.signature.params call.kept = (stay_dropped _ no, (stay_dropped _ no, tt)) in
    let function = inst_fn args code.function in
    let W = walk_of 𝓛 call stayed c in let 𝓣 = tables 𝓤 𝓛.H 𝓜 𝓡 𝓡.env in
    proved 𝓛 call stayed c 𝓜 𝓡 (Goes-spent_ref 𝓛 4 (0 ∷ []) tt (plain (λ _. Self)), (Goes-dropped 𝓛 4 (plain (λ _. Keys)) no (λ κs x w. refl), tt))
    (F.Key.name args) function (code.unfolded 𝓤 𝓛.H 𝓜 𝓡 wired (K, (X, (Y, tt))) dk dc d dd)
    (λ κs. (mut_vals, ((λ keys. spelt.val keys ∷ []), tt))) (λ κs. (mut_Tells (named 0) κs.0 Self, (spelt.tells, tt)))
    (λ κs qs bounds a _ are.
    let arena = a.0.now in let keys = a.1.0 in let κ = κs.0 in let q = qs.0 in let γ = a.0.ghost_name in let vs = mut_vals a.0 in let w = spelt.val keys in
    let y : W.Ghost = ((κs, qs, bounds, a, (vs, (w ∷ [], tt))), tt) in
    let alive = ‵ (flft κ q) ⊛ ‵ (flft κs.1.0 qs.1.0) ⊛ ‵ (flft κs.1.1.0 qs.1.1.0) ⊛ ‵ (flft κs.1.1.1.0 qs.1.1.1.0) ⊛ ‵ ftrue in
    let kept = (MutRef (named 0) κ Self).own_val a.0 vs in
    let Lent : RattleType = record Item { written = wrote (layout X) } in let Answer = PairOr κ Lent in
    let typed = (((array_laws (copied 0 K) (copied_laws 0 K LK) 2).lawful 𝓛).typed keys (w ∷ []) are.1.0).0 in
    qed 𝓛 ((alive ⊛ ‵ kept ⊛ ‵ (Keys.own_val keys (w ∷ [])) ⊛ ‵ ftrue)
    ∷ (raw (fact 𝓤 (κs.1.0 ⊑ K.lives)) ⊛ raw (fact 𝓤 (κs.1.1.0 ⊑ X.lives)) ⊛ raw (fact 𝓤 (κs.1.1.1.0 ⊑ Y.lives)) ⊛ raw (fact 𝓤 (size (layout Keys) < 2 ^ 63)) ⊛ ‵ ftrue) ∷ []) ∵
    move ! (1 ∷ []) $ split ! $ heard ! _ (λ in_K. split ! $ heard ! _ (λ in_X. split ! $ heard ! _ (λ in_Y. split ! $ heard ! _ (λ small. drop ! $
    split ! $ move ! (1 ∷ []) $ split3 ! $ keep ! (1 ∷ 0 ∷ 3 ∷ []) $
    -- [the keys; the reference; the tokens]
    enter ! _ _ _ _ _ $ alloc_all ! (λ l. pass_all ! refl ((tt, tt), (typed, tt)) $
    sets ! (of_opd ! (get ! refl)) refl typed $
    -- the keys' numbers
    let G₁ = triple_of 𝓛 (Numbers.signature K) (Numbers.spec K gk dk gc dc 𝓛 𝓜.mem 𝓡.returns) in let Both = Tuple (usize ∷ usize ∷ []) in
    let κs₁ : Lfts 1 = (κs.1.0, tt) in let qs₁ : Shares 1 = (qs.1.0, tt) in let z₁ : G₁.Ghost = ((κs₁, qs₁, tt, (keys, tt), (w ∷ [], tt)), tt) in
    move ! (2 ∷ []) $ split3 ! $ nothing ! $ move ! (4 ∷ 0 ∷ []) $ join ! $ nothing ! $ move ! (3 ∷ 0 ∷ []) $ join ! $ join ! $
    nothing ! $ use0 𝓛 (raw (fact 𝓤 (size (layout Keys) < 2 ^ 63))) (fact_i 𝓤 _ (emp 𝓤) small) $ join ! $ use0 𝓛 (raw (fact 𝓤 (κs.1.0 ⊑ K.lives))) (fact_i 𝓤 _ (emp 𝓤) in_K) $ join ! $
    move ! (1 ∷ 0 ∷ []) $ use2 𝓛 (raw (G₁.pre z₁)) (id⊢ 𝓤 _) $
    calls_at ! (framed 𝓤 𝓛.H 𝓜 𝓣) G₁ (Numbered.met 𝓤 𝓛 𝓜 𝓡 (code.calls-wasmi_dense::arena::pairs::numbers_of 𝓡.env wired) K LK copy gk dk gc dc metk metc) z₁
    (and_then ! (get ! refl) (no_more !)) (λ v₁.
    use1 𝓛 (later (some (λ (n : ℕ × ℕ). ((‵ (flft κs.1.0 qs.1.0) ⊛ ‵ ftrue) ⊛ ‵ (Both.own_val n (v₁ ∷ []))) ⊛
    some (λ (ws : Unit {0} × Unit {0}). ‵ (lasts (Numbers.ended K gk dk gc dc) κs₁ (keys, tt) ws) ⊛ raw (fact 𝓤 (AreNumbers gk.keys.number keys n.0 n.1)))))) (id⊢ 𝓤 _) $
    await ! tt $ pick ! (λ n. split ! $ split ! $ move ! (2 ∷ []) $ pick ! (λ ws. split ! $ drop ! $ heard ! _ (λ numbered. move ! (1 ∷ []) $ facts ! Both _ (shows 𝓛 Both) n (v₁ ∷ []) (λ seen₁.
    let one = n.0 in let other = n.1 in let fits₁ = seen₁.1.1.0.1 in let fits₂ = seen₁.1.1.1.0.1 in let pair = vstruct (vcons (vint w64 one) (vcons (vint w64 other) vnil)) in
    let e₁ : v₁ ≡ pair = ap only (Struct-Tells (Declared.shape (tuple_type (usize ∷ usize ∷ []))) (uint_vals w64, (uint_vals w64, tt)) (uint_Tells w64, (uint_Tells w64, tt)) (one, (other, tt)) (v₁ ∷ []) seen₁) in
    lands_as ! e₁ refl (tt, (record { fits = fits₁ }, (record { fits = fits₂ }, tt))) $
    sets ! (of_opd ! (get_in ! (fld ! refl (stop !)) (sub ! 0 refl (whole !)))) refl (tt, record { fits = fits₁ }) $
    sets ! (of_opd ! (get_in ! (fld ! refl (stop !)) (sub ! 1 refl (whole !)))) refl (tt, record { fits = fits₂ }) $
    -- [the tokens of Key and nothing, in one; that of the borrow; those of T and A; the reference]
    split ! $ move ! (1 ∷ []) $ drop ! $ move ! (0 ∷ 2 ∷ []) $ join ! $ move ! (1 ∷ 0 ∷ []) $ join ! $
    sets ! (addr ! (through ! refl (stop !))) refl (tt, tt) $
    -- all items
    let G₂ = triple_of 𝓛 (All.signature K X Y gk dk gc dc g d dd) (All.spec K X Y gk dk gc dc g d dd 𝓛 𝓜.mem 𝓡.returns) in
    let z₂ : G₂.Ghost = ((κs, qs, bounds, (a.0, tt), (vs, tt)), tt) in
    nothing ! $ move ! (2 ∷ 0 ∷ []) $ join ! $ move ! (1 ∷ 0 ∷ []) $ join ! $
    nothing ! $ use0 𝓛 (raw (fact 𝓤 (κs.1.1.1.0 ⊑ Y.lives))) (fact_i 𝓤 _ (emp 𝓤) in_Y) $ join ! $ use0 𝓛 (raw (fact 𝓤 (κs.1.1.0 ⊑ X.lives))) (fact_i 𝓤 _ (emp 𝓤) in_X) $ join ! $
    use0 𝓛 (raw (fact 𝓤 (κs.1.0 ⊑ K.lives))) (fact_i 𝓤 _ (emp 𝓤) in_K) $ join ! $ move ! (1 ∷ 0 ∷ []) $ use2 𝓛 (raw (G₂.pre z₂)) (id⊢ 𝓤 _) $
    calls_at ! (framed 𝓤 𝓛.H 𝓜 𝓣) G₂ (LendsAll.met 𝓤 𝓛 𝓜 𝓡 (code.calls-wasmi_dense::arena::Arena::items_mut 𝓡.env wired) K X Y LK LX LY copy gk dk gc dc g d dd metk metc met md) z₂
    (and_then ! (get ! refl) (no_more !)) (λ v₂.
    let Slice = MutSlice (named 0) κ Item in
    use1 𝓛 (later (some (λ (u : MutBor (List X.Denot)). (alive ⊛ ‵ (Slice.own_val u (v₂ ∷ []))) ⊛
    some (λ (ws : Unit {0} × Unit {0}). ‵ (lasts (All.ended K X Y gk dk gc dc g d dd) κs (a.0, tt) ws) ⊛ ‵ (follows Self Items γ u.ghost_name (λ last. record arena { items = written arena.items last })) ⊛ raw (fact 𝓤 (u.now ≡ arena.items)))))) (id⊢ 𝓤 _) $
    await ! tt $ pick ! (λ u. split ! $ split ! $ move ! (2 ∷ []) $ pick ! (λ ws. split3 ! $ drop ! $ move ! (1 ∷ []) $ heard ! _ (λ value. move ! (2 ∷ []) $
    peeks ! Slice _ (shows 𝓛 Slice) u (v₂ ∷ []) (λ seen₂.
    let slice = slice_val u.ref_ptr (length u.now) in let e₂ : v₂ ≡ slice = ap only seen₂.0.0 in
    lands_as ! e₂ refl (tt, (tt, (record { fits = seen₂.0.1.0 }, tt))) $ rewrite ! 0 (λ (v : Val). ‵ (Slice.own_val u (v ∷ []))) e₂ refl $
    -- [the slice; what the arena is afterwards; the tokens]
    -- the two of them
    let κs₃ : Lfts 2 = (κ, (κs.1.1.0, tt)) in let qs₃ : Shares 2 = (q, (qs.1.1.0, tt)) in let G₃ = triple_of 𝓛 (Two.signature X) (Two.spec X 𝓛 𝓜.mem 𝓡.returns) in
    let z₃ : G₃.Ghost = ((κs₃, qs₃, (bounds.1.0, tt), (u, (one, (other, tt))), (mut_slice_vals u, (uint_vals w64 one, (uint_vals w64 other, tt)))), tt) in
    move ! (2 ∷ []) $ split3 ! $ move ! (2 ∷ []) $ split3 ! $
    -- [the tokens of T and A; nothing; those of the borrow and Key; the slice; what the arena is afterwards]
    nothing ! $ owned ! usize _ (uint_Makes 𝓛 w64) other _ (refl, fits₂) $ join ! $ owned ! usize _ (uint_Makes 𝓛 w64) one _ (refl, fits₁) $ join ! $
    move ! (6 ∷ 0 ∷ []) $ join ! $ move ! (1 ∷ 3 ∷ []) $ join ! $ move ! (3 ∷ 0 ∷ []) $ join ! $ join ! $
    nothing ! $ use0 𝓛 (raw (fact 𝓤 (κs.1.1.0 ⊑ X.lives))) (fact_i 𝓤 _ (emp 𝓤) in_X) $ join ! $ move ! (1 ∷ 0 ∷ []) $ use2 𝓛 (raw (G₃.pre z₃)) (id⊢ 𝓤 _) $
    -- [what the call asks; the tokens of A and Key; what the arena is afterwards]
    calls_at ! (framed 𝓤 𝓛.H 𝓜 𝓣) G₃ (LendsTwo.met 𝓤 𝓛 𝓜 𝓡 (code.calls-wasmi_dense::arena::pairs::checked_pair 𝓡.env wired) X LX) z₃
    (and_then ! (get ! refl) (and_then ! (get ! refl) (and_then ! (get ! refl) (no_more !)))) (λ v₃.
    let Ends = λ (x y : X.Denot). slice_set (slice_set u.now one x) other y in
    use1 𝓛 (later (some (λ (r : Answer.Denot). ((‵ (flft κ q) ⊛ ‵ (flft κs.1.1.0 qs.1.1.0) ⊛ ‵ ftrue) ⊛ ‵ (Answer.own_val r (v₃ ∷ []))) ⊛
    some (λ (ws : Unit {0} × (Unit {0} × (Unit {0} × Unit {0}))). ‵ (lasts (Two.ended X) κs₃ (u, (one, (other, tt))) ws) ⊛ ‵ (follows_both_if Items Item Item u.ghost_name (names_if_ok r) Ends u.now)
    ⊛ raw (fact 𝓤 (Reads u.now one other r)) ⊛ raw (fact 𝓤 (Outside u.now one other r)) ⊛ raw (fact 𝓤 (Alike u.now one other r)) ⊛ raw (fact 𝓤 (Errors u.now one other r)))))) (id⊢ 𝓤 _) $
    await ! tt $ pick ! (λ r. split ! $ split ! $ move ! (2 ∷ []) $ pick ! (λ ws. split3 ! $ drop ! $ move ! (1 ∷ []) $
    split ! $ heard ! _ (λ reads. split ! $ heard ! _ (λ outside. split ! $ heard ! _ (λ alike. heard ! _ (λ errors. move ! (2 ∷ []) $
    peeks ! Answer _ (shows 𝓛 Answer) r (v₃ ∷ []) (λ seen₃. lands_as ! refl refl (good 𝓛 κ Lent r v₃ seen₃) $ returns ! (look_at ! 0 refl) $ free_all ! refl $
    -- [the result; what the slice is afterwards; the tokens of the borrow and T, in one; those of A and Key; what the arena is afterwards]
    let With = λ (l : List X.Denot). record arena { items = written arena.items l } in
    let Both = λ (x y : X.Denot). record arena { items = with_both gk.keys.number arena.items keys x y } in
    let ends : (λ x y. With (Ends x y)) ≡ Both =
    λ i x y. (ap (λ l. With (slice_set (slice_set l one x) other y)) value
    ∙ ap (λ l. record arena { items = l }) (written-two arena.items one other x y ∙ asked-writes gk.keys.number arena.items keys one other numbered are.1.0.1.0.1 x y)) i in
    let same : With u.now ≡ arena = ap With value ∙ ap (λ l. record arena { items = l }) (written-same arena.items) in
    let of_keys = told_keys gk.keys arena.items keys n numbered r (subst (λ (l : List X.Denot). Told l one other r) value (reads, outside, alike, errors)) in
    move ! (5 ∷ 1 ∷ []) $ use2 𝓛 (‵ (follows_both_if Self Item Item γ (names_if_ok r) (λ x y. With (Ends x y)) (With u.now))) (follows_through 𝓛 Self Items Item Item With Ends γ u.ghost_name (names_if_ok r) u.now) $
    rewrite ! 0 (λ (f : X.Denot → X.Denot → ArenaState X.Denot). ‵ (follows_both_if Self Item Item γ (names_if_ok r) f (With u.now))) ends refl $
    rewrite ! 0 (λ (s : ArenaState X.Denot). ‵ (follows_both_if Self Item Item γ (names_if_ok r) Both s)) same refl $
    move ! (2 ∷ []) $ split3 ! $ move ! (5 ∷ 2 ∷ []) $ join ! $ move ! (2 ∷ 0 ∷ []) $ join ! $ move ! (4 ∷ 0 ∷ []) $ join ! $ move ! (1 ∷ 0 ∷ []) $ join ! $
    -- [the tokens; what the arena is afterwards; the result]
    suffices ! _ (ends_at 𝓛 call stayed c y v₃ r (tt, (tt, tt)) (tt, (tt, tt))) $
    use0 𝓛 (raw (fact 𝓤 (Errors u.now one other r))) (fact_i 𝓤 _ (emp 𝓤) errors) $ use0 𝓛 (raw (fact 𝓤 (AlikeKeys gk.keys arena.items keys r))) (fact_i 𝓤 _ (emp 𝓤) of_keys.2) $
    use0 𝓛 (raw (fact 𝓤 (OutsideKeys gk.keys arena.items keys r))) (fact_i 𝓤 _ (emp 𝓤) of_keys.1) $ use0 𝓛 (raw (fact 𝓤 (ReadsKeys gk.keys arena.items keys r))) (fact_i 𝓤 _ (emp 𝓤) of_keys.0) $
    use0 𝓛 (‵ (let_go 2)) (gone 𝓛 2) $ move ! (5 ∷ 0 ∷ 7 ∷ []) $ group ! 3 $ move ! (0 ∷ 5 ∷ []) $ done !))))))))))))))))))))))))
