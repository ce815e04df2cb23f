-- `cut` makes two loans of one. Assumes `Logic`.
use Rattle.std.proofs.Common.{◌≡◌, ℕ, ◌+◌, ◌*◌, ◌<◌, ◌≤◌, ◌^◌, List, [], ◌∷◌, ◌++◌, length, take, drop as rest_of, refl, sym, ap, subst, ◌∙◌, arith, w64, mul-le-mul_right}
use Rattle.std.proofs.lemmas.List.{length-take, take-append-drop}
use Rattle.wasmi_arena.proofs.Steps.{proved, never, id⊢, GName, ftrue, flft, Args, a_type, dcons, dnil, inst_fn, vint, ◌⊑◌, fact, tables, join, use0, use1, use2, ‵, raw, ◌⊛◌, some, later, at_ret, ◌$◌, ◌∵◌, !, qed, done, move, keep, drop, split, split3, pick, await, fsplit, fjoin, flt_l, flt_i, rewrite, suffices, agg, whole, sub, enter, of_opd, bin, size_word, fld, stop, first, blocks, exec, returns, and_then, no_more, alloc_all, pass_all, free_all, look_at, get, get_in, sets, sets_last, is, env, usize, yes, no, uint_vals, uint_Tells, block_ptr, ptr_val, in_a_block, nth, place_is, bounded, plain, named_lft, heard, Stays, walk_of, says, stay_dropped, Goes-dropped, ends_at}
use Rattle.core.proofs.alloc.Calls.{Al, Goes-blank}
use Rattle.core.proofs.mem.Param.{El, R}
use Rattle.core.proofs.slots.Leases.{uncapped, P}
use Rattle.std_alloc.proofs.VecSteps.Shapes.{after}
use Rattle.core.specs.declared.option.Option.{Option}
use Rattle.wasmi_arena.specs.Bucket.{Bucket}
use Rattle.wasmi_arena.specs.inner.Loan.{loan_owns}
use Rattle.wasmi_arena.specs.contracts.raw.loan.ItemsLoan.cut as F
use Rattle.wasmi_arena.proofs.raw.loan.ItemsLoan.cut.Statement.{statement}
use Rattle.wasmi_arena.proofs.raw.loan.ItemsLoan.cut.Code as code
use Rattle.wasmi_arena.proofs.Frame.{let_go, gone}
use Rattle.wasmi_arena.proofs.LoanMemory.{LoanRow, Pair, loan, loan_val, pair_val, loan_tells, loan_good, loan_made, pair_made, bucket_size, cuts}

pub cut_spec : {M : Type 1} → statement M
cut_spec 𝓤 𝓛 𝓜 𝓡 wired X Y LX LY g d dd met md =
    let E : El = record { row = X; laws = LX } in let Z : Al = record { row = Y; laws = LY; g = g; d = d; drops = dd } in
    let args : Args = bounded (a_type ∷ a_type ∷ []) (X, (Y, tt)) (dcons d (dcons dd dnil)) in
    let call = F.ended X Y g d dd in let c = F.clauses X Y g d dd 𝓛 𝓜.mem 𝓡.returns in
    let stayed : Stays call.signature.params call.kept = (stay_dropped _ no, (stay_dropped _ yes, tt)) in
    let function = inst_fn args code.function in
    let W = walk_of 𝓛 call stayed c in let 𝓣 = tables 𝓤 𝓛.H 𝓜 𝓡 𝓡.env in
    proved 𝓛 call stayed c 𝓜 𝓡 (Goes-blank 𝓛 3 (plain (λ κs. LoanRow (named_lft 3 0 tt κs) E Z)) no (λ κs x w. tt), (Goes-dropped 𝓛 3 (plain (λ _. usize)) yes (λ κs x w. refl), tt))
    (F.Key.name args) function (code.unfolded 𝓤 𝓛.H 𝓜 𝓡 wired (X, (Y, tt)) d dd)
    (λ κs. ((λ l. loan_val (named_lft 3 0 tt κs) E Z l.start ∷ []), (uint_vals w64, tt))) (λ κs. (loan_tells (named_lft 3 0 tt κs) E Z, (uint_Tells w64, tt)))
    (λ κs qs bounds a _ are.
    let ℓ = named_lft 3 0 tt κs in let it = a.0 in let n = a.1.0 in let κ = κs.0 in let q = qs.0 in let s = bucket_size E Z 𝓛 0 in
    let y : W.Ghost = ((κs, qs, bounds, a, (loan_val ℓ E Z it.start ∷ [], (uint_vals w64 n, tt))), tt) in
    let others_alive = ‵ (flft κs.1.0 qs.1.0) ⊛ ‵ (flft κs.1.1.0 qs.1.1.0) ⊛ ‵ ftrue in
    qed 𝓛 (((‵ (flft κ q) ⊛ others_alive) ⊛ ‵ ((LoanRow ℓ E Z).own_val it (loan_val ℓ E Z it.start ∷ [])) ⊛ ‵ (usize.own_val n (uint_vals w64 n)) ⊛ ‵ ftrue)
    ∷ (raw (fact 𝓤 (κs.1.0 ⊑ X.lives)) ⊛ raw (fact 𝓤 (κs.1.1.0 ⊑ Y.lives)) ⊛ raw (fact 𝓤 (n ≤ length it.buckets))) ∷ []) ∵
    move ! (1 ∷ []) $ split ! $ drop ! $ split ! $ drop ! $ heard ! _ (λ inside.
    split ! $ split ! $ move ! (2 ∷ []) $ split ! $ fsplit ! $ keep ! (1 ∷ 3 ∷ 4 ∷ []) $
    enter ! _ _ _ _ _ $ alloc_all ! (λ l. pass_all ! refl (loan_good ℓ E Z it.start, ((tt, record { fits = are.1.0.1 }), tt)) $
    in_a_block ! it.start (λ p. loan_owns (R E) (P E Z) g κ p it.buckets it.name) (id⊢ 𝓤 (never 𝓤)) (λ b o at. fsplit ! $ flt_l ! (λ small. flt_i ! (length it.buckets * s) (2 ^ 63) small $ fjoin ! $
    let front = take n it.buckets in let back = rest_of n it.buckets in let whole' : it.buckets ≡ front ++ back = sym (take-append-drop n it.buckets) in
    let counted : length front ≡ n = omega (arith, length-take n it.buckets) in
    let part : n * s ≤ length it.buckets * s = mul-le-mul_right s inside in let bytes : n * s < 2 ^ 64 = omega arith in let o' = n * s + o in
    let x = loan ℓ E Z (block_ptr b o) front in let z = loan ℓ E Z (block_ptr b o') back in
    -- [the loan; the token; the other tokens]
    sets ! (is ! (of_opd ! (get_in ! (fld ! refl (stop !)) (sub ! 0 refl (whole !)))) (ap ptr_val at)) refl (tt, tt) $ first ! $ blocks ! $
    sets ! (is ! (bin ! (get ! refl) (size_word !) (record { fits = subst (λ (m : ℕ). m < 2 ^ 64) (sym (uncapped n s bytes)) bytes })) (ap (vint w64) (uncapped n s bytes))) refl (tt, record { fits = bytes }) $
    sets_last ! (bin ! (get ! refl) (get ! refl) tt) refl (tt, tt) $ exec ! 𝓣.C 𝓣.Λ (env function.locals l) (after 2 function.body) (at_ret _ (W.post y)) $
    sets ! (of_opd ! (get ! refl)) refl (tt, tt) $ sets ! (agg ! (no_more !)) refl (tt, tt) $ sets ! (agg ! (and_then ! (get ! refl) (and_then ! (get ! refl) (no_more !)))) refl (tt, (tt, (tt, tt))) $
    sets ! (agg ! (no_more !)) refl (tt, tt) $ sets ! (agg ! (and_then ! (get ! refl) (and_then ! (get ! refl) (no_more !)))) refl (tt, (tt, (tt, tt))) $
    sets ! (agg ! (and_then ! (get ! refl) (and_then ! (get ! refl) (no_more !)))) refl (tt, ((tt, (tt, tt)), ((tt, (tt, tt)), tt))) $
    rewrite ! 0 (λ (bs : List (Option (Bucket X.Denot))). ‵ (loan_owns (R E) (P E Z) g κ (block_ptr b o) bs it.name)) whole' refl $
    use2 𝓛 (later (some (λ (νs : GName × GName). ‵ (loan_owns (R E) (P E Z) g κ (block_ptr b o) front νs.0) ⊛ ‵ (loan_owns (R E) (P E Z) g κ (block_ptr b (nth s o (length front))) back νs.1) ⊛ ‵ (flft κ q))))
    (cuts E Z 𝓛 b κ q o front back it.name) $ await ! tt $ pick ! (λ νs. split3 ! $
    rewrite ! 1 (λ (k : ℕ). ‵ (loan_owns (R E) (P E Z) g κ (block_ptr b k) back νs.1)) (place_is s o (length front) ∙ ap (λ (k : ℕ). k * s + o) counted) refl $
    use1 𝓛 (‵ ((LoanRow ℓ E Z).own_val (x νs.0 it.whole) (loan_val ℓ E Z (block_ptr b o) ∷ []))) (loan_made ℓ E Z 𝓛 (block_ptr b o) front νs.0 it.whole) $ move ! (1 ∷ []) $
    use1 𝓛 (‵ ((LoanRow ℓ E Z).own_val (z νs.1 it.whole) (loan_val ℓ E Z (block_ptr b o') ∷ []))) (loan_made ℓ E Z 𝓛 (block_ptr b o') back νs.1 it.whole) $ move ! (1 ∷ 0 ∷ []) $
    use2 𝓛 (‵ ((Pair ℓ E Z).own_val (x νs.0 it.whole, z νs.1 it.whole) (pair_val ℓ E Z (block_ptr b o) (block_ptr b o') ∷ []))) (pair_made ℓ E Z 𝓛 (x νs.0 it.whole) (z νs.1 it.whole)) $
    returns ! (look_at ! 0 refl) $ free_all ! refl $
    suffices ! _ (ends_at 𝓛 call stayed c y (pair_val ℓ E Z (block_ptr b o) (block_ptr b o')) (x νs.0 it.whole, z νs.1 it.whole) (tt, (tt, tt)) (tt, (tt, tt))) $
    says ! (record { buckets = whole'; counted = counted; front_whole = refl; back_whole = refl }) $
    move ! (1 ∷ 2 ∷ []) $ join ! $ use0 𝓛 (‵ (let_go 2)) (gone 𝓛 2) $ move ! (1 ∷ 0 ∷ 2 ∷ []) $ done !))))))
