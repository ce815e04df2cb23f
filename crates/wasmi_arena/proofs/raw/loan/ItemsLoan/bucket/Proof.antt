-- `bucket` lends one bucket on, and the loan ends with what was written to its items. Assumes `Logic`.
use Rattle.std.proofs.Common.{◌≡◌, ℕ, ◌*◌, ◌<◌, ◌≤◌, ◌^◌, List, [], ◌∷◌, length, get_or, None, refl, sym, ap, subst, arith, w64, MutBor, mul-le-mul_right}
use Rattle.wasmi_arena.proofs.Steps.{proved, emp, never, id⊢, GName, ftrue, flft, named, Args, a_type, dcons, dnil, inst_fn, Val, vint, vptr, ◌⊑◌, Lfts, Shares, fact, tables, join, use0, use1, use2, ‵, raw, ◌⊛◌, some, later, at_ret, ◌$◌, ◌∵◌, !, qed, done, move, keep, drop, split, split3, group, pick, await, fsplit, flt_l, frame, rewrite, suffices, whole, sub, enter, of_opd, bin, size_word, addr, fld, stop, first, blocks, exec, returns, and_then, no_more, alloc_all, pass_all, free_all, look_at, get, get_in, through, sets, sets_last, lands_as, is, env, sem, SemTy, Array, usize, yes, no, follows, shows, bounded, uint_vals, uint_Tells, ptr_val, in_a_block, MutRef, plain, named_lft, MutSlice, slice_val, nothing, heard, peeks, only, calls_at, lasts, triple_of, framed, Stays, walk_of, says, stay_dropped, Goes-dropped, ends_at}
use Rattle.std.specs.Prelude.{IsSome}
use base.Share
use contract.Fact.{fact_i}
use Rattle.core.proofs.alloc.Calls.{Al, Goes-blank}
use Rattle.core.proofs.mem.Param.{El, R}
use Rattle.core.proofs.slots.Leases.{uncapped, P}
use Rattle.std_alloc.proofs.VecSteps.Shapes.{after as rest_of}
use Rattle.wasmi_arena.specs.inner.Loan.{SameBuckets, loan_owns}
use Rattle.wasmi_arena.specs.inner.Table.{items_of, items_in, with_items, write_all}
use Rattle.wasmi_arena.specs.contracts.raw.loan.ItemsLoan.bucket as F
use Rattle.wasmi_arena.specs.contracts.bucket_table.lend.items_mut as Call
use Rattle.wasmi_arena.proofs.bucket_table.lend.items_mut.Met as Lends
use Rattle.wasmi_arena.proofs.raw.loan.ItemsLoan.bucket.Statement.{statement}
use Rattle.wasmi_arena.proofs.raw.loan.ItemsLoan.bucket.Code as code
use Rattle.wasmi_arena.proofs.BucketLoans.{lent, Kept, opens, closes, here, here_at, others_of, one_out, one_back}
use Rattle.wasmi_arena.proofs.Frame.{let_go, gone}
use Rattle.wasmi_arena.proofs.LoanMemory.{LoanRow, loan_val, loan_tells, loan_good, bucket_size}
use Rattle.wasmi_arena.proofs.Rewritten.{open_inside}
use Rattle.wasmi_arena.proofs.TableMemory.{MaybeBucket}

pub bucket_spec : {M : Type 1} → statement M
bucket_spec 𝓤 𝓛 𝓜 𝓡 wired X Y LX LY g d dd met md =
    let E : El = record { row = X; laws = LX } in let Z : Al = record { row = Y; laws = LY; g = g; d = d; drops = dd } in
    let args : Args = bounded (a_type ∷ a_type ∷ []) (X, (Y, tt)) (dcons d (dcons dd dnil)) in
    let call = F.ended X Y g d dd in let c = F.clauses X Y g d dd 𝓛 𝓜.mem 𝓡.returns in
    let stayed : Stays call.signature.params call.kept = (stay_dropped _ no, (stay_dropped _ yes, tt)) in
    let function = inst_fn args code.function in
    let W = walk_of 𝓛 call stayed c in let 𝓣 = tables 𝓤 𝓛.H 𝓜 𝓡 𝓡.env in
    let Item = MaybeBucket E Z 27 in let Items = Array (R E) 0 in
    proved 𝓛 call stayed c 𝓜 𝓡 (Goes-blank 𝓛 3 (plain (λ κs. LoanRow (named_lft 3 0 tt κs) E Z)) no (λ κs x w. tt), (Goes-dropped 𝓛 3 (plain (λ _. usize)) yes (λ κs x w. refl), tt))
    (F.Key.name args) function (code.unfolded 𝓤 𝓛.H 𝓜 𝓡 wired (X, (Y, tt)) d dd)
    (λ κs. ((λ l. loan_val (named_lft 3 0 tt κs) E Z l.start ∷ []), (uint_vals w64, tt))) (λ κs. (loan_tells (named_lft 3 0 tt κs) E Z, (uint_Tells w64, tt)))
    (λ κs qs bounds a _ are.
    let ℓ = named_lft 3 0 tt κs in let it = a.0 in let k = a.1.0 in let κ = κs.0 in let q = qs.0 in let l-q = Share.left q in let r-q = Share.right q in let s = bucket_size E Z 𝓛 0 in
    let y : W.Ghost = ((κs, qs, bounds, a, (loan_val ℓ E Z it.start ∷ [], (uint_vals w64 k, tt))), tt) in
    let others_alive = ‵ (flft κs.1.0 qs.1.0) ⊛ ‵ (flft κs.1.1.0 qs.1.1.0) ⊛ ‵ ftrue in
    qed 𝓛 (((‵ (flft κ q) ⊛ others_alive) ⊛ ‵ ((LoanRow ℓ E Z).own_val it (loan_val ℓ E Z it.start ∷ [])) ⊛ ‵ (usize.own_val k (uint_vals w64 k)) ⊛ ‵ ftrue)
    ∷ (raw (fact 𝓤 (κs.1.0 ⊑ X.lives)) ⊛ raw (fact 𝓤 (κs.1.1.0 ⊑ Y.lives)) ⊛ raw (fact 𝓤 (IsSome (get_or it.buckets k None)))) ∷ []) ∵
    move ! (1 ∷ []) $ split ! $ heard ! _ (λ in_T. split ! $ heard ! _ (λ in_A. heard ! _ (λ is_open.
    let inside : k < length it.buckets = open_inside it.buckets k is_open in
    split ! $ split ! $ move ! (2 ∷ []) $ split ! $ fsplit ! $ keep ! (1 ∷ 3 ∷ 4 ∷ []) $
    enter ! _ _ _ _ _ $ alloc_all ! (λ l. pass_all ! refl (loan_good ℓ E Z it.start, ((tt, record { fits = are.1.0.1 }), tt)) $
    in_a_block ! it.start (λ p. loan_owns (R E) (P E Z) g κ p it.buckets it.name) (id⊢ 𝓤 (never 𝓤)) (λ b o at. fsplit ! $ flt_l ! (λ small. fsplit ! $
    let part : k * s ≤ length it.buckets * s = mul-le-mul_right s (omega arith) in let bytes : k * s < 2 ^ 64 = omega arith in
    -- [the loan, in two entries; the token; the other tokens]
    sets ! (is ! (of_opd ! (get_in ! (fld ! refl (stop !)) (sub ! 0 refl (whole !)))) (ap ptr_val at)) refl (tt, tt) $ first ! $ blocks ! $
    sets ! (of_opd ! (get ! refl)) refl (tt, tt) $ sets ! (of_opd ! (get ! refl)) refl (tt, record { fits = are.1.0.1 }) $
    sets ! (is ! (bin ! (get ! refl) (size_word !) (record { fits = subst (λ (m : ℕ). m < 2 ^ 64) (sym (uncapped k s bytes)) bytes })) (ap (vint w64) (uncapped k s bytes))) refl (tt, record { fits = bytes }) $
    sets ! (bin ! (get ! refl) (get ! refl) tt) refl (tt, tt) $
    sets_last ! (addr ! (through ! refl (stop !))) refl (tt, tt) $ exec ! 𝓣.C 𝓣.Λ (env function.locals l) (rest_of 2 function.body) (at_ret _ (W.post y)) $
    sets ! (of_opd ! (get ! refl)) refl (tt, tt) $
    let x = items_of it.buckets in let Lent : SemTy = SameBuckets (R E) (P E Z) g it.buckets in
    let held = here E Z 𝓛 it.buckets b o k inside in let there = here_at E Z 𝓛 it.buckets b o k inside in let Rest = sem 𝓛 (others_of E Z 𝓛 it.buckets b o k inside) in
    group ! 3 $ use1 𝓛 (later (some (λ (p : ℕ × GName). ‵ ((MutRef (named 0) κ Item).own_val (lent E Z 𝓛 Lent κ q it.name b o there held Rest x p.1) (vptr b there ∷ [])) ⊛ ‵ (flft κ r-q) ⊛ raw (Kept E Z 𝓛 Lent κ q it.name b o there held Rest x p))))
    (opens E Z 𝓛 Lent κ q it.name b o there held Rest x (one_out E Z 𝓛 it.buckets b o k inside)) $ await ! tt $ pick ! (λ p. split3 ! $
    -- [the bucket; half of the token; what closes the loan; the other tokens]
    let r = lent E Z 𝓛 Lent κ q it.name b o there held Rest x p.1 in
    let κs' : Lfts 3 = (κ, (κs.1.0, (κs.1.1.0, tt))) in let qs' : Shares 3 = (r-q, (qs.1.0, (qs.1.1.0, tt))) in
    let G = triple_of 𝓛 (Call.signature X Y g d dd) (Call.spec X Y g d dd 𝓛 𝓜.mem 𝓡.returns) in
    let z : G.Ghost = ((κs', qs', bounds, (r, tt), (vptr b there ∷ [], tt)), tt) in
    nothing ! $ move ! (1 ∷ 0 ∷ []) $ join ! $ move ! (1 ∷ 3 ∷ []) $ join ! $ join ! $
    use0 𝓛 (raw (fact 𝓤 (IsSome held))) (fact_i 𝓤 (IsSome held) (emp 𝓤) is_open) $ use0 𝓛 (raw (fact 𝓤 (κs.1.1.0 ⊑ Y.lives))) (fact_i 𝓤 _ (emp 𝓤) in_A) $ join ! $
    use0 𝓛 (raw (fact 𝓤 (κs.1.0 ⊑ X.lives))) (fact_i 𝓤 _ (emp 𝓤) in_T) $ join ! $ move ! (1 ∷ 0 ∷ []) $ use2 𝓛 (raw (G.pre z)) (id⊢ 𝓤 _) $
    -- [what the call asks; what closes the loan]
    calls_at ! (framed 𝓤 𝓛.H 𝓜 𝓣) G (Lends.met 𝓤 𝓛 𝓜 𝓡 (code.calls-wasmi_arena::bucket_table::lend::items_mut 𝓡.env wired) X Y LX LY g d dd met md) z
    (and_then ! (get ! refl) (no_more !)) (λ v.
    use1 𝓛 (later (some (λ (u : MutBor (List X.Denot)). ((‵ (flft κ r-q) ⊛ others_alive) ⊛ ‵ ((MutSlice (named 0) κ (R E)).own_val u (v ∷ []))) ⊛
    some (λ (ws : Unit {0} × Unit {0}). ‵ (lasts (Call.ended X Y g d dd) κs' (r, tt) ws) ⊛ ‵ (follows Item Items p.1 u.ghost_name (with_items held)) ⊛ raw (fact 𝓤 (u.now ≡ items_in held)))))) (id⊢ 𝓤 _) $
    await ! tt $ pick ! (λ u. split ! $ split ! $ move ! (2 ∷ []) $ pick ! (λ ws. split3 ! $ drop ! $ move ! (1 ∷ []) $ heard ! _ (λ value. move ! (2 ∷ []) $
    peeks ! (MutSlice (named 0) κ (R E)) _ (shows 𝓛 (MutSlice (named 0) κ (R E))) u (v ∷ []) (λ seen.
    let slice = slice_val u.ref_ptr (length u.now) in let e : v ≡ slice = ap only seen.0.0 in
    lands_as ! e refl (tt, (tt, (record { fits = seen.0.1.0 }, tt))) $ rewrite ! 0 (λ (w : Val). ‵ ((MutSlice (named 0) κ (R E)).own_val u (w ∷ []))) e refl $
    -- [the slice; what the bucket is afterwards; half of the token, and the other tokens; what closes the loan]
    let Ends = λ (ws : List X.Denot). items_of (write_all it.buckets k ws) in
    move ! (3 ∷ 1 ∷ []) $ use2 𝓛 (later (‵ (flft κ l-q) ⊛ ‵ (follows Items Items it.name u.ghost_name Ends)))
    (closes E Z 𝓛 Lent κ q it.name b o there held Rest x Items (with_items held) Ends (one_back E Z 𝓛 it.buckets b o k inside) p u.ghost_name) $ await ! tt $ split ! $
    -- [half of the token; what the loan is afterwards; the slice; the other half, and the other tokens]
    move ! (3 ∷ []) $ split ! $ move ! (2 ∷ 0 ∷ []) $ use2 𝓛 (‵ (flft κ q)) (𝓛.lfts.lft_join κ q) $ move ! (0 ∷ 1 ∷ []) $ join ! $
    returns ! (look_at ! 0 refl) $ free_all ! refl $
    suffices ! _ (ends_at 𝓛 call stayed c y slice u (tt, (tt, tt)) (tt, (tt, tt))) $
    use0 𝓛 (‵ (let_go 2)) (gone 𝓛 2) $ move ! (1 ∷ 0 ∷ 3 ∷ 2 ∷ []) $ group ! 3 $ frame ! $ says ! value $ done !)))))))))))))
