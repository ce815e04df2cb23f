-- `pair_slots` lends the items in two slots, each by the pointer of its bucket. Assumes `Logic`.
use Rattle.std.proofs.Common.{◌≡◌, ◌≢◌, ℕ, ◌+◌, ◌*◌, ◌<◌, ◌≤◌, ◌^◌, List, [], ◌∷◌, length, get_or, None, refl, sym, ap, subst, arith, w64, MutBor, mul-le-mul_right}
use Rattle.std.proofs.lemmas.Option.{slice_get-get_or}
use Rattle.wasmi_arena.proofs.Steps.{proved, SProp, ent, sep, all, all_e, apply∗, never, id⊢, GName, ftrue, fsep, flft, fobs, fbor, named, Args, a_type, dcons, dnil, inst_fn, Val, vint, vptr, ◌⊑◌, fact, tables, after₂, takes_two, join, use0, use1, use2, ‵, raw, ◌⊛◌, some, later, at_ret, ◌$◌, ◌∵◌, !, qed, done, move, keep, drop, split, split3, group, pick, await, fsplit, fjoin, fjoin3, feq_i, flt_l, frame, rewrite, suffices, agg, whole, sub, look_in, enter, of_opd, bin, size_word, align_word, addr, load, fld, stop, first, blocks, exec, returns, and_then, no_more, alloc_all, pass_all, free_all, look_at, get, get_in, through, sets, sets_last, is, env, sem, open_ref, SemTy, Body, full_share, Array, usize, yes, no, follows_both, row, mem, bounded, uint_vals, uint_Tells, ptr_val, in_a_block, MutRef, mut_vals, plain, named_lft, heard, Stays, walk_of, stay_dropped, Goes-dropped, ends_at}
use Rattle.core.proofs.alloc.Calls.{Al, Goes-blank}
use Rattle.core.proofs.mem.Param.{El, R}
use Rattle.core.proofs.slots.Leases.{uncapped, P}
use Rattle.std_alloc.proofs.VecSteps.Shapes.{after as rest_of}
use Rattle.std.specs.Mem.{type_size}
use Rattle.wasmi_arena.specs.inner.Loan.{SameBuckets, loan_owns}
use Rattle.wasmi_arena.specs.inner.Table.{items_in, items_of, write}
use Rattle.wasmi_arena.specs.contracts.raw.loan.ItemsLoan.pair_slots as F
use Rattle.wasmi_arena.proofs.raw.loan.ItemsLoan.pair_slots.Statement.{statement}
use Rattle.wasmi_arena.proofs.raw.loan.ItemsLoan.pair_slots.Code as code
use Rattle.wasmi_arena.proofs.BucketMemory.{BucketRow, open_laws}
use Rattle.wasmi_arena.proofs.Frame.{let_go, gone, says_two}
use Rattle.wasmi_arena.proofs.LoanMemory.{LoanRow, loan_val, loan_tells, loan_good, bucket_size}
use Rattle.wasmi_arena.proofs.PairLoans.{both_follow}
use Rattle.wasmi_arena.proofs.PairMemory.{Where, Pointer, ItemIn, Closing, Two, pair_out}
use Rattle.wasmi_arena.proofs.Refilled.{refilled-own}
use Rattle.wasmi_arena.proofs.PairResults.{Pair, pair_val, pair_made}
use Rattle.wasmi_arena.proofs.Rewritten.{filled_inside, item_in_slot, refilled-write}
use Rattle.wasmi_arena.proofs.SomeMemory.{behind_tag}
use Rattle.wasmi_arena.proofs.TableMemory.{MaybeBucket}

pub pair_slots_spec : {M : Type 1} → statement M
pair_slots_spec 𝓤 𝓛 𝓜 𝓡 wired X Y LX LY g d dd met md =
    let E : El = record { row = X; laws = LX } in let Z : Al = record { row = Y; laws = LY; g = g; d = d; drops = dd } in
    let args : Args = bounded (a_type ∷ a_type ∷ []) (X, (Y, tt)) (dcons d (dcons dd dnil)) in
    let call = F.ended X Y g d dd in let c = F.clauses X Y g d dd 𝓛 𝓜.mem 𝓡.returns in
    let stayed : Stays call.signature.params call.kept = (stay_dropped _ no, (stay_dropped _ yes, (stay_dropped _ yes, (stay_dropped _ yes, (stay_dropped _ yes, tt))))) in
    let function = inst_fn args code.function in
    let W = walk_of 𝓛 call stayed c in let 𝓣 = tables 𝓤 𝓛.H 𝓜 𝓡 𝓡.env in
    let Item = MaybeBucket E Z 27 in let Items = Array (R E) 0 in
    let number = Goes-dropped 𝓛 3 (plain (λ _. usize)) yes (λ κs x w. refl) in
    proved 𝓛 call stayed c 𝓜 𝓡 (Goes-blank 𝓛 3 (plain (λ κs. LoanRow (named_lft 3 0 tt κs) E Z)) no (λ κs x w. tt), (number, (number, (number, (number, tt)))))
    (F.Key.name args) function (code.unfolded 𝓤 𝓛.H 𝓜 𝓡 wired (X, (Y, tt)) d dd)
    (λ κs. ((λ l. loan_val (named_lft 3 0 tt κs) E Z l.start ∷ []), (uint_vals w64, (uint_vals w64, (uint_vals w64, (uint_vals w64, tt))))))
    (λ κs. (loan_tells (named_lft 3 0 tt κs) E Z, (uint_Tells w64, (uint_Tells w64, (uint_Tells w64, (uint_Tells w64, tt))))))
    (λ κs qs bounds a _ are.
    let ℓ = named_lft 3 0 tt κs in let it = a.0 in let κ = κs.0 in let q = qs.0 in let w = bucket_size E Z 𝓛 0 in let size = type_size (R E) in
    let i = a.1.0 in let s = a.1.1.0 in let j = a.1.1.1.0 in let t = a.1.1.1.1.0 in
    let y : W.Ghost = ((κs, qs, bounds, a, (loan_val ℓ E Z it.start ∷ [], (uint_vals w64 i, (uint_vals w64 s, (uint_vals w64 j, (uint_vals w64 t, tt)))))), tt) in
    let others_alive = ‵ (flft κs.1.0 qs.1.0) ⊛ ‵ (flft κs.1.1.0 qs.1.1.0) ⊛ ‵ ftrue in
    let one : Item.Denot = get_or it.buckets i None in let other : Item.Denot = get_or it.buckets j None in
    qed 𝓛 (((‵ (flft κ q) ⊛ others_alive) ⊛ ‵ ((LoanRow ℓ E Z).own_val it (loan_val ℓ E Z it.start ∷ [])) ⊛ ‵ (usize.own_val i (uint_vals w64 i)) ⊛ ‵ (usize.own_val s (uint_vals w64 s))
    ⊛ ‵ (usize.own_val j (uint_vals w64 j)) ⊛ ‵ (usize.own_val t (uint_vals w64 t)) ⊛ ‵ ftrue)
    ∷ (raw (fact 𝓤 (κs.1.0 ⊑ X.lives)) ⊛ raw (fact 𝓤 (κs.1.1.0 ⊑ Y.lives)) ⊛ raw (fact 𝓤 (i ≡ j → s ≢ t)) ⊛ raw (fact 𝓤 (s < length (items_in one))) ⊛ raw (fact 𝓤 (t < length (items_in other)))) ∷ []) ∵
    move ! (1 ∷ []) $ split ! $ drop ! $ split ! $ drop ! $ split ! $ heard ! _ (λ apart. split ! $ heard ! _ (λ low. heard ! _ (λ high.
    split ! $ split ! $ move ! (2 ∷ []) $ split ! $ fsplit ! $ keep ! (1 ∷ 3 ∷ 4 ∷ []) $
    enter ! _ _ _ _ _ $ alloc_all ! (λ l. pass_all ! refl (loan_good ℓ E Z it.start, ((tt, record { fits = are.1.0.1 }), ((tt, record { fits = are.1.1.0.1 }), ((tt, record { fits = are.1.1.1.0.1 }), ((tt, record { fits = are.1.1.1.1.0.1 }), tt))))) $
    in_a_block ! it.start (λ p. loan_owns (R E) (P E Z) g κ p it.buckets it.name) (id⊢ 𝓤 (never 𝓤)) (λ b o at. fsplit ! $ flt_l ! (λ small. fsplit ! $
    let i_in = filled_inside it.buckets i s low in let j_in = filled_inside it.buckets j t high in
    let few_i : i * w ≤ length it.buckets * w = mul-le-mul_right w (omega (arith, i_in)) in let bytes_i : i * w < 2 ^ 64 = omega arith in
    let few_j : j * w ≤ length it.buckets * w = mul-le-mul_right w (omega (arith, j_in)) in let bytes_j : j * w < 2 ^ 64 = omega arith in
    let at_i = i * w + o in let at_j = j * w + o in let Lent : SemTy = SameBuckets (R E) (P E Z) g it.buckets in
    let none = (item_in_slot one s low).0 in let held = get_or (items_in one) s none in let held' = get_or (items_in other) t none in
    let Ends = λ (x y : X.Denot). items_of (write (write it.buckets i s x) j t y) in
    open_ref ! tt Lent {x = items_of it.buckets} {b = b} {o = o} $
    rewrite ! 0 (λ (bs : List Item.Denot). ‵ (row Item full_share bs b o)) (refilled-own it.buckets) refl $
    use1 𝓛 (some (λ (z : Where E Z s t). raw (Two E Z 𝓛 b o it.buckets i s j t held held' z))) (pair_out E Z 𝓛 b o it.buckets none i s j t apart low high) $ pick ! (λ z.
    let p = z.0.1.0 in let p' = z.0.1.1 in let one_at = Pointer E Z 𝓛 b o it.buckets i z.0.0.0 p in let other_at = Pointer E Z 𝓛 b o it.buckets j z.0.0.1 p' in
    let End = all 𝓤 (Closing E Z 𝓛 b o it.buckets i s j t z) in
    use1 𝓛 (‵ (fsep one_at other_at) ⊛ ‵ (ItemIn E Z 𝓛 b o it.buckets p s held) ⊛ ‵ (ItemIn E Z 𝓛 b o it.buckets p' t held') ⊛ raw End) (id⊢ 𝓤 _) $ split ! $ move ! (1 ∷ []) $ split3 ! $ move ! (3 ∷ []) $ fsplit ! $
    -- [the two pointers; the two items; the way back; the open borrow, in three entries; the other tokens]
    sets ! (is ! (of_opd ! (get_in ! (fld ! refl (stop !)) (sub ! 0 refl (whole !)))) (ap ptr_val at)) refl (tt, tt) $ first ! $ blocks ! $
    sets ! (is ! (bin ! (get ! refl) (size_word !) (record { fits = subst (λ (m : ℕ). m < 2 ^ 64) (sym (uncapped i w bytes_i)) bytes_i })) (ap (vint w64) (uncapped i w bytes_i))) refl (tt, record { fits = bytes_i }) $
    sets ! (bin ! (get ! refl) (get ! refl) tt) refl (tt, tt) $ sets ! (of_opd ! (get ! refl)) refl (tt, tt) $
    sets ! (is ! (bin ! (get ! refl) (align_word !) tt) (ap (vptr b) (behind_tag (BucketRow E Z) (open_laws E Z) at_i))) refl (tt, tt) $ sets ! (of_opd ! (get ! refl)) refl (tt, tt) $
    sets ! (of_opd ! (load ! (through ! refl (fld ! refl (fld ! refl (stop !)))) (look_in ! 0 (sub ! 0 refl (whole !))))) refl (tt, tt) $
    sets ! (is ! (bin ! (get ! refl) (size_word !) (record { fits = subst (λ (m : ℕ). m < 2 ^ 64) (sym (uncapped j w bytes_j)) bytes_j })) (ap (vint w64) (uncapped j w bytes_j))) refl (tt, record { fits = bytes_j }) $
    sets ! (bin ! (get ! refl) (get ! refl) tt) refl (tt, tt) $ sets ! (of_opd ! (get ! refl)) refl (tt, tt) $
    sets ! (is ! (bin ! (get ! refl) (align_word !) tt) (ap (vptr b) (behind_tag (BucketRow E Z) (open_laws E Z) at_j))) refl (tt, tt) $ sets ! (of_opd ! (get ! refl)) refl (tt, tt) $
    sets ! (of_opd ! (load ! (through ! refl (fld ! refl (fld ! refl (stop !)))) (look_in ! 1 (sub ! 0 refl (whole !))))) refl (tt, tt) $
    sets ! (is ! (bin ! (get ! refl) (size_word !) (record { fits = subst (λ (m : ℕ). m < 2 ^ 64) (sym (uncapped s size z.1.0)) z.1.0 })) (ap (vint w64) (uncapped s size z.1.0))) refl (tt, record { fits = z.1.0 }) $
    sets ! (bin ! (get ! refl) (get ! refl) tt) refl (tt, tt) $ sets ! (addr ! (through ! refl (stop !))) refl (tt, tt) $
    sets ! (is ! (bin ! (get ! refl) (size_word !) (record { fits = subst (λ (m : ℕ). m < 2 ^ 64) (sym (uncapped t size z.1.1)) z.1.1 })) (ap (vint w64) (uncapped t size z.1.1))) refl (tt, record { fits = z.1.1 }) $
    sets ! (bin ! (get ! refl) (get ! refl) tt) refl (tt, tt) $ sets ! (addr ! (through ! refl (stop !))) refl (tt, tt) $
    sets_last ! (agg ! (and_then ! (get ! refl) (and_then ! (get ! refl) (no_more !)))) refl (tt, (tt, (tt, tt))) $ exec ! 𝓣.C 𝓣.Λ (env function.locals l) (rest_of 2 function.body) (at_ret (env function.locals l) (W.post y)) $
    -- the two items are borrowed, and the rest comes back with them
    let Rest : SProp 𝓤 = sep 𝓤 (sem 𝓛 one_at) (sep 𝓤 (sem 𝓛 other_at) End) in
    let back : (x x' : X.Denot) → ent 𝓤 (sep 𝓤 (sem 𝓛 (ItemIn E Z 𝓛 b o it.buckets p s x)) (sep 𝓤 (sem 𝓛 (ItemIn E Z 𝓛 b o it.buckets p' t x')) Rest)) (sem 𝓛 (Lent.own_at (Ends x x') b o)) = λ x x'.
    (qed 𝓛 (‵ (ItemIn E Z 𝓛 b o it.buckets p s x) ∷ ‵ (ItemIn E Z 𝓛 b o it.buckets p' t x') ∷ ‵ one_at ∷ ‵ other_at ∷ raw End ∷ []) ∵ fjoin ! $ move ! (1 ∷ 2 ∷ []) $ fjoin ! $ fjoin ! $ move ! (1 ∷ []) $
    use1 𝓛 (raw (Closing E Z 𝓛 b o it.buckets i s j t z (x, x'))) (all_e 𝓤 (Closing E Z 𝓛 b o it.buckets i s j t z) (x, x')) $ move ! (1 ∷ 0 ∷ []) $
    use2 𝓛 (‵ (row Item full_share (write (write it.buckets i s x) j t x') b o)) (apply∗ 𝓤 (sem 𝓛 (fsep (fsep one_at other_at) (fsep (ItemIn E Z 𝓛 b o it.buckets p s x) (ItemIn E Z 𝓛 b o it.buckets p' t x')))) (sem 𝓛 (row Item full_share (write (write it.buckets i s x) j t x') b o))) $
    rewrite ! 0 (λ (bs : List Item.Denot). ‵ (row Item full_share bs b o)) (sym (refilled-write it.buckets i s j t x x')) refl $ done !) in
    let code = Lent.coded.code (items_of it.buckets) in
    move ! (5 ∷ 6 ∷ 7 ∷ 2 ∷ 3 ∷ 0 ∷ 1 ∷ 4 ∷ []) $ group ! 8 $
    use1 𝓛 (later (some (λ (γs : GName × GName). (‵ (fobs γs.0 ((R E).coded.code held)) ⊛ ‵ (fbor κ (Body (mem (R E)) p.0 (s * size + p.1) γs.0))) ⊛ (‵ (fobs γs.1 ((R E).coded.code held')) ⊛ ‵ (fbor κ (Body (mem (R E)) p'.0 (t * size + p'.1) γs.1)))
    ⊛ ‵ (flft κ q) ⊛ ‵ (after₂ Lent (mem (R E)) (mem (R E)) it.name γs.0 γs.1 Ends))))
    (takes_two 𝓛 Lent (mem (R E)) (mem (R E)) Ends κ q b o p.0 (s * size + p.1) p'.0 (t * size + p'.1) it.name Rest back code code held held') $ await ! tt $ pick ! (λ γs. split3 ! $
    let r : MutBor X.Denot = record { ref_ptr = (p.0, s * size + p.1); ghost_name = γs.0; now = held } in let r' : MutBor X.Denot = record { ref_ptr = (p'.0, t * size + p'.1); ghost_name = γs.1; now = held' } in
    let Ref = MutRef (named 0) κ (R E) in
    split ! $ feq_i ! (List Val) (mut_vals r) (mut_vals r) refl $ fjoin3 ! $ move ! (1 ∷ []) $ split ! $ feq_i ! (List Val) (mut_vals r') (mut_vals r') refl $ fjoin3 ! $
    -- [the second item; the first; the token and how the loan ends; the other tokens]
    move ! (1 ∷ 0 ∷ []) $ use2 𝓛 (‵ ((Pair κ (R E)).own_val (r, r') (pair_val (r, r') ∷ []))) (pair_made κ (R E) 𝓛 (r, r')) $ move ! (1 ∷ []) $ split ! $ move ! (1 ∷ []) $
    use1 𝓛 (‵ (follows_both Items (R E) (R E) it.name γs.0 γs.1 Ends)) (both_follow E Z 𝓛 it.buckets Ends it.name γs.0 γs.1) $ move ! (1 ∷ 3 ∷ []) $ join ! $ move ! (2 ∷ 1 ∷ 0 ∷ []) $
    -- [the pair; how the loan ends; the tokens]
    sets ! (of_opd ! (get ! refl)) refl (tt, (tt, (tt, tt))) $ returns ! (look_at ! 0 refl) $ free_all ! refl $
    suffices ! _ (ends_at 𝓛 call stayed c y (pair_val (r, r')) (r, r') (tt, (tt, (tt, (tt, (tt, tt))))) (tt, (tt, (tt, (tt, (tt, tt)))))) $
    use0 𝓛 (‵ (let_go 5)) (gone 𝓛 5) $ move ! (3 ∷ 0 ∷ 1 ∷ 2 ∷ []) $ group ! 3 $ frame ! $ says_two ! (slice_get-get_or (items_in one) s none low) (slice_get-get_or (items_in other) t none high) $ done !)))))))))
