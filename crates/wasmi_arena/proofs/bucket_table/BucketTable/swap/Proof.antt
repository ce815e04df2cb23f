-- `swap` exchanges the items in two slots, each found by the pointer of its bucket. Assumes `Logic`.
use Rattle.std.proofs.Common.{◌≡◌, ◌≢◌, ℕ, ◌+◌, ◌*◌, ◌<◌, ◌≤◌, ◌^◌, List, [], ◌∷◌, length, get_or, None, refl, sym, ap, ◌∙◌, subst, arith, w64, mul-le-mul_right}
use Rattle.std.proofs.lemmas.List.{length-set}
use Rattle.std.proofs.lemmas.Option.{get_or_from_slice_get}
use Rattle.wasmi_arena.proofs.Steps.{proved, all, all_e, apply∗, id⊢, ftrue, fsep, fat, flft, full_share, named, inst_fn, Val, vint, vptr, vunit, ◌⊑◌, fact, tables, size, join, use0, use1, use2, ‵, raw, ◌⊛◌, some, at_ret, ◌$◌, ◌∵◌, !, qed, done, move, keep, drop, split, split3, pick, given, learn, fsplit, fsplit3, fjoin, fjoin3, feq_i, suffices, sem, whole, sub, look_in, enter, of_opd, bin, size_word, align_word, addr, load, look, unit_lit, assigns_last, fld, stop, first, blocks, exec, returns, alloc_all, pass_all, free_all, look_at, get, through, sets, is, env, open_ref, usize, yes, row, mem, layout, number, uint_vals, uint_Tells, MutRef, mut_vals, mut_Tells, plain, heard, Stays, walk_of, says, stay_dropped, Goes-dropped, stay_ref, Goes-ref, ends_at}
use types.Run.{store, assigns}
use types.Mut.{close_ref}
use Rattle.core.proofs.alloc.Calls.{Al}
use Rattle.core.proofs.mem.Param.{El, R, elτ, Good}
use Rattle.core.proofs.ptr.Rows.{el_out, el_in}
use Rattle.core.proofs.slots.Leases.{uncapped}
use Rattle.std_alloc.proofs.VecSteps.Shapes.{after as rest_of}
use Rattle.std.specs.Mem.{type_size}
use Rattle.wasmi_arena.specs.inner.Table.{items_in, write}
use Rattle.wasmi_arena.specs.contracts.bucket_table.BucketTable.swap as F
use Rattle.wasmi_arena.proofs.bucket_table.BucketTable.swap.Statement.{statement}
use Rattle.wasmi_arena.proofs.bucket_table.BucketTable.swap.Code as code
use Rattle.wasmi_arena.proofs.BucketMemory.{BucketRow, open_laws}
use Rattle.wasmi_arena.proofs.Frame.{let_go, gone}
use Rattle.wasmi_arena.proofs.PairMemory.{Where, Pointer, ItemIn, Closing, Two, pair_out}
use Rattle.wasmi_arena.proofs.Rewritten.{filled_inside, item_in_slot}
use Rattle.wasmi_arena.proofs.SomeMemory.{behind_tag}
use Rattle.wasmi_arena.proofs.SlotRuns.{as_rows}
use Rattle.wasmi_arena.proofs.TableMemory.{args, MaybeBucket, TableRow, first_at, bare_table, buckets_out, buckets_in}

pub swap_spec : {M : Type 1} → statement M
swap_spec 𝓤 𝓛 𝓜 𝓡 wired X Y n LX LY count_fits g d dd met md =
    let E : El = record { row = X; laws = LX } in let Z : Al = record { row = Y; laws = LY; g = g; d = d; drops = dd } in
    let call = F.ended X Y (number n) g d dd in let c = F.clauses X Y (number n) g d dd 𝓛 𝓜.mem 𝓡.returns in
    let Self = TableRow E Z n in let Item = MaybeBucket E Z n in
    let stayed : Stays call.signature.params call.kept = (stay_ref (0 ∷ []) tt (plain (λ _. Self)), (stay_dropped _ yes, (stay_dropped _ yes, (stay_dropped _ yes, (stay_dropped _ yes, tt))))) in
    let function = inst_fn (args E Z n) code.function in
    let W = walk_of 𝓛 call stayed c in let 𝓣 = tables 𝓤 𝓛.H 𝓜 𝓡 𝓡.env in
    let number' = Goes-dropped 𝓛 4 (plain (λ _. usize)) yes (λ κs x w. refl) in
    proved 𝓛 call stayed c 𝓜 𝓡 (Goes-ref 𝓛 4 0 tt (plain (λ _. Self)), (number', (number', (number', (number', tt)))))
    (F.Key.name (args E Z n)) function (code.unfolded 𝓤 𝓛.H 𝓜 𝓡 wired (X, (Y, (number n, tt))) d dd)
    (λ κs. (mut_vals, (uint_vals w64, (uint_vals w64, (uint_vals w64, (uint_vals w64, tt)))))) (λ κs. (mut_Tells (named 0) κs.0 Self, (uint_Tells w64, (uint_Tells w64, (uint_Tells w64, (uint_Tells w64, tt))))))
    (λ κs qs bounds a _ are.
    let table = a.0.now in let b = a.0.ref_ptr.0 in let o = a.0.ref_ptr.1 in let κ = κs.0 in let q = qs.0 in let γ = a.0.ghost_name in let w = type_size Item in let size' = type_size (R E) in
    let i = a.1.0 in let s = a.1.1.0 in let j = a.1.1.1.0 in let t = a.1.1.1.1.0 in
    let y : W.Ghost = ((κs, qs, bounds, a, (mut_vals a.0, (uint_vals w64 i, (uint_vals w64 s, (uint_vals w64 j, (uint_vals w64 t, tt)))))), tt) in
    let others_alive = ‵ (flft κs.1.0 qs.1.0) ⊛ ‵ (flft κs.1.1.0 qs.1.1.0) ⊛ ‵ (flft κs.1.1.1.0 qs.1.1.1.0) ⊛ ‵ ftrue in
    let one : Item.Denot = get_or table.buckets i None in let other : Item.Denot = get_or table.buckets j None in
    qed 𝓛 (((‵ (flft κ q) ⊛ others_alive) ⊛ ‵ ((MutRef (named 0) κ Self).own_val a.0 (mut_vals a.0)) ⊛ ‵ (usize.own_val i (uint_vals w64 i)) ⊛ ‵ (usize.own_val s (uint_vals w64 s))
    ⊛ ‵ (usize.own_val j (uint_vals w64 j)) ⊛ ‵ (usize.own_val t (uint_vals w64 t)) ⊛ ‵ ftrue)
    ∷ (raw (fact 𝓤 (κs.1.0 ⊑ X.lives)) ⊛ raw (fact 𝓤 (κs.1.1.0 ⊑ Y.lives)) ⊛ raw (fact 𝓤 (κs.1.1.1.0 ⊑ [])) ⊛ raw (fact 𝓤 (size (layout Self) < 2 ^ 63))
    ⊛ raw (fact 𝓤 (i ≡ j → s ≢ t)) ⊛ raw (fact 𝓤 (s < length (items_in one))) ⊛ raw (fact 𝓤 (t < length (items_in other)))) ∷ []) ∵
    move ! (1 ∷ []) $ split ! $ drop ! $ split ! $ drop ! $ split ! $ drop ! $ split ! $ heard ! _ (λ small. split ! $ heard ! _ (λ apart. split ! $ heard ! _ (λ low. heard ! _ (λ high.
    split ! $ split ! $ move ! (2 ∷ []) $ split ! $ fsplit3 ! $ keep ! (1 ∷ 2 ∷ 4 ∷ 5 ∷ []) $
    enter ! _ _ _ _ _ $ alloc_all ! (λ l. pass_all ! refl ((tt, tt), ((tt, record { fits = are.1.0.1 }), ((tt, record { fits = are.1.1.0.1 }), ((tt, record { fits = are.1.1.1.0.1 }), ((tt, record { fits = are.1.1.1.1.0.1 }), tt))))) $
    open_ref ! tt (mem Self) {b = b} {o = o} $
    -- [the table; the open borrow, in three entries; the other tokens]
    use1 𝓛 (given (length table.buckets ≡ n) (‵ (row Item full_share table.buckets b (first_at E Z n o)) ⊛ raw (bare_table E Z n 𝓛 b o))) (buckets_out E Z n 𝓛 b o table) $ learn ! (λ counted. split ! $
    let from = first_at E Z n o in let i_in = filled_inside table.buckets i s low in let j_in = filled_inside table.buckets j t high in
    let everything : n * w < 2 ^ 63 = omega arith in
    let few_i : i * w ≤ n * w = mul-le-mul_right w (omega (arith, i_in, counted)) in let bytes_i : i * w < 2 ^ 64 = omega arith in
    let few_j : j * w ≤ n * w = mul-le-mul_right w (omega (arith, j_in, counted)) in let bytes_j : j * w < 2 ^ 64 = omega arith in
    let at_i = i * w + from in let at_j = j * w + from in
    let none = (item_in_slot one s low).0 in let held = get_or (items_in one) s none in let held' = get_or (items_in other) t none in
    use1 𝓛 (some (λ (z : Where E Z s t). raw (Two E Z 𝓛 b from table.buckets i s j t held held' z))) (pair_out E Z 𝓛 b from table.buckets none i s j t apart low high) $ pick ! (λ z.
    let p = z.0.1.0 in let p' = z.0.1.1 in let one_at = Pointer E Z 𝓛 b from table.buckets i z.0.0.0 p in let other_at = Pointer E Z 𝓛 b from table.buckets j z.0.0.1 p' in
    let End = all 𝓤 (Closing E Z 𝓛 b from table.buckets i s j t z) in let place = s * size' + p.1 in let place' = t * size' + p'.1 in
    use1 𝓛 (‵ (fsep one_at other_at) ⊛ ‵ (ItemIn E Z 𝓛 b from table.buckets p s held) ⊛ ‵ (ItemIn E Z 𝓛 b from table.buckets p' t held') ⊛ raw End) (id⊢ 𝓤 _) $ split ! $ move ! (1 ∷ []) $ split3 ! $ move ! (3 ∷ []) $ fsplit ! $
    -- [the two pointers; the two items; the way back; the rest of the table; the open borrow, in three entries; the other tokens]
    move ! (2 ∷ []) $ use1 𝓛 (some (λ (v : Val). given (Good E v) (‵ (fat full_share (elτ E) p.0 place v) ⊛ ‵ (X.own_val held (v ∷ []))))) (el_out (as_rows E) 𝓛 full_share held p.0 place) $ pick ! (λ v. learn ! (λ good. split ! $
    move ! (4 ∷ []) $ use1 𝓛 (some (λ (v : Val). given (Good E v) (‵ (fat full_share (elτ E) p'.0 place' v) ⊛ ‵ (X.own_val held' (v ∷ []))))) (el_out (as_rows E) 𝓛 full_share held' p'.0 place') $ pick ! (λ v'. learn ! (λ good'. split ! $
    -- [the second item's machine value, and what it owns; the first one's; the two pointers; the way back; ..]
    sets ! (addr ! (through ! refl (fld ! refl (stop !)))) refl (tt, tt) $ first ! $ blocks ! $
    sets ! (is ! (bin ! (get ! refl) (size_word !) (record { fits = subst (λ (m : ℕ). m < 2 ^ 64) (sym (uncapped i w bytes_i)) bytes_i })) (ap (vint w64) (uncapped i w bytes_i))) refl (tt, record { fits = bytes_i }) $
    sets ! (bin ! (get ! refl) (get ! refl) tt) refl (tt, tt) $ sets ! (of_opd ! (get ! refl)) refl (tt, tt) $
    sets ! (is ! (bin ! (get ! refl) (align_word !) tt) (ap (vptr b) (behind_tag (BucketRow E Z) (open_laws E Z) at_i))) refl (tt, tt) $ sets ! (of_opd ! (get ! refl)) refl (tt, tt) $
    sets ! (of_opd ! (load ! (through ! refl (fld ! refl (fld ! refl (stop !)))) (look_in ! 4 (sub ! 0 refl (whole !))))) refl (tt, tt) $
    sets ! (is ! (bin ! (get ! refl) (size_word !) (record { fits = subst (λ (m : ℕ). m < 2 ^ 64) (sym (uncapped s size' z.1.0)) z.1.0 })) (ap (vint w64) (uncapped s size' z.1.0))) refl (tt, record { fits = z.1.0 }) $
    sets ! (bin ! (get ! refl) (get ! refl) tt) refl (tt, tt) $
    sets ! (is ! (bin ! (get ! refl) (size_word !) (record { fits = subst (λ (m : ℕ). m < 2 ^ 64) (sym (uncapped j w bytes_j)) bytes_j })) (ap (vint w64) (uncapped j w bytes_j))) refl (tt, record { fits = bytes_j }) $
    sets ! (bin ! (get ! refl) (get ! refl) tt) refl (tt, tt) $ sets ! (of_opd ! (get ! refl)) refl (tt, tt) $
    sets ! (is ! (bin ! (get ! refl) (align_word !) tt) (ap (vptr b) (behind_tag (BucketRow E Z) (open_laws E Z) at_j))) refl (tt, tt) $ sets ! (of_opd ! (get ! refl)) refl (tt, tt) $
    sets ! (of_opd ! (load ! (through ! refl (fld ! refl (fld ! refl (stop !)))) (look_in ! 5 (sub ! 0 refl (whole !))))) refl (tt, tt) $
    sets ! (is ! (bin ! (get ! refl) (size_word !) (record { fits = subst (λ (m : ℕ). m < 2 ^ 64) (sym (uncapped t size' z.1.1)) z.1.1 })) (ap (vint w64) (uncapped t size' z.1.1))) refl (tt, record { fits = z.1.1 }) $
    sets ! (bin ! (get ! refl) (get ! refl) tt) refl (tt, tt) $
    sets ! (of_opd ! (load ! (through ! refl (stop !)) (look ! 2 refl))) refl good $ sets ! (of_opd ! (load ! (through ! refl (stop !)) (look ! 0 refl))) refl good' $
    assigns ! (of_opd ! (get ! refl)) (through ! refl (stop !)) (store ! 2 refl good') $ sets ! (of_opd ! (get ! refl)) refl good $
    assigns_last ! (of_opd ! (get ! refl)) (through ! refl (stop !)) (store ! 0 refl good) $ exec ! 𝓣.C 𝓣.Λ (env function.locals l) (rest_of 2 function.body) (at_ret (env function.locals l) (W.post y)) $
    sets ! (of_opd ! (unit_lit !)) refl (tt, tt) $
    -- each item is in the other's place
    move ! (2 ∷ 1 ∷ []) $ use2 𝓛 (‵ (ItemIn E Z 𝓛 b from table.buckets p s held')) (el_in (as_rows E) 𝓛 full_share held' p.0 place v') $
    move ! (1 ∷ 2 ∷ []) $ use2 𝓛 (‵ (ItemIn E Z 𝓛 b from table.buckets p' t held)) (el_in (as_rows E) 𝓛 full_share held p'.0 place' v) $
    move ! (1 ∷ 0 ∷ []) $ fjoin ! $ move ! (1 ∷ 2 ∷ []) $ fjoin ! $ fjoin ! $ move ! (1 ∷ []) $
    let new : (Self).Denot = record { buckets = write (write table.buckets i s held') j t held } in
    use1 𝓛 (raw (Closing E Z 𝓛 b from table.buckets i s j t z (held', held))) (all_e 𝓤 (Closing E Z 𝓛 b from table.buckets i s j t z) (held', held)) $ move ! (1 ∷ 0 ∷ []) $
    use2 𝓛 (‵ (row Item full_share new.buckets b from)) (apply∗ 𝓤 (sem 𝓛 (fsep (fsep one_at other_at) (fsep (ItemIn E Z 𝓛 b from table.buckets p s held') (ItemIn E Z 𝓛 b from table.buckets p' t held)))) (sem 𝓛 (row Item full_share new.buckets b from))) $
    let still : length new.buckets ≡ n = length-set (write table.buckets i s held') j _ ∙ (length-set table.buckets i _ ∙ counted) in
    use2 𝓛 (‵ ((mem Self).own_at new b o)) (buckets_in E Z n 𝓛 b o new still) $ close_ref ! tt (mem Self) new {b = b} {o = o} $
    returns ! (look_at ! 0 refl) $ free_all ! refl $
    suffices ! _ (ends_at 𝓛 call stayed c y vunit tt (new, (tt, (tt, (tt, (tt, tt))))) (tt, (tt, (tt, (tt, (tt, tt)))))) $
    says ! (λ x x' at_x at_x'. let same = get_or_from_slice_get (items_in one) s x none at_x in let same' = get_or_from_slice_get (items_in other) t x' none at_x' in λ k. write (write table.buckets i s (same' k)) j t (same k)) $
    feq_i ! (List Val) (vunit ∷ []) (vunit ∷ []) refl $ use0 𝓛 (‵ (let_go 4)) (gone 𝓛 4) $ move ! (2 ∷ 3 ∷ []) $ feq_i ! (List Val) (mut_vals a.0) (mut_vals a.0) refl $ fjoin3 ! $ fjoin ! $ move ! (2 ∷ 3 ∷ []) $ join ! $ done !))))))))))))
