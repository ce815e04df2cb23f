-- `bucket_mut` lends one bucket of the table. Assumes `Logic`.
use Rattle.std.proofs.Common.{◌≡◌, ℕ, ◌*◌, ◌<◌, ◌≤◌, ◌^◌, [], ◌∷◌, length, get_or, None, refl, sym, ap, subst, arith, w64, MutBor, mul-le-mul_right}
use Rattle.wasmi_arena.proofs.Steps.{proved, full_share, id⊢, GName, ftrue, flft, named, inst_fn, vint, vptr, size, ◌⊑◌, fact, join, use0, use2, ‵, raw, ◌⊛◌, some, later, ◌$◌, ◌∵◌, !, qed, done, move, keep, drop, use1, split, group, pick, await, learn, given, fsplit3, fjoin3, frame, suffices, enter, size_word, bin, addr, fld, stop, returns, alloc_all, pass_all, free_all, look_at, get, through, sets, is, open_ref, usize, yes, no, follows, row, mem, layout, number, uint_vals, uint_Tells, MutRef, mut_vals, mut_Tells, plain, heard, Stays, walk_of, says, stay_dropped, Goes-dropped, Goes-spent_ref, ends_at}
use Rattle.std.specs.Mem.{type_size}
use Rattle.core.proofs.alloc.Calls.{Al}
use Rattle.core.proofs.mem.Param.{El}
use Rattle.core.proofs.slots.Leases.{uncapped}
use Rattle.wasmi_arena.specs.contracts.bucket_table.BucketTable.bucket_mut as F
use Rattle.wasmi_arena.proofs.bucket_table.BucketTable.bucket_mut.Statement.{statement}
use Rattle.wasmi_arena.proofs.bucket_table.BucketTable.bucket_mut.Code as code
use Rattle.wasmi_arena.proofs.Frame.{let_go, gone}
use Rattle.wasmi_arena.proofs.TableMemory.{args, MaybeBucket, TableRow, first_at, bare_table, buckets_out, with_bucket, offset_of_bucket, LentBucket, bucket_lent}

pub bucket_mut_spec : {M : Type 1} → statement M
bucket_mut_spec 𝓤 𝓛 𝓜 𝓡 wired X Y n LX LY count_fits g d dd met md =
    let E : El = record { row = X; laws = LX } in let Z : Al = record { row = Y; laws = LY; g = g; d = d; drops = dd } in
    let call = F.ended X Y (number n) g d dd in let c = F.clauses X Y (number n) g d dd 𝓛 𝓜.mem 𝓡.returns in
    let Self = TableRow E Z n in let Item = MaybeBucket E Z n in
    let stayed : Stays call.signature.params call.kept = (stay_dropped _ no, (stay_dropped _ yes, tt)) in
    let function = inst_fn (args E Z n) code.function in
    let W = walk_of 𝓛 call stayed c in
    proved 𝓛 call stayed c 𝓜 𝓡 (Goes-spent_ref 𝓛 4 (0 ∷ []) tt (plain (λ _. Self)), (Goes-dropped 𝓛 4 (plain (λ _. usize)) yes (λ κs x w. refl), tt))
    (F.Key.name (args E Z n)) function (code.unfolded 𝓤 𝓛.H 𝓜 𝓡 wired (X, (Y, (number n, tt))) d dd)
    (λ κs. (mut_vals, (uint_vals w64, tt))) (λ κs. (mut_Tells (named 0) κs.0 Self, (uint_Tells w64, tt)))
    (λ κs qs bounds a _ are.
    let t = a.0.now in let k = a.1.0 in let b = a.0.ref_ptr.0 in let o = a.0.ref_ptr.1 in let κ = κs.0 in let q = qs.0 in let γ = a.0.ghost_name in let s = type_size Item in
    let y : W.Ghost = ((κs, qs, bounds, a, (mut_vals a.0, (uint_vals w64 k, tt))), tt) in
    let others_alive = ‵ (flft κs.1.0 qs.1.0) ⊛ ‵ (flft κs.1.1.0 qs.1.1.0) ⊛ ‵ (flft κs.1.1.1.0 qs.1.1.1.0) ⊛ ‵ ftrue in
    qed 𝓛 (((‵ (flft κ q) ⊛ others_alive) ⊛ ‵ ((MutRef (named 0) κ Self).own_val a.0 (mut_vals a.0)) ⊛ ‵ (usize.own_val k (uint_vals w64 k)) ⊛ ‵ ftrue)
    ∷ (raw (fact 𝓤 (κs.1.0 ⊑ X.lives)) ⊛ raw (fact 𝓤 (κs.1.1.0 ⊑ Y.lives)) ⊛ raw (fact 𝓤 (κs.1.1.1.0 ⊑ [])) ⊛ raw (fact 𝓤 (size (layout Self) < 2 ^ 63)) ⊛ raw (fact 𝓤 (k < n))) ∷ []) ∵
    move ! (1 ∷ []) $ split ! $ drop ! $ split ! $ drop ! $ split ! $ drop ! $ split ! $ heard ! _ (λ small. heard ! _ (λ below.
    split ! $ split ! $ move ! (2 ∷ []) $ split ! $ fsplit3 ! $ keep ! (1 ∷ 2 ∷ 4 ∷ 5 ∷ []) $
    let all : n * s < 2 ^ 63 = omega arith in let part : k * s ≤ n * s = mul-le-mul_right s (omega arith) in let bytes : k * s < 2 ^ 64 = omega arith in
    enter ! _ _ _ _ _ $ alloc_all ! (λ l. pass_all ! refl ((tt, tt), ((tt, record { fits = are.1.0.1 }), tt)) $
    sets ! (is ! (bin ! (get ! refl) (size_word !) (record { fits = subst (λ (m : ℕ). m < 2 ^ 64) (sym (uncapped k s bytes)) bytes })) (ap (vint w64) (uncapped k s bytes))) refl (tt, record { fits = bytes }) $
    sets ! (addr ! (through ! refl (fld ! refl (stop !)))) refl (tt, tt) $ sets ! (bin ! (get ! refl) (get ! refl) tt) refl (tt, tt) $ sets ! (addr ! (through ! refl (stop !))) refl (tt, tt) $
    open_ref ! tt (mem Self) {b = b} {o = o} $
    -- [the table; the open borrow, in three entries; the other tokens]
    use1 𝓛 (given (length t.buckets ≡ n) (‵ (row Item full_share t.buckets b (first_at E Z n o)) ⊛ raw (bare_table E Z n 𝓛 b o))) (buckets_out E Z n 𝓛 b o t) $ learn ! (λ counted.
    let inside : k < length t.buckets = omega arith in
    move ! (1 ∷ 2 ∷ 3 ∷ []) $ fjoin3 ! $ move ! (1 ∷ 0 ∷ []) $
    use2 𝓛 (later (some (λ (δ : GName). raw (LentBucket E Z n 𝓛 b o t counted k inside None κ q γ δ)))) (bucket_lent E Z n 𝓛 b o t counted k inside None κ q γ) $ await ! tt $ pick ! (λ δ.
    let r : MutBor Item.Denot = record { ref_ptr = (b, offset_of_bucket E Z n 𝓛 b o t counted k inside); ghost_name = δ; now = get_or t.buckets k None } in
    use1 𝓛 (‵ ((MutRef (named 0) κ Item).own_val r (mut_vals r)) ⊛ ‵ (flft κ q) ⊛ ‵ (follows Self Item γ δ (with_bucket E Z n 𝓛 b o t counted k inside))) (id⊢ 𝓤 _) $
    split ! $ move ! (1 ∷ []) $ split ! $ returns ! (look_at ! 0 refl) $ free_all ! refl $
    -- [the token; what the table is afterwards; the bucket; the other tokens]
    suffices ! _ (ends_at 𝓛 call stayed c y (vptr b r.ref_ptr.1) r (tt, (tt, tt)) (tt, (tt, tt))) $
    move ! (0 ∷ 3 ∷ []) $ join ! $ use0 𝓛 (‵ (let_go 2)) (gone 𝓛 2) $ move ! (1 ∷ 0 ∷ 3 ∷ 2 ∷ []) $ group ! 3 $ frame ! $ says ! refl $ done !))))))
