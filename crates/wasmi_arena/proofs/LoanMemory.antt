-- A loan of items as a value. Assumes `Logic`.
--     LoanRow, loan_val      its type, and its machine value
--     loan_made      it is made of what it owns.        pair_made      and so are two of them
--     cuts      a loan of two runs of buckets is one of each
use mathlib.Core.Path.{refl, sym}
use Prim.Native.Nat.{ℕ, ◌+◌, ◌*◌, ◌<◌, ◌^◌}
use Rattle.wasmi_arena.proofs.Steps.{arith, length, length-append, Ura, full_share, SProp, ent, sep, emp, ex, Lft, GName, Share, Fml, ftrue, flft, fobs, fbor, T, Val, vstruct, vcons, vnil, has_ty, WT, Logic, sem, after₂, takes_two, ‵, raw, ◌⊛◌, some, later, ◌$◌, ◌∵◌, !, qed, done, drop, move, keep, use1, use2, split, split3, fsplit, fjoin, flt_i, flt_l, feq_i, fpack, rewrite, group, pick, await, now, show, updating, open_ref, SemTy, Body, row, nth, Is, Tells, layout, param_laws, RattleType, Valss, Ptr, block_ptr, null_ptr, ptr_val, NamedLft, nothing, owned, Struct, Struct-Makes, within, Tuple, tuple_type}
use mathlib.Core.List.{List, [], ◌∷◌, ◌++◌}
use base.Stored.{coded_list}
use denote.Struct.Struct.{Shape}
use denote.Struct.Declared as Declared
use denote.Struct.Owning.{shape}
use Rattle.std.proofs.Common.{lit<}
use Rattle.core.proofs.alloc.Calls.{Al}
use Rattle.core.proofs.mem.Param.{El, R}
use Rattle.core.proofs.ptr.Rows.{times_below}
use Rattle.core.proofs.slots.Leases.{P}
use Rattle.core.specs.declared.option.Option.{Option}
use Rattle.wasmi_arena.specs.Bucket.{Bucket}
use Rattle.std.specs.Mem.{type_size}
use Rattle.wasmi_arena.specs.inner.Loan.{SameBuckets, loan_owns}
use Rattle.wasmi_arena.specs.inner.Table.{items_of, refilled}
use Rattle.wasmi_arena.specs.contracts.raw.loan.ItemsLoan as Loan
use Rattle.wasmi_arena.proofs.Refilled.{length-refilled, refilled-own, refilled-append}
use Rattle.wasmi_arena.proofs.TableMemory.{MaybeBucket}
use Rattle.wasmi_arena.proofs.raw.loan.ItemsLoan.TheLaws as LoanLaws

module _ (κ : NamedLft) (E : El) (Z : Al) where
  abbrev pub LoanRow : RattleType
  LoanRow = Loan.the_row κ (R E) (P E Z) Z.g

  abbrev pub loan : Ptr → List (Option (Bucket E.row.Denot)) → GName → GName → LoanRow.Denot
  loan first buckets name whole = record { start = first; marker = record {}; buckets = buckets; name = name; whole = whole }

  abbrev pub loan_val : Ptr → Val
  loan_val first = vstruct (vcons (ptr_val first) (vcons (vstruct vnil) vnil))

  abbrev Fields : Shape
  Fields = shape (Loan.the_type κ (R E) (P E Z) Z.g)

  module _ {M : Type 1} {𝓤 : Ura M} (𝓛 : Logic 𝓤) where
    pub loan_made : (first : Ptr) (buckets : List (Option (Bucket E.row.Denot))) (name whole : GName)
        → ent 𝓤 (sem 𝓛 (loan_owns (R E) (P E Z) Z.g κ.lft first buckets name)) (sem 𝓛 (LoanRow.own_val (loan first buckets name whole) (loan_val first ∷ [])))
    loan_made first buckets name whole =
        qed 𝓛 (‵ (loan_owns (R E) (P E Z) Z.g κ.lft first buckets name) ∷ []) ∵
        owned ! (Struct Fields) (Is (Struct Fields)) (Struct-Makes 𝓛 Fields ((λ c vs. tt), ((λ x vs u. (tt, tt)), tt))) (first, (tt, tt)) (loan_val first ∷ [])
        ((ptr_val first ∷ [], (vstruct vnil ∷ [], tt)), (refl, (refl, ((tt, (refl, tt)), tt)))) $ fjoin ! $ done !

  pub loan_tells : Tells LoanRow (Is LoanRow) (λ l. loan_val l.start ∷ [])
  loan_tells = (LoanLaws.lowers κ (R E) (P E Z) Z.g (param_laws 0 E.row E.laws) (param_laws 1 Z.row Z.laws)).val_is

  pub loan_good : (first : Ptr) → T (has_ty (layout LoanRow) (loan_val first)) × WT (loan_val first)
  loan_good (block_ptr b o) = (tt, (tt, (tt, tt)))
  loan_good null_ptr = (tt, (record { fits = lit< tt }, (tt, tt)))

  -- two loans as one value
  abbrev pub Pair : RattleType
  Pair = Tuple (LoanRow ∷ LoanRow ∷ [])

  abbrev pub pair_val : Ptr → Ptr → Val
  pair_val front back = vstruct (vcons (loan_val front) (vcons (loan_val back) vnil))

  pub pair_made : {M : Type 1} {𝓤 : Ura M} (𝓛 : Logic 𝓤) (x y : LoanRow.Denot)
      → ent 𝓤 (sep 𝓤 (sem 𝓛 (LoanRow.own_val x (loan_val x.start ∷ []))) (sem 𝓛 (LoanRow.own_val y (loan_val y.start ∷ [])))) (sem 𝓛 (Pair.own_val (x, y) (pair_val x.start y.start ∷ [])))
  pair_made 𝓛 x y =
      let Shape' = Declared.shape (tuple_type (LoanRow ∷ LoanRow ∷ [])) in let v = pair_val x.start y.start in
      qed 𝓛 (‵ (LoanRow.own_val x (loan_val x.start ∷ [])) ∷ ‵ (LoanRow.own_val y (loan_val y.start ∷ [])) ∷ []) ∵
      nothing ! $ move ! (2 ∷ 0 ∷ []) $ fjoin ! $ move ! (1 ∷ 0 ∷ []) $ fjoin ! $ feq_i ! (List Val) (v ∷ []) (v ∷ []) refl $ fjoin ! $
      fpack ! (Valss (LoanRow ∷ LoanRow ∷ [])) (within Shape' (x, (y, tt)) (v ∷ [])) (loan_val x.start ∷ [], (loan_val y.start ∷ [], tt)) $ done !

-- a run of buckets in memory, from the place (b, o) on
module _ (E : El) (Z : Al) {M : Type 1} {𝓤 : Ura M} (𝓛 : Logic 𝓤) (b : ℕ) where
  open 𝓛 use {H, A}

  abbrev Bucket' : RattleType
  Bucket' = MaybeBucket E Z 27

  abbrev pub bucket_size : ℕ
  bucket_size = type_size Bucket'

  abbrev Buckets : Type 0
  Buckets = List (Option (Bucket E.row.Denot))

  abbrev run : Buckets → ℕ → Fml
  run buckets o = row Bucket' full_share buckets b o

  -- where what is behind so many buckets lies
  abbrev behind : ℕ → ℕ → ℕ
  behind o count = nth bucket_size o count

  run_apart : (front back : Buckets) (o : ℕ) → ent 𝓤 (sem 𝓛 (run (front ++ back) o)) (sep 𝓤 (sem 𝓛 (run front o)) (sem 𝓛 (run back (behind o (length front)))))
  run_apart [] back o = qed 𝓛 (‵ (run back o) ∷ []) ∵ nothing ! $ done !
  run_apart (bucket ∷ front) back o =
      qed 𝓛 (‵ (run (bucket ∷ front ++ back) o) ∷ []) ∵ fsplit ! $ move ! (1 ∷ []) $
      use1 𝓛 (‵ (run front (o + bucket_size)) ⊛ ‵ (run back (behind (o + bucket_size) (length front)))) (run_apart front back (o + bucket_size)) $ split ! $ move ! (2 ∷ 0 ∷ []) $ fjoin ! $ done !

  run_joined : (front back : Buckets) (o : ℕ) → ent 𝓤 (sep 𝓤 (sem 𝓛 (run front o)) (sem 𝓛 (run back (behind o (length front))))) (sem 𝓛 (run (front ++ back) o))
  run_joined [] back o = qed 𝓛 (‵ ftrue ∷ ‵ (run back o) ∷ []) ∵ drop ! $ done !
  run_joined (bucket ∷ front) back o =
      qed 𝓛 (‵ (run (bucket ∷ front) o) ∷ ‵ (run back (behind (o + bucket_size) (length front))) ∷ []) ∵ fsplit ! $ move ! (1 ∷ 2 ∷ []) $
      use2 𝓛 (‵ (run (front ++ back) (o + bucket_size))) (run_joined front back (o + bucket_size)) $ move ! (1 ∷ 0 ∷ []) $ fjoin ! $ done !

  abbrev Lent : Buckets → SemTy
  Lent = SameBuckets (R E) (P E Z) Z.g

  abbrev owns : Lft → ℕ → Buckets → GName → Fml
  owns κ o buckets ν = loan_owns (R E) (P E Z) Z.g κ (block_ptr b o) buckets ν

  -- a loan of two runs of buckets is one of each
  module _ (κ : Lft) (q : Share) (o : ℕ) (front back : Buckets) (ν : GName) where
    abbrev all : Buckets
    all = front ++ back

    abbrev o' : ℕ
    o' = behind o (length front)

    abbrev written : List E.row.Denot → List E.row.Denot → List E.row.Denot
    written us ws = items_of (refilled front us) ++ ws

    both_back : (us ws : List E.row.Denot) → ent 𝓤 (sep 𝓤 (sem 𝓛 ((Lent front).own_at us b o)) (sep 𝓤 (sem 𝓛 ((Lent back).own_at ws b o')) (emp 𝓤))) (sem 𝓛 ((Lent all).own_at (written us ws) b o))
    both_back us ws =
        qed 𝓛 (‵ (run (refilled front us) o) ∷ ‵ (run (refilled back ws) o') ∷ raw (emp 𝓤) ∷ []) ∵
        rewrite ! 1 (λ (n : ℕ). ‵ (run (refilled back ws) (behind o n))) (sym (length-refilled front us)) refl $
        use2 𝓛 (‵ (run (refilled front us ++ refilled back ws) o)) (run_joined (refilled front us) (refilled back ws) o) $
        rewrite ! 0 (λ (bs : Buckets). ‵ (run bs o)) (sym (refilled-append front back us ws)) refl $ keep ! (0 ∷ []) $ done !

    abbrev pub Halves : GName × GName → SProp 𝓤
    Halves νs = sep 𝓤 (sem 𝓛 (owns κ o front νs.0)) (sep 𝓤 (sem 𝓛 (owns κ o' back νs.1)) (A.lft κ q))

    pub cuts : ent 𝓤 (sep 𝓤 (sem 𝓛 (owns κ o all ν)) (A.lft κ q)) (H.⇛ (ex 𝓤 Halves))
    cuts =
        let codes = coded_list E.row.coded in
        qed 𝓛 (‵ (owns κ o all ν) ∷ ‵ (flft κ q) ∷ []) ∵ updating ! $ fsplit ! $ flt_l ! (λ small. fsplit ! $
        let long = length-append front back in
        let front_small : length front * bucket_size < 2 ^ 63 = times_below (length front) (length all) bucket_size (2 ^ 63) (omega (arith, long)) small in
        let back_small : length back * bucket_size < 2 ^ 63 = times_below (length back) (length all) bucket_size (2 ^ 63) (omega (arith, long)) small in
        open_ref ! tt (Lent all) {x = items_of all} {b = b} {o = o} $
        rewrite ! 0 (λ (bs : Buckets). ‵ (run bs o)) (refilled-own all) refl $ use1 𝓛 (‵ (run front o) ⊛ ‵ (run back o')) (run_apart front back o) $ split ! $
        rewrite ! 0 (λ (bs : Buckets). ‵ (run bs o)) (sym (refilled-own front)) refl $ rewrite ! 1 (λ (bs : Buckets). ‵ (run bs o')) (sym (refilled-own back)) refl $
        -- [the first buckets; those behind them; the open borrow, in three entries]
        nothing ! $ move ! (3 ∷ 4 ∷ 5 ∷ 1 ∷ 2 ∷ 0 ∷ []) $ group ! 6 $
        use1 𝓛 (later (some (λ (νs : GName × GName). (‵ (fobs νs.0 (codes.code (items_of front))) ⊛ ‵ (fbor κ (Body (Lent front) b o νs.0))) ⊛ (‵ (fobs νs.1 (codes.code (items_of back))) ⊛ ‵ (fbor κ (Body (Lent back) b o' νs.1)))
        ⊛ ‵ (flft κ q) ⊛ ‵ (after₂ (Lent all) (Lent front) (Lent back) ν νs.0 νs.1 written))))
        (takes_two 𝓛 (Lent all) (Lent front) (Lent back) written κ q b o b o b o' ν (emp 𝓤) both_back (codes.code (items_of all)) (codes.code (items_of all)) (items_of front) (items_of back)) $ await ! tt $ pick ! (λ νs. split3 ! $
        split ! $ fjoin ! $ flt_i ! (length front * bucket_size) (2 ^ 63) front_small $ fjoin ! $ move ! (1 ∷ []) $
        split ! $ fjoin ! $ flt_i ! (length back * bucket_size) (2 ^ 63) back_small $ fjoin ! $ move ! (2 ∷ []) $ split ! $
        now ! $ show ! Halves νs $ keep ! (3 ∷ 2 ∷ 0 ∷ []) $ done !))
