-- A stable vector in memory is the buckets of its table side by side, and the rest. Assumes `Logic`.
use mathlib.Core.Path.{◌≡◌, refl, ap, ◌∙◌}
use Prim.Native.Nat.{ℕ, zero, ◌+◌}
use mathlib.Core.List.{List, [], ◌∷◌}
use Rattle.wasmi_arena.proofs.Steps.{length, Ura, full_share, SProp, ent, sep, ex, w64, align, up, Logic, sem, some, by, ‵, raw, ◌⊛◌, ◌$◌, ◌∵◌, !, qed, done, use1, use2, split, learn, given, pick, show, usize, row, Lawfuls, part_at, mem, lone, view_owns, view_made, plain_out, Plain-in, number, param_laws, uint_Lawful, RattleType, Denots, Member, rows_of, PartsBack, rest_at, field_out, field_back}
use denote.Memory.{part_of}
use Rattle.core.proofs.alloc.Calls.{Al}
use Rattle.core.proofs.mem.Param.{El, R}
use Rattle.core.proofs.slots.Leases.{P}
use Rattle.core.specs.List.{refill}
use Rattle.wasmi_arena.specs.inner.Loan.{SameBuckets}
use Rattle.wasmi_arena.specs.inner.Table.{refilled}
use Rattle.wasmi_arena.specs.contracts.stable_vec.StableVec as Vec
use Rattle.wasmi_arena.specs.contracts.stable_vec.StableVec.TheInside as VecInside
use Rattle.wasmi_arena.specs.contracts.bucket_table.BucketTable as Table
use Rattle.wasmi_arena.proofs.Refilled.{IsLaidOut-refilled, items_of-refilled}
use Rattle.wasmi_arena.proofs.TableMemory.{MaybeBucket, TableRow, first_at, bare_table, buckets_out, buckets_in}
use Rattle.wasmi_arena.proofs.bucket_table.BucketTable.TheLaws as TableLaws

module _ (E : El) (Z : Al) where
  abbrev pub VecRow : RattleType
  VecRow = Vec.the_row (R E) (P E Z) Z.g

  abbrev pub Inside : RattleType
  Inside = VecInside.the_row (R E) (P E Z) Z.g

  abbrev Rows : RattleType
  Rows = Table.the_row (R E) (P E Z) (number 27) Z.g

  abbrev fields : List Member
  fields =
      record { row = Rows; ty = lone Rows.mir } ∷ record { row = usize; ty = lone usize.mir } ∷ record { row = usize; ty = lone usize.mir }
      ∷ record { row = usize; ty = lone usize.mir } ∷ record { row = P E Z; ty = lone (P E Z).mir } ∷ []

  abbrev view : (Inside).Denot → List E.row.Denot
  view = Vec.the_view (R E) (P E Z) Z.g

  abbrev holds : (Inside).Denot → Type 0
  holds = Vec.the_invariant (R E) (P E Z) Z.g

  -- a vector's fields, at which it is seen as these items
  abbrev pub Seen : List E.row.Denot → Type 0
  Seen items = (v : (Inside).Denot) × ((view v ≡ items) × holds v)

  -- where the table of a vector at o lies, and its first bucket
  abbrev table_at : ℕ → ℕ
  table_at o = o + up (align (lone Rows.mir)) zero

  abbrev pub buckets_at : ℕ → ℕ
  buckets_at o = first_at E Z 27 (table_at o)

  abbrev values : (Inside).Denot → Denots (rows_of fields)
  values v = (v.table, (v.open_buckets, (v.slots, (v.len, (v.alloc, tt)))))

  module _ {M : Type 1} {𝓤 : Ura M} (𝓛 : Logic 𝓤) (b o : ℕ) where
    abbrev bare_fields : (Inside).Denot → SProp 𝓤
    bare_fields v = sep 𝓤 (sem 𝓛 (rest_at full_share fields zero (values v) b o zero)) (PartsBack 𝓛 full_share [] fields b o)

    -- what is left of a vector without its buckets
    abbrev pub bare_vec : (Inside).Denot → SProp 𝓤
    bare_vec v = sep 𝓤 (bare_table E Z 27 𝓛 b (table_at o)) (bare_fields v)

    pub vec_out : (items : List E.row.Denot) → ent 𝓤 (sem 𝓛 ((mem VecRow).own_at items b o)) (ex 𝓤 (λ (x : Seen items). sep 𝓤 (sem 𝓛 (row (MaybeBucket E Z 27) full_share x.0.table.buckets b (buckets_at o))) (bare_vec x.0)))
    unfolding part_of
    vec_out items =
        let word = uint_Lawful 𝓛 w64 in
        let lawful : Lawfuls 𝓛 (rows_of fields) = ((TableLaws.the_row_laws (R E) (P E Z) (number 27) Z.g (param_laws 0 E.row E.laws) (param_laws 1 Z.row Z.laws) refl).lawful 𝓛, (word, (word, (word, ((param_laws 1 Z.row Z.laws).lawful 𝓛, tt))))) in
        qed 𝓛 (‵ (part_at VecRow full_share items b o) ∷ []) ∵
        use1 𝓛 (some (λ (x : Seen items). ‵ (part_at Inside full_share x.0 b o))) (plain_out VecRow Inside (view_owns Inside (List E.row.Denot) (VecRow).coded view holds) 𝓛 full_share items b o) $ pick ! (λ x.
        use1 𝓛 (‵ (part_at Rows full_share x.0.table b (table_at o)) ⊛ raw (bare_fields x.0)) (field_out 𝓛 full_share [] fields lawful (values x.0) b o zero) $ split ! $
        use1 𝓛 (given (length x.0.table.buckets ≡ 27) (‵ (row (MaybeBucket E Z 27) full_share x.0.table.buckets b (buckets_at o)) ⊛ raw (bare_table E Z 27 𝓛 b (table_at o)))) (buckets_out E Z 27 𝓛 b (table_at o) x.0.table) $ learn ! (λ counted.
        split ! $ show ! (λ (y : Seen items). sep 𝓤 (sem 𝓛 (row (MaybeBucket E Z 27) full_share y.0.table.buckets b (buckets_at o))) (bare_vec y.0)) x $ done !))

    pub vec_back : (items : List E.row.Denot) (x : Seen items) (ws : List E.row.Denot)
        → ent 𝓤 (sep 𝓤 (sem 𝓛 ((SameBuckets (R E) (P E Z) Z.g x.0.table.buckets).own_at ws b (buckets_at o))) (bare_vec x.0)) (sem 𝓛 ((mem VecRow).own_at (refill (length items) items ws) b o))
    unfolding part_of
    vec_back items x ws =
        let v = x.0 in let laid = IsLaidOut-refilled v.table.buckets v.open_buckets v.slots v.len x.1.1 ws in
        let t : (TableRow E Z 27).Denot = record { buckets = refilled v.table.buckets ws } in
        let u : (Inside).Denot = record { table = t; open_buckets = v.open_buckets; slots = v.slots; len = v.len; alloc = v.alloc } in
        let seen : view u ≡ refill (length items) items ws = items_of-refilled v.table.buckets ws ∙ ap (λ (xs : List E.row.Denot). refill (length xs) xs ws) x.1.0 in
        qed 𝓛 (‵ (row (MaybeBucket E Z 27) full_share t.buckets b (buckets_at o)) ∷ raw (bare_table E Z 27 𝓛 b (table_at o)) ∷ raw (bare_fields v) ∷ []) ∵
        use2 𝓛 (‵ (part_at (TableRow E Z 27) full_share t b (table_at o))) (buckets_in E Z 27 𝓛 b (table_at o) t laid.buckets_counted) $
        use2 𝓛 (‵ (part_at Inside full_share u b o)) (field_back 𝓛 full_share [] fields (values u) b o zero) $
        by ! (Plain-in VecRow Inside (view_owns Inside (List E.row.Denot) (VecRow).coded view holds) 𝓛 full_share (refill (length items) items ws) u
        (view_made Inside (List E.row.Denot) (VecRow).coded view holds 𝓛 (refill (length items) items ws) u (seen, laid)) b o)
