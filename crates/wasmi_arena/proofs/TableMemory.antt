-- A table of buckets in memory is its buckets side by side. Assumes `Logic`.
use mathlib.Core.Path.{◌≡◌, refl, sym, ◌∙◌}
use Prim.Native.Nat.{ℕ, zero, ◌+◌, ◌*◌, ◌<◌}
use mathlib.Core.List.{List, [], ◌∷◌}
use Rattle.wasmi_arena.proofs.Steps.{length, get_or, set, length-set, Ura, full_share, SProp, ent, sep, guard, Lft, GName, Share, Fml, ftrue, fsep, fobor, fobs, fauth, named, Ty, Args, a_type, dcons, dnil, ty_array, ty_struct, align, up, Logic, sem, ⋆, some, later, by, group, fsplit3, ‵, raw, ◌⊛◌, ◌$◌, ◌∵◌, !, qed, done, move, drop, use1, use2, split, fsplit, fjoin, feq_i, rewrite, check, Array, Part, lends_Part, row, others, takes, puts, place_is, nth, mem, part_at, shares, lone, param, number, bounded, Laws, param_laws, RattleType, nothing, Member, shape_of, Struct, Body}
use base.Fml.{feq}
use mir.Syntax.{a_number}
use types.Kit.{feq_l}
use denote.ArrayMemory.{Array-apart, Array-whole}
use denote.Param.{ArrayAt}
use denote.Param.Laws.{number_array_laws}
use denote.Struct.Declared.{shape}
use denote.Struct.Members.{raw_tys}
use denote.Struct.Parts.{Struct-left, left_Struct}
use denote.Struct.Recorded.{Recorded-part}
use Rattle.core.proofs.alloc.Calls.{Al}
use Rattle.core.proofs.mem.Param.{El, R}
use Rattle.core.proofs.slots.Leases.{P}
use Rattle.core.proofs.option.Option.TheLaws as OptionLaws
use Rattle.std.specs.Mem.{type_size}
use Rattle.core.specs.contracts.option.Option as Option
use Rattle.wasmi_arena.specs.contracts.bucket.Bucket as Bucket
use Rattle.wasmi_arena.specs.contracts.bucket_table.BucketTable as Table
use Rattle.wasmi_arena.proofs.bucket.Bucket.TheLaws as BucketLaws

module _ (E : El) (Z : Al) (n : ℕ) where
  abbrev pub args : Args
  args = bounded (a_type ∷ a_type ∷ a_number ∷ []) (E.row, (Z.row, (number n, tt))) (dcons Z.d (dcons Z.drops dnil))

  -- the type of a bucket, open or not, with its laws
  abbrev pub MaybeBucket : RattleType
  MaybeBucket = Option.the_row (Bucket.the_row (R E) (P E Z) Z.g)

  pub bucket_laws : Laws MaybeBucket
  bucket_laws = OptionLaws.the_row_laws (Bucket.the_row (R E) (P E Z) Z.g) (BucketLaws.the_row_laws (R E) (P E Z) Z.g (param_laws 0 E.row E.laws) (param_laws 1 Z.row Z.laws))

  abbrev Count : RattleType
  Count = param 2 (number n)

  abbrev pub TableRow : RattleType
  TableRow = Table.the_row (R E) (P E Z) Count Z.g

  abbrev array_ty : Ty
  array_ty = ty_array (lone MaybeBucket.mir) n

  abbrev only_field : List Member
  only_field = record { row = ArrayAt MaybeBucket Count; ty = array_ty } ∷ []

  -- where the first bucket of a table at o lies
  abbrev pub first_at : ℕ → ℕ
  first_at o = o + up (align array_ty) zero

  by_field : (t : TableRow.Denot) (b o : ℕ) → part_at TableRow full_share t b o ≡ part_at (Struct (shape_of (Table.the_type (R E) (P E Z) Count Z.g).name only_field)) full_share (t.buckets, tt) b o
  by_field t b o = let D = Table.the_type (R E) (P E Z) Count Z.g in Recorded-part (Struct (shape D)) D.D D.to D.to_one full_share t b o

  module _ {M : Type 1} {𝓤 : Ura M} (𝓛 : Logic 𝓤) (b o : ℕ) where
    open 𝓛 use {H}

    -- what is left of the table without its buckets
    abbrev pub bare_table : SProp 𝓤
    bare_table = H.left full_share (ty_struct [] (raw_tys only_field)) (raw_tys only_field) b o

    pub buckets_out : (t : TableRow.Denot) → ent 𝓤 (sem 𝓛 ((mem TableRow).own_at t b o)) (guard 𝓤 (length t.buckets ≡ n) (sep 𝓤 (sem 𝓛 (row MaybeBucket full_share t.buckets b (first_at o))) bare_table))
    buckets_out t =
        let single = (number_array_laws MaybeBucket bucket_laws Count refl).single in
        qed 𝓛 (‵ (part_at TableRow full_share t b o) ∷ []) ∵ rewrite ! 0 (λ (F : Fml). ‵ F) (by_field t b o) refl $
        use1 𝓛 (‵ (fsep (part_at (Array MaybeBucket n) full_share t.buckets b (first_at o)) ftrue) ⊛ raw bare_table) (Struct-left 𝓛 full_share (Table.the_type (R E) (P E Z) Count Z.g).name only_field (single, tt) (t.buckets, tt) b o) $
        split ! $ fsplit ! $ use1 𝓛 (‵ (fsep (feq ℕ (length t.buckets) n) (row MaybeBucket full_share t.buckets b (first_at o)))) (Array-apart 𝓛 MaybeBucket full_share tt n t.buckets b (first_at o)) $
        fsplit ! $ feq_l ! (λ counted. move ! (1 ∷ []) $ drop ! $ check ! counted $ done !)

    pub buckets_in : (t : TableRow.Denot) → length t.buckets ≡ n → ent 𝓤 (sep 𝓤 (sem 𝓛 (row MaybeBucket full_share t.buckets b (first_at o))) bare_table) (sem 𝓛 ((mem TableRow).own_at t b o))
    buckets_in t counted =
        qed 𝓛 (‵ (row MaybeBucket full_share t.buckets b (first_at o)) ∷ raw bare_table ∷ []) ∵ feq_i ! ℕ (length t.buckets) n counted $ fjoin ! $
        use1 𝓛 (‵ (part_at (Array MaybeBucket n) full_share t.buckets b (first_at o))) (Array-whole 𝓛 MaybeBucket full_share n t.buckets b (first_at o)) $
        nothing ! $ move ! (1 ∷ 0 ∷ []) $ fjoin ! $
        use2 𝓛 (‵ (part_at (Struct (shape_of (Table.the_type (R E) (P E Z) Count Z.g).name only_field)) full_share (t.buckets, tt) b o)) (left_Struct 𝓛 full_share (Table.the_type (R E) (P E Z) Count Z.g).name only_field (t.buckets, tt) b o) $
        rewrite ! 0 (λ (F : Fml). ‵ F) (sym (by_field t b o)) refl $ done !

    -- the table with one bucket exchanged
    module _ (t : TableRow.Denot) (counted : length t.buckets ≡ n) (k : ℕ) (inside : k < length t.buckets) where
      abbrev pub with_bucket : MaybeBucket.Denot → TableRow.Denot
      with_bucket bucket = record { buckets = set t.buckets k bucket }

      -- where that bucket lies, and all but it
      abbrev pub offset_of_bucket : ℕ
      offset_of_bucket = k * type_size MaybeBucket + first_at o

      abbrev pub other_buckets : SProp 𝓤
      other_buckets = sep 𝓤 (sem 𝓛 (others (shares MaybeBucket) full_share t.buckets k b (first_at o))) bare_table

      pub bucket_back : (bucket : MaybeBucket.Denot) → ent 𝓤 (sep 𝓤 (sem 𝓛 (part_at MaybeBucket full_share bucket b offset_of_bucket)) other_buckets) (sem 𝓛 ((mem TableRow).own_at (with_bucket bucket) b o))
      bucket_back bucket =
          qed 𝓛 (‵ (part_at MaybeBucket full_share bucket b offset_of_bucket) ∷ ‵ (others (shares MaybeBucket) full_share t.buckets k b (first_at o)) ∷ raw bare_table ∷ []) ∵
          rewrite ! 0 (λ (at : ℕ). ‵ (part_at MaybeBucket full_share bucket b at)) (sym (place_is (type_size MaybeBucket) (first_at o) k)) refl $
          use2 𝓛 (‵ (row MaybeBucket full_share (set t.buckets k bucket) b (first_at o))) (puts (shares MaybeBucket) full_share 𝓛 t.buckets k bucket b (first_at o) inside) $
          by ! (buckets_in (with_bucket bucket) (length-set t.buckets k bucket ∙ counted))

      module _ (none : MaybeBucket.Denot) (κ : Lft) (q : Share) (γ : GName) where
        -- that bucket as a `&mut` for κ, whose name is δ, and what the table is afterwards
        abbrev pub LentBucket : GName → SProp 𝓤
        LentBucket = Part 𝓛 TableRow MaybeBucket with_bucket (named 0) κ q b o b offset_of_bucket γ other_buckets bucket_back (get_or t.buckets k none)

        pub bucket_lent : ent 𝓤 (sep 𝓤 (sep 𝓤 (sem 𝓛 (row MaybeBucket full_share t.buckets b (first_at o))) bare_table)
            (sem 𝓛 (fsep (fobor κ q (Body (mem TableRow) b o γ)) (fsep (fobs γ (TableRow.coded.code t)) (fauth γ (TableRow.coded.code t)))))) (⋆ 𝓛 (later (some (λ (δ : GName). raw (LentBucket δ))) ∷ []))
        bucket_lent =
            let code = TableRow.coded.code t in let bucket = get_or t.buckets k none in let others_of = others (shares MaybeBucket) full_share t.buckets k b (first_at o) in
            qed 𝓛 ((‵ (row MaybeBucket full_share t.buckets b (first_at o)) ⊛ raw bare_table) ∷ ‵ (fsep (fobor κ q (Body (mem TableRow) b o γ)) (fsep (fobs γ code) (fauth γ code))) ∷ []) ∵
            split ! $ use1 𝓛 (‵ (part_at MaybeBucket full_share bucket b (nth (type_size MaybeBucket) (first_at o) k)) ⊛ ‵ others_of) (takes (shares MaybeBucket) full_share 𝓛 t.buckets k none b (first_at o) inside) $
            split ! $ rewrite ! 0 (λ (at : ℕ). ‵ (part_at MaybeBucket full_share bucket b at)) (place_is (type_size MaybeBucket) (first_at o) k) refl $
            move ! (3 ∷ []) $ fsplit3 ! $ group ! 6 $
            by ! (lends_Part 𝓛 TableRow MaybeBucket with_bucket (named 0) κ q b o b offset_of_bucket γ other_buckets bucket_back code code bucket)
