-- What a loan of the items in a run of buckets owns. No public clause cites this module.
use Rattle.std.specs.Prelude.{ℕ, ◌*◌, ◌^◌, List, length, Option}
use Rattle.std.specs.Mem.{type_size}
use base.Fraction.{full_share}
use base.Stored.{coded_list}
use base.Fml.{Lft, GName, Fml, ffalse, fsep, flt, fobs, fbor}
use types.SemTy.{SemTy, Body}
use denote.RattleType.{RattleType}
use denote.Index.{row}
use denote.RawPtr.{Ptr, block_ptr, null_ptr}
use Rattle.std.specs.declared.alloc.Allocator.{Ghosts}
use Rattle.core.specs.contracts.option.Option as Opt
use Rattle.wasmi_arena.specs.Bucket.{Bucket}
use Rattle.wasmi_arena.specs.inner.Table.{items_of, refilled}
use Rattle.wasmi_arena.specs.contracts.bucket.Bucket.{the_row as bucket_row}

module _ (R A : RattleType) (alloc : Ghosts A.Denot) where
  -- these buckets in memory, where only their items can be other ones
  abbrev pub SameBuckets : List (Option (Bucket R.Denot)) → SemTy
  SameBuckets buckets = record {
    rep = List R.Denot;
    coded = coded_list R.coded;
    size = 0;
    own_at = λ items b o. row (Opt.the_row (bucket_row R A alloc)) full_share (refilled buckets items) b o;
  }

  -- so many buckets take fewer than 2 ^ 63 bytes
  abbrev pub few : ℕ → Fml
  few count = flt (count * type_size (Opt.the_row (bucket_row R A alloc))) (2 ^ 63)

  -- the `&mut` to the items of the buckets from that place on
  abbrev pub loan_owns : Lft → Ptr → List (Option (Bucket R.Denot)) → GName → Fml
  loan_owns κ (block_ptr b o) buckets name =
      fsep (few (length buckets)) (fsep (fobs name ((coded_list R.coded).code (items_of buckets))) (fbor κ (Body (SameBuckets buckets) b o name)))
  loan_owns κ null_ptr buckets name = ffalse
