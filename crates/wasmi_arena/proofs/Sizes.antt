-- What a part of a value takes of memory: no more than the value, so less than 2 ^ 63 bytes where that does.
use mathlib.Core.List.{[]}
use mathlib.Core.Path.{◌≡◌, refl}
use Rattle.wasmi_arena.proofs.Steps.{arith, Ty, ty_array, ty_struct, field_at, size, copied, number, param, layout, RattleType}
use Prim.Native.Nat.{ℕ, zero, ◌*◌, ◌<◌, ◌^◌}
use mathlib.Core.Option.{some}
use mir.Syntax.{Tys, tnil}
use prog.Align.{field_in}
use Rattle.core.specs.declared.alloc.Allocator as Allocator
use Rattle.core.specs.contracts.option.Option as Option
use Rattle.wasmi_arena.specs.declared.key.ArenaKey as ArenaKey
use Rattle.wasmi_arena.specs.contracts.bucket.Bucket as Bucket
use Rattle.wasmi_arena.specs.contracts.bucket_table.BucketTable as BucketTable
use Rattle.wasmi_arena.specs.contracts.stable_arena.StableArena as StableArena
use Rattle.wasmi_arena.specs.contracts.stable_arena.into_iter.StableArenaIntoIter as StableArenaIntoIter
use Rattle.wasmi_arena.specs.contracts.stable_vec.StableVec as StableVec
use Rattle.wasmi_arena.specs.contracts.stable_vec.into_iter.StableVecIntoIter as StableVecIntoIter

-- the types of a struct's fields
abbrev fields_of : Ty → Tys
fields_of (ty_struct ν τs) = τs
fields_of τ = tnil

-- a field takes no more than the struct
field_small : (τs : Tys) (k : ℕ) (τ : Ty) (d : ℕ) → field_at zero τs k ≡ some (τ, d) → size (ty_struct [] τs) < 2 ^ 63 → size τ < 2 ^ 63
field_small τs k τ d at small = let inside = field_in [] τs k τ d at in omega arith

module _ (T A : RattleType) (alloc : Allocator.Ghosts A.Denot) where
  abbrev MaybeBucket : RattleType
  MaybeBucket = Option.the_row (Bucket.the_row (param 1 T) (param 2 A) alloc)

  abbrev TableRow : RattleType
  TableRow = BucketTable.the_row (param 1 T) (param 2 A) (number 27) alloc

  abbrev VecRow : RattleType
  VecRow = StableVec.the_row (param 1 T) (param 2 A) alloc

  abbrev VecIntoIterRow : RattleType
  VecIntoIterRow = StableVecIntoIter.the_row (param 1 T) (param 2 A) alloc

  -- of a vector, its table, and the buckets there
  pub table_small : size (layout VecRow) < 2 ^ 63 → size (layout TableRow) < 2 ^ 63
  table_small = field_small (fields_of (layout VecRow)) 0 (layout TableRow) _ refl

  pub array_small : size (layout VecRow) < 2 ^ 63 → 27 * size (layout MaybeBucket) < 2 ^ 63
  array_small small = field_small (fields_of (layout TableRow)) 0 (ty_array (layout MaybeBucket) 27) _ refl (table_small small)

  module _ (K : RattleType) (keys : ArenaKey.Ghosts K.Denot) where
    abbrev ArenaRow : RattleType
    ArenaRow = StableArena.the_row (copied 0 K) (param 1 T) (param 2 A) keys alloc

    abbrev ArenaIntoIterRow : RattleType
    ArenaIntoIterRow = StableArenaIntoIter.the_row (copied 0 K) (param 1 T) (param 2 A) keys alloc

    -- of an arena, its vector
    pub vec_small : size (layout ArenaRow) < 2 ^ 63 → size (layout VecRow) < 2 ^ 63
    vec_small = field_small (fields_of (layout ArenaRow)) 0 (layout VecRow) _ refl

    -- of an iterator over an arena, the one over its vector
    pub items_small : size (layout ArenaIntoIterRow) < 2 ^ 63 → size (layout VecIntoIterRow) < 2 ^ 63
    items_small = field_small (fields_of (layout ArenaIntoIterRow)) 0 (layout VecIntoIterRow) _ refl
