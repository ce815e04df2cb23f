-- What the slots of a block own and lend, at items of the row R. No public clause cites this module.
use Rattle.std.specs.Prelude.{ℕ, ◌+◌, ◌*◌, ◌^◌, List, length, Bool, not, ◌==◌}
use Rattle.std.specs.Mem.{type_size}
use Rattle.std.specs.Vec.Ownership.{owns_if}
use base.Fraction.{full_share}
use base.Fml.{Lft, Fml, ffalse, fsep, flt, froom}
use mir.Syntax.{Ty, ty_array}
use mir.Raw.{raw}
use denote.RattleType.{RattleType}
use denote.Memory.{lone}
use denote.Index.{row}
use denote.Sharing.{said, beside}
use denote.Slice.{elements_shared}
use denote.RawPtr.{Ptr, block_ptr, null_ptr}

module _ (R : RattleType) where
  -- n empty slots in block b, from its byte o on
  abbrev pub empty : ℕ → ℕ → ℕ → Fml
  empty n b o = froom (raw (ty_array (lone R.mir) n)) b o

  -- the three runs of slots from byte o of block b on: the taken ones, those of the items, the free ones
  abbrev pub runs : ℕ → ℕ → ℕ → List R.Denot → ℕ → Fml
  runs b o taken items free =
      fsep (row R full_share items b (taken * type_size R + o)) (fsep (empty taken b o) (empty free b ((taken + length items) * type_size R + o)))

  -- all slots take fewer than 2 ^ 63 bytes
  abbrev pub fit : ℕ → List R.Denot → ℕ → Fml
  fit taken items free = flt ((taken + length items + free) * type_size R) (2 ^ 63)

  abbrev pub slots_own : Ptr → ℕ → List R.Denot → ℕ → Fml
  slots_own (block_ptr b o) taken items free = fsep (fit taken items free) (runs b o taken items free)
  slots_own null_ptr taken items free = ffalse

  -- a `&` to the slots is a `&` to each item
  abbrev pub slots_lend : Ptr → ℕ → List R.Denot → ℕ → Lft → Fml
  slots_lend (block_ptr b o) taken items free = beside (said (fit taken items free)) (elements_shared R items b (taken * type_size R + o))
  slots_lend null_ptr taken items free = said ffalse

  -- so many slots take memory, so there is a block
  abbrev pub takes_memory : ℕ → Bool
  takes_memory n = not (n * type_size R == 0)

  -- the allocator's token for the block of n slots at p, where there is one
  abbrev pub right_owns : (Ty → Ptr → Fml) → Ptr → ℕ → Fml
  right_owns token p n = owns_if (takes_memory n) (token (raw (ty_array (lone R.mir) n)) p)
