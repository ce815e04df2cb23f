-- When what a module exports is what another one asks for.
use Rattle.std.specs.Prelude.{◌≡◌, ◌≤◌, IfSome, IsSomeAnd}
use Rattle.wasmi_module.specs.declared.module.Limits.{Limits}
use Rattle.wasmi_module.specs.declared.module.TableType.{TableType}
use Rattle.wasmi_module.specs.declared.module.MemoryType.{MemoryType}

-- The least that is given is at least the one asked for. Where a most is asked for, one is given that
-- isn't greater.
pub record LimitsMatch (asked given : Limits) : Type 0 where
  pub least : asked.min ≤ given.min
  pub most : IfSome asked.max (λ most. IsSomeAnd given.max (λ max. max ≤ most))

-- elements of one type, and limits that match
pub record TableMatches (asked given : TableType) : Type 0 where
  pub element : asked.element ≡ given.element
  pub limits : LimitsMatch asked.limits given.limits

-- limits that match: 2 to 3 pages are one that asks for 1 to 4, and 2 or more aren't
abbrev pub MemoryMatches : MemoryType → MemoryType → Type 0
MemoryMatches asked given = LimitsMatch asked.limits given.limits
