-- What a component vector is once a `&mut` to a component of it has ended.
use Rattle.std.specs.Prelude.{List, Option}
use Rattle.core.specs.contracts.option.Option.{the_row as OptionOf}
use Rattle.std.specs.Borrow.{Fml, GName, RattleType, MutBor, Array, Lends, LendsIf, follows}
use Rattle.std.specs.declared.alloc.Allocator as alloc
use Rattle.wasmi_arena.specs.declared.key.ArenaKey as key
use Rattle.wasmi_dense.specs.ArenaLoan.{written}
use Rattle.wasmi_dense.specs.Components.{with_component}
use Rattle.wasmi_dense.specs.contracts.component_vec.ComponentVec.{the_row}

module _ (K R A : RattleType) (keys : key.Ghosts K.Denot) (heap : alloc.Ghosts A.Denot) where
  -- the component under that key is what was written last through the reference, where there is one,
  -- and nothing else changes
  abbrev pub lends_get : MutBor (List (Option R.Denot)) → K.Denot → Option (MutBor R.Denot) → Fml
  lends_get vec k component = LendsIf (the_row K R A heap) R vec component (with_component vec.now (keys.keys.number k)) vec.now

  -- the same of a key that reads a component.
  -- `components[key] = 8` writes so.
  abbrev pub lends_component : MutBor (List (Option R.Denot)) → K.Denot → MutBor R.Denot → Fml
  lends_component vec k component = Lends (the_row K R A heap) R vec component (with_component vec.now (keys.keys.number k))

  -- the places are what was written last through the references: there are as many as before
  abbrev pub lends_all : MutBor (List (Option R.Denot)) → GName → Fml
  lends_all vec loan = follows (the_row K R A heap) (Array (OptionOf R) 0) vec.ghost_name loan (written vec.now)
