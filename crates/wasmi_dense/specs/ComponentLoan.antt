-- What an iterator that lends the components of a component vector is.
use Rattle.std.specs.Prelude.{◌+◌, ◌<◌, ◌^◌, List, length}
use Rattle.std.specs.Borrow.{GName}
use Rattle.std.specs.Slice.Iter.{iter_mut_rest, iter_mut_name}
use Rattle.wasmi_arena.specs.Keys.{Keys}
use Rattle.wasmi_arena.specs.declared.key.ArenaKey as key
use Rattle.wasmi_dense.specs.ComponentEntries.{components_from}
use Rattle.wasmi_dense.specs.declared.component_vec.iter_mut.ComponentVecIterMut.{ComponentVecIterMut}

module _ {K T : Type 0} {g : key.Ghosts K} where
  -- the keys and components that are left to visit
  abbrev pub left_components : Keys K → ComponentVecIterMut K T g → List (K × T)
  left_components keys it = components_from keys it.next (iter_mut_rest it.slots)

  -- the number behind the last place is a number too. True of every such iterator, which keeps it as a fact.
  abbrev pub IsNumbered : ComponentVecIterMut K T g → Type 0
  IsNumbered it = it.next + length (iter_mut_rest it.slots) < 2 ^ 64

  -- the name under which what it lends is known
  abbrev pub loan_of : ComponentVecIterMut K T g → GName
  loan_of it = iter_mut_name it.slots
