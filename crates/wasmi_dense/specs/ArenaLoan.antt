-- What an iterator that lends the items of an arena is.
use Rattle.std.specs.Prelude.{◌+◌, ◌<◌, ◌≤◌, ◌^◌, List, ◌++◌, length, take, drop}
use Rattle.std.specs.Borrow.{GName}
use Rattle.std.specs.Slice.Iter.{iter_mut_rest, iter_mut_name}
use Rattle.wasmi_arena.specs.Keys.{Keys}
use Rattle.wasmi_arena.specs.declared.key.ArenaKey as key
use Rattle.wasmi_arena.specs.Entries.{entries_from}
use Rattle.wasmi_dense.specs.declared.arena.iter_mut.IterMut.{IterMut}

module _ {K T : Type 0} {g : key.Ghosts K} where
  -- the keys and items that are left to visit.
  -- After one `next` over 7, 8: (1, 8).
  abbrev pub left_entries : Keys K → IterMut K T g → List (K × T)
  left_entries keys it = entries_from keys it.next (iter_mut_rest it.items)

  -- where positions are left, each has a key, and the one behind them is a number too.
  -- This is true of every such iterator, which keeps it as a fact.
  abbrev pub IsKeyed : Keys K → IterMut K T g → Type 0
  IsKeyed keys it = 0 < length (iter_mut_rest it.items)
      → (it.next + length (iter_mut_rest it.items) ≤ keys.count) × (it.next + length (iter_mut_rest it.items) < 2 ^ 64)

  -- the name under which what it lends is known
  abbrev pub loan_of : IterMut K T g → GName
  loan_of it = iter_mut_name it.items

-- the items with others written over the first of them.
-- 9 over 7, 8: 9, 8.
abbrev pub written : {T : Type 0} → List T → List T → List T
written items last = take (length items) (last ++ drop (length last) items)
