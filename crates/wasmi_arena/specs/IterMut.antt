-- What a contract sees of an iterator that lends a vector's items to write.
use Rattle.std.specs.Prelude.{◌≡◌, List, length}
use Rattle.std.specs.List.{refill}
use base.Fml.{GName}

module _ {X : Type 0} where
  -- what is left to visit.
  -- Of `iter_mut()` on 7, 8 after one `next`: 8.
  abbrev pub left : List X × GName → List X
  left it = it.0

  -- the name of the loan: what the vector is when it ends follows from what was written by then
  abbrev pub loan_of : List X × GName → GName
  loan_of it = it.1

-- whatever is written through a loan of all items, there are as many of them.
-- This is true of every list.
abbrev pub KeepsLength : {T : Type 0} → List T → Type 0
KeepsLength {T = T} items = (last : List T) → length (refill (length items) items last) ≡ length items
