-- What a contract says of a head vector, which is the list of its items.
use Rattle.std.specs.Prelude.{◌+◌, ◌-◌, ℕ, List, [], ◌∷◌, ◌++◌, length, take, Option, slice_get}
use Rattle.std.specs.declared.cmp.Ordering.{Ordering}
use Rattle.std.specs.declared.vec.Vec.{Vec}
use Rattle.std.specs.Option.{option_cmp, option_partial_cmp, option_to_list}
use Rattle.std.specs.Ordering.{ordering_then, partial_ordering_then}
use Rattle.std.specs.Cmp.Lexicographic.{slice_cmp, slice_partial_cmp}
use Rattle.std.specs.Vec.{vec_items, vec_len, vec_capacity}

-- what a head vector is: the list of its items, and how many more can be pushed before memory is asked for.
-- An empty one has room for 1.
pub record HeadState (T : Type 0) : Type 0 where
  pub items : List T
  pub room : ℕ

-- the last item beside what stands before it: the last needs no place in the block of the others
abbrev pub state_of : {T A : Type 0} → Option T → Vec T A → HeadState T
state_of last rest = record {
  items = vec_items rest ++ option_to_list last;
  room = vec_capacity rest + 1 - (vec_len rest + length (option_to_list last));
}

module _ {T : Type 0} where
  -- the last item of a list, if it has one.
  -- Of 1, 2: 2.
  abbrev pub last_item : List T → Option T
  last_item items = slice_get items (length items - 1)

  -- what stands before the last item.
  -- Of 1, 2: 1.
  abbrev pub before_last : List T → List T
  before_last items = take (length items - 1) items

  -- the same list, with another last item.
  -- 1, 2 with 9: 1, 9.
  abbrev pub with_last : List T → T → List T
  with_last items last = before_last items ++ last ∷ []

  -- The order of head vectors: the last items decide, where no last item is less than any, and if
  -- these are equal the lists of what stands before them.
  -- [2, 1] is less than [1, 2], and so is [2] (`laws::head_vec_order`).
  abbrev pub head_cmp : (T → T → Ordering) → List T → List T → Ordering
  head_cmp cmp xs ys =
      ordering_then
      (option_cmp cmp (last_item xs) (last_item ys))
      (slice_cmp cmp (before_last xs) (before_last ys))

  -- the same of items that may be neither equal nor less nor greater
  abbrev pub head_partial_cmp : (T → T → Option Ordering) → List T → List T → Option Ordering
  head_partial_cmp cmp xs ys =
      partial_ordering_then
      (option_partial_cmp cmp (last_item xs) (last_item ys))
      (slice_partial_cmp cmp (before_last xs) (before_last ys))
