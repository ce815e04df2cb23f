-- A finite set, seen as the list of its elements. `eq` says which elements are equal.
use Rattle.std.specs.Prelude.{◌≡◌, Bool, false, cond, List, [], ◌∷◌, ◌++◌, Option, IsTrue}
use Rattle.wasmi_arena.specs.Growth.{GivesAll, GivesUpTo}
use Rattle.std.specs.List.{AllZip}
use Rattle.std.specs.Set.{is_member, IsUnion, ClonesAreEqual}

module _ {T : Type 0} (eq : T → T → Bool) where
  -- the new set has the element if `there` says so, and every other exactly if the old one has it.
  -- 1, 2 with `false` at 2: 1.
  abbrev pub ChangesAt : List T → T → Bool → List T → Type 0
  ChangesAt old x there new = (q : T) → is_member eq new q ≡ cond (eq x q) there (is_member eq old q)

  -- each element of the first is in the second.
  -- 1 is a subset of 1, 2.
  abbrev pub IsSubset : List T → List T → Type 0
  IsSubset xs ys = (q : T) → IsTrue (is_member eq xs q) → IsTrue (is_member eq ys q)

  -- no element of the first is in the second
  abbrev pub IsDisjoint : List T → List T → Type 0
  IsDisjoint xs ys = (q : T) → IsTrue (is_member eq xs q) → is_member eq ys q ≡ false

  -- the set has clones by `C` of the elements of a set of which `P` holds, and nothing else. Where clones
  -- equal their sources, `P` holds of the set itself.
  -- Of `bitor`, `P` says that the set is the union of the two.
  pub record HoldsClones (C : T → T → Type 0) (P : List T → Type 0) (set : List T) : Type 0 where
    pub sources : List T
    pub clones : List T
    pub chosen : P sources
    pub cloned : AllZip C sources clones
    pub members : (q : T) → is_member eq set q ≡ is_member eq clones q
    pub equal : ClonesAreEqual eq C → P set

  -- some first elements of another set went in, and it has the rest
  abbrev pub TakesFront : List T → List T → List T → List T → Type 0
  TakesFront old other new rest = (front : List T) × (other ≡ front ++ rest) × IsUnion eq old front new

  -- what is made an iterator by `becomes`, which then steps by `steps`, and whose items `read` gives as
  -- elements
  module _ {U S I : Type 0} (becomes : U → S → Type 0) (steps : S → Option I → S → Type 0)
      (read : List I → List T) where
    -- all its items went in, one by one
    abbrev pub TakesAll : U → List T → List T → Type 0
    TakesAll iter old new = GivesAll becomes steps (λ items. IsUnion eq old (read items) new) iter

    -- its items went in, one by one, up to one that was refused, which isn't there
    abbrev pub TakesUntilRefused : U → List T → List T → Type 0
    TakesUntilRefused iter old new =
        GivesUpTo becomes steps
        (λ items item. (refused : T) × IsUnion eq old (read items) new × (read (item ∷ []) ≡ refused ∷ []) × (is_member eq new refused ≡ false))
        iter
