-- Of an iterator that shows the list of what it has left: it gives each item once to calls at both ends.
use Rattle.std.proofs.Common.{◌≡◌, inl, inr, Bool, true, false, List, [], ◌∷◌, ◌++◌, map, reverse, Option, Some, None, refl, sym, ◌∙◌, ap, append-nil, append_assoc}
use Rattle.std.proofs.lemmas.List.{reverse-append}
use Rattle.std.specs.Iterator.{YieldsFirstBy, YieldsLastBy}
use Rattle.wasmi_arena.specs.BothEnds.{YieldsAtEnds, YieldsAtEnd, DrainsFromEnds}

no_last : {B : Type 0} (xs : List B) (x : B) → [] ≡ xs ++ x ∷ [] → ⊥
no_last [] x same = cc
no_last (y ∷ ys) x same = cc

module _ {S A B : Type 0} (reads : A → B) (left : S → List B) where
  abbrev First : S → Option A → S → Type 0
  First = YieldsFirstBy reads left

  abbrev Last : S → Option A → S → Type 0
  Last = YieldsLastBy reads left

  -- what was given and what is left is what was left before
  given : (s t : S) (ends : List Bool) (front back : List A) → YieldsAtEnds First Last s ends front back t
      → left s ≡ map reads front ++ (left t ++ reverse (map reads back))
  given s t [] [] [] same = ap left same ∙ sym (append-nil (left t))
  given s t (true ∷ ends) (x ∷ front) back call =
      call.1 ∙ ap (λ (xs : List B). reads x ∷ xs) (given call.0 t ends front back call.2)
  given s t (false ∷ ends) front (x ∷ back) call =
      let before = map reads front in let after = reverse (map reads back) in
      call.1 ∙ (ap (λ (xs : List B). xs ++ reads x ∷ []) (given call.0 t ends front back call.2)
      ∙ (append_assoc before (left t ++ after) (reads x ∷ [])
      ∙ ap (λ (xs : List B). before ++ xs) (append_assoc (left t) after (reads x ∷ [])
      ∙ ap (λ (xs : List B). left t ++ xs) (sym (reverse-append (reads x ∷ []) (map reads back))))))
  given s t ends front back call = absurd call

  none_before : (t u : S) → YieldsAtEnd First Last t None u → left t ≡ []
  none_before t u (inl call) = call.0
  none_before t u (inr call) = call.0

  none_after : (t u : S) → YieldsAtEnd First Last t None u → left u ≡ []
  none_after t u (inl call) = call.1
  none_after t u (inr call) = call.1

  all_given : (s t u : S) (ends : List Bool) (front back : List A) → YieldsAtEnds First Last s ends front back t → YieldsAtEnd First Last t None u
      → map reads front ++ reverse (map reads back) ≡ left s
  all_given s t u ends front back calls last =
      sym (given s t ends front back calls ∙ ap (λ (xs : List B). map reads front ++ (xs ++ reverse (map reads back))) (none_before t u last))

  no_more : (u v : S) (answer : Option A) → left u ≡ [] → YieldsAtEnd First Last u answer v → (answer ≡ None) × (left v ≡ [])
  no_more u v None none (inl call) = (refl, call.1)
  no_more u v None none (inr call) = (refl, call.1)
  no_more u v (Some x) none (inl call) = absurd (let is = call in cc)
  no_more u v (Some x) none (inr call) = absurd (no_last (left v) (reads x) (sym none ∙ call))

  pub drains_from_ends : DrainsFromEnds First Last reads left
  drains_from_ends = record { each_once = all_given; none_left = none_after; ended = no_more }
