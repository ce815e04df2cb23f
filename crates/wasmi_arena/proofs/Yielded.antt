-- Facts on the items that an iterator yields.
use Rattle.std.proofs.Common.{◌≡◌, List, [], ◌∷◌, ◌++◌, Option, Some, None, refl, sym, ◌∙◌, ap, subst, append_assoc, append-nil}
use Rattle.std.specs.Iterator.{Count, IsFinite, Yields, Drains}
use Rattle.wasmi_arena.specs.Growth.{TakesAll, TakesUpTo}
use Rattle.wasmi_arena.specs.inner.Growth.{TakesSome}

module _ {S T : Type 0} (steps : S → Option T → S → Type 0) where
  -- calls after calls
  pub yields_append : (s t u : S) (xs ys : List T) → Yields steps s xs t → Yields steps t ys u → Yields steps s (xs ++ ys) u
  yields_append s t u [] ys first then = subst (λ (a : S). Yields steps a ys u) (sym first) then
  yields_append s t u (x ∷ xs) ys first then = (first.0, first.1, yields_append first.0 t u xs ys first.2 then)

  -- and one call
  pub yields_more : (s t u : S) (xs : List T) (x : T) → Yields steps s xs t → steps t (Some x) u → Yields steps s (xs ++ x ∷ []) u
  yields_more s t u xs x first step = yields_append s t u xs (x ∷ []) first (u, step, refl)

  -- or the last ones
  pub yields_all : (s t : S) (xs ys : List T) → Yields steps s xs t → Drains steps t ys → Drains steps s (xs ++ ys)
  yields_all s t xs ys first all = (all.0, (all.1.0, yields_append s t all.1.0 xs ys first all.1.1, all.1.2))

-- what is made an iterator goes into a list, item by item
module _ {U S T : Type 0} (becomes : U → S → Type 0) (steps : S → Option T → S → Type 0) (can : S → Type 0) (left : S → Count) where
  -- what came so far is in, and `items` is what is left of the iterator
  pub record TakenSoFar (iter : U) (items : S) (old new : List T) : Type 0 where
    pub it : S
    pub xs : List T
    pub is_made : becomes iter it
    pub came : Yields steps it xs items
    pub are : new ≡ old ++ xs
    pub can_go_on : can items
    pub finite : IsFinite (left items)

  -- at first that is nothing
  pub taken_none : {iter : U} {it : S} {old : List T} → becomes iter it → can it × IsFinite (left it) → TakenSoFar iter it old old
  taken_none {iter} {it} {old} made goes = record { it = it; xs = []; is_made = made; came = refl; are = sym (append-nil old); can_go_on = goes.0; finite = goes.1 }

  module _ {iter : U} {s : S} {old mid : List T} (so_far : TakenSoFar iter s old mid) where
    -- no item comes
    pub taken_all : {t : S} → steps s None t → TakesAll becomes steps iter old mid
    taken_all {t} end = (so_far.it, so_far.xs, so_far.is_made, (t, (s, so_far.came, end)), so_far.are)

    module _ {x : T} {t : S} (step : steps s (Some x) t) where
      -- an item comes that doesn't go in
      pub taken_up_to : TakesUpTo becomes steps iter old mid
      taken_up_to = (so_far.it, so_far.xs, x, t, so_far.is_made, (s, so_far.came, step), so_far.are)

      -- it goes in, and others after it
      module _ {one new : List T} (one_is : one ≡ mid ++ x ∷ []) where
        joined : (ys : List T) → new ≡ one ++ ys → new ≡ old ++ (so_far.xs ++ x ∷ [] ++ ys)
        joined ys is =
            is ∙ (ap (λ (zs : List T). zs ++ ys) (one_is ∙ (ap (λ (zs : List T). zs ++ x ∷ []) so_far.are ∙ append_assoc old so_far.xs (x ∷ []))) ∙ append_assoc old (so_far.xs ++ x ∷ []) ys)

        pub taken_more : (rest : S) → TakesSome steps t (Some rest) one new → can rest → IsFinite (left rest) → TakenSoFar iter rest old new
        taken_more rest some can_next ends = record {
          it = so_far.it;
          xs = (so_far.xs ++ x ∷ []) ++ some.0;
          is_made = so_far.is_made;
          came = yields_append steps so_far.it t rest (so_far.xs ++ x ∷ []) some.0 (yields_more steps so_far.it s t so_far.xs x so_far.came step) some.2;
          are = joined some.0 some.1;
          can_go_on = can_next;
          finite = ends;
        }

        pub taken_last : TakesSome steps t None one new → TakesAll becomes steps iter old new
        taken_last some = (
          so_far.it,
          (so_far.xs ++ x ∷ []) ++ some.0,
          so_far.is_made,
          yields_all steps so_far.it t (so_far.xs ++ x ∷ []) some.0 (yields_more steps so_far.it s t so_far.xs x so_far.came step) some.2,
          joined some.0 some.1,
        )
