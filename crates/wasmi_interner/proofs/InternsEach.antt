-- Texts that are interned one after another.
-- for src/string_interner.rt
use Rattle.std.proofs.Common.{ℕ, List, [], ◌∷◌, ◌++◌, refl, subst}
use Rattle.std.specs.Borrow.{Bor}
use Rattle.wasmi_interner.specs.Interner.{Interns, InternsEach}

pub InternsEach-push : (old : List (List ℕ)) (texts : List (Bor (List ℕ))) (middle : List (List ℕ)) (text : Bor (List ℕ)) (symbol : ℕ) (new : List (List ℕ))
    → InternsEach old texts middle → Interns middle text.now symbol new → InternsEach old (texts ++ text ∷ []) new
InternsEach-push old [] middle text symbol new each more = (symbol, new, subst (λ held. Interns held text.now symbol new) each more, refl)
InternsEach-push old (t ∷ texts) middle text symbol new each more =
    (each.0, each.1, each.2, InternsEach-push each.1 texts middle text symbol new each.3 more)
