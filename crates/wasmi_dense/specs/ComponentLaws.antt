-- The laws of equality of component vectors.
use Rattle.std.proofs.Common.{◌≡◌, Bool, true, Option, Some, None, refl, sym, true≢false}
use Rattle.std.specs.Option.{option_eq}
use Rattle.std.specs.Cmp.{IsPartialEquivalence, IsEquivalence}
use Rattle.std.specs.Cmp.Lexicographic.{pointwise, lists_per, lists_equiv, options_equiv}

module _ {T : Type 0} {E : T → T → Bool} where
  module _ (per : IsPartialEquivalence E) where
    symm : (x y : Option T) → option_eq E x y ≡ option_eq E y x
    symm None None = refl
    symm None (Some y) = refl
    symm (Some x) None = refl
    symm (Some x) (Some y) = per.symm x y

    trans : (x y z : Option T) → option_eq E x y ≡ true → option_eq E y z ≡ true → option_eq E x z ≡ true
    trans None None z first second = second
    trans None (Some y) z first second = absurd (true≢false (sym first))
    trans (Some x) None z first second = absurd (true≢false (sym first))
    trans (Some x) (Some y) None first second = second
    trans (Some x) (Some y) (Some z) first second = per.trans x y z first second

    -- where the test of two components is symmetric and transitive, so is that of two vectors
    pub components_per : IsPartialEquivalence (pointwise (option_eq E))
    components_per = lists_per (record { symm = symm; trans = trans })

  -- and where it finds a component equal to itself, so it does a vector
  pub components_equiv : IsEquivalence E → IsEquivalence (pointwise (option_eq E))
  components_equiv equiv = lists_equiv (options_equiv equiv)
