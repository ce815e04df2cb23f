-- The value of a `Some` in memory: it lies behind the tag, at the next place that is aligned for it. Assumes `Logic`.
--     value_at      where it lies, for a `Some` at o
--     some_out, some_back      a `Some` is its value and the rest of it, and so with another value
use mathlib.Core.Path.{◌≡◌, refl, sym, ap, subst}
use Prim.Native.Nat.{ℕ, ◌+◌}
use mathlib.Core.Bool.{false≢true}
use Rattle.wasmi_arena.proofs.Steps.{arith, Ura, full_share, SProp, ent, sep, Ty, w64, align, capped, field_at, up, Logic, sem, part_at, lone, Laws, RattleType, row_field}
use mathlib.Core.List.{List, [], ◌∷◌, ◌++◌}
use mir.Syntax.{Width, w8, w16, w32, w128}
use mir.Val.{bytes}
use prog.Align.{align-bytes}
use types.Kit.{mean}
use denote.Param.Laws.{row_loose}
use denote.Struct.Struct.{to_tys}
use borrow.Enum.Lend.{kept_variant, variant_apart, variant_put}
use Rattle.std.specs.Prelude.{Option, None, Some, IsSome}
use Rattle.core.specs.contracts.option.Option as Opt

pub value_of : {T : Type 0} (option : Option T) → IsSome option → (x : T) × (option ≡ Some x)
value_of None is_some = absurd (false≢true is_some)
value_of (Some x) is_some = (x, refl)

behind : (w : Width) (o : ℕ) → capped (bytes w) + o ≡ o + up (bytes w) 1
behind w8 o = omega arith
behind w16 o = omega arith
behind w32 o = omega arith
behind w64 o = omega arith
behind w128 o = omega arith

module _ (T : RattleType) (L : Laws T) where
  abbrev pub MaybeT : RattleType
  MaybeT = Opt.the_row T

  abbrev pub ty : Ty
  ty = lone T.mir

  abbrev pub value_at : ℕ → ℕ
  value_at o = o + up (align ty) 1

  pub behind_tag : (o : ℕ) → capped (align ty) + o ≡ value_at o
  behind_tag o = subst (λ (a : ℕ). capped a + o ≡ o + up a 1) (sym (align-bytes ty)) (behind _ o)

  module _ {M : Type 1} {𝓤 : Ura M} (𝓛 : Logic 𝓤) where
    -- the rest of a `Some` of x
    abbrev pub Rest : T.Denot → ℕ → ℕ → SProp 𝓤
    Rest x b o = mean 𝓛 (kept_variant (Opt.the_type T) 1 (row_field T ∷ []) (row_loose T L, tt) (λ v. Some v.0) (λ v us. refl) (λ v. refl) refl 0 (up (align ty) 1) M 𝓤 𝓛 (x, tt) b o)

    pub some_out : (x : T.Denot) (b o : ℕ) → ent 𝓤 (sem 𝓛 (part_at MaybeT full_share (Some x) b o)) (sep 𝓤 (sem 𝓛 (part_at T full_share x b (value_at o))) (Rest x b o))
    some_out x = variant_apart (Opt.the_type T) 1 (row_field T ∷ []) (row_loose T L, tt) (λ v. Some v.0) (λ v us. refl) (λ v. refl) refl 0 (up (align ty) 1) 𝓛 L.one refl (ap (λ (τs : List Ty). field_at 1 (to_tys (τs ++ [])) 0) L.one) (x, tt)

    pub some_back : (x y : T.Denot) (b o : ℕ) → ent 𝓤 (sep 𝓤 (sem 𝓛 (part_at T full_share y b (value_at o))) (Rest x b o)) (sem 𝓛 (part_at MaybeT full_share (Some y) b o))
    some_back x y = variant_put (Opt.the_type T) 1 (row_field T ∷ []) (row_loose T L, tt) (λ v. Some v.0) (λ v us. refl) (λ v. refl) refl 0 (up (align ty) 1) 𝓛 L.one y (x, tt)
