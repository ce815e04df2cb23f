-- Two items that are lent together, or an error in their place. Assumes `Logic`.
-- for src/arena/pairs.rt
--     follows_through      what follows a part follows the two that the part is cut into, where it is cut
--     good      what is owned of the result is a machine value of its type
--     Told      what the result says of the list and of two positions.        told_outside, told_alike, told_lent      of each result
--     ToldKeys, told_keys      the same of two keys
use Rattle.wasmi_arena.proofs.Steps.{Ura, GName, Lft, T, named, ent, sep, Val, has_ty, WT, Logic, sem, follows, follows_both_if, RattleType, Is, layout, MutBor, MutRef, tuple_type}
use mathlib.Core.Path.{◌≡◌, refl, sym, ap, subst}
use mathlib.Core.List.{List, [], ◌∷◌}
use mathlib.Core.Option as maybe
use mathlib.Core.Logic.{◌↔◌, ◌⊎◌, inl, inr}
use denote.Enum.Declared.{shape}
use denote.Enum.Enum.{Enum-Lawful}
use denote.Follow.{followed, both_if_by}
use denote.Laws.{Lawful}
use denote.Ref.{mut_Lawful}
use denote.Struct.Declared as Declared
use denote.Struct.Struct.{Struct-Lawful}
use Prim.Native.Nat.{ℕ}
use Rattle.std.proofs.Common.{◌<◌, lit<, arith}
use Rattle.std.specs.Prelude.{◌≢◌, ◌≤◌, length, Result, Ok, Err, Some, IfOk, IfErr, IsErrOf, slice_get}
use Rattle.std.specs.contracts.result.Result as Res
use Rattle.wasmi_arena.specs.contracts.error.ArenaError as Error
use Rattle.wasmi_arena.specs.declared.error.ArenaError.{ArenaError}
use Rattle.wasmi_arena.specs.Keys.{Keys}
use Rattle.wasmi_arena.specs.inner.Pairs.{AreNumbers}
use Rattle.wasmi_arena.proofs.PairLoans.{follows_both_then}
use Rattle.wasmi_arena.proofs.PairResults.{Pair, PairOr, place_of}

module _ {M : Type 1} {𝓤 : Ura M} (𝓛 : Logic 𝓤) (R S T U : RattleType) (F : S.Denot → R.Denot) (G : T.Denot → U.Denot → S.Denot) (γ γ' : GName) where
  pub follows_through : (m : maybe.Option (GName × GName)) (v : S.Denot)
      → ent 𝓤 (sep 𝓤 (sem 𝓛 (follows R S γ γ' F)) (sem 𝓛 (follows_both_if S T U γ' m G v))) (sem 𝓛 (follows_both_if R T U γ m (λ x y. F (G x y)) (F v)))
  unfolding both_if_by
  follows_through maybe.none v = followed 𝓛 R S F γ γ' v
  follows_through (maybe.some γs) v = follows_both_then 𝓛 R S T U F G γ γ' γs.0 γs.1

module _ {M : Type 1} {𝓤 : Ura M} (𝓛 : Logic 𝓤) (κ : Lft) (Z : RattleType) where
  pair_lawful : Lawful 𝓛 (Pair κ Z)
  pair_lawful = record { typed = λ pair vs p. (Struct-Lawful 𝓛 (Declared.shape (tuple_type (MutRef (named 0) κ Z ∷ MutRef (named 0) κ Z ∷ []))) (mut_Lawful 𝓛 (named 0) κ Z, (mut_Lawful 𝓛 (named 0) κ Z, tt))).typed (pair.0, (pair.1, tt)) vs p }

  error_lawful : Lawful 𝓛 Error.the_row
  error_lawful = record { typed = λ e vs p. (Enum-Lawful 𝓛 (shape Error.the_type) tt (tt, (tt, (tt, (tt, (tt, tt)))))).typed ((Error.the_type).to e) vs p }

  pub good : (r : (PairOr κ Z).Denot) (v : Val) → Is (PairOr κ Z) r (v ∷ []) → T (has_ty (layout (PairOr κ Z)) v) × WT v
  good r v is = ((Enum-Lawful 𝓛 (shape (Res.the_type (Pair κ Z) Error.the_row)) tt ((pair_lawful, tt), ((error_lawful, tt), tt))).typed ((Res.the_type (Pair κ Z) Error.the_row).to r) (v ∷ []) is).0

one_is_three : (n m : ℕ) → n ≡ 1 → m ≡ 3 → n ≡ m → ⊥
one_is_three n m one three e = omega (arith, one, three, e)

zero_is_more : (n m : ℕ) → n ≡ 0 → 0 < m → n ≡ m → ⊥
zero_is_more n m none some e = omega (arith, none, some, e)

is_not_outside : (n one other : ℕ) → one < n → other < n → (n ≤ one) ⊎ (n ≤ other) → ⊥
is_not_outside n one other one_in other_in (inl far) = omega (arith, one_in, far)
is_not_outside n one other one_in other_in (inr far) = omega (arith, other_in, far)

is_not_alike : (n one other : ℕ) → (n ≤ one) ⊎ (n ≤ other) → (one < n) × (one ≡ other) → ⊥
is_not_alike n one other (inl far) both = omega (arith, both.0, far)
is_not_alike n one other (inr far) both = omega (arith, both.0, both.1, far)

module _ {Y : Type 0} (items : List Y) (one other : ℕ) where
  abbrev pub Reads : Result (MutBor Y × MutBor Y) ArenaError → Type 0
  Reads r = IfOk r (λ pair. (slice_get items one ≡ Some pair.0.now) × (slice_get items other ≡ Some pair.1.now))

  abbrev pub Outside : Result (MutBor Y × MutBor Y) ArenaError → Type 0
  Outside r = IsErrOf r ArenaError.KeyOutOfBounds ↔ ((length items ≤ one) ⊎ (length items ≤ other))

  abbrev pub Alike : Result (MutBor Y × MutBor Y) ArenaError → Type 0
  Alike r = IsErrOf r ArenaError.AliasingPairAccess ↔ ((one < length items) × (one ≡ other))

  abbrev pub Errors : Result (MutBor Y × MutBor Y) ArenaError → Type 0
  Errors r = IfErr r (λ error. (error ≡ ArenaError.KeyOutOfBounds) ⊎ (error ≡ ArenaError.AliasingPairAccess))

  abbrev pub Told : Result (MutBor Y × MutBor Y) ArenaError → Type 0
  Told r = Reads r × Outside r × Alike r × Errors r

  -- each error is another
  abbrev numbered : Result (MutBor Y × MutBor Y) ArenaError → ℕ
  numbered (Ok pair) = 0
  numbered (Err e) = place_of e

  pub told_outside : (length items ≤ one) ⊎ (length items ≤ other) → Told (Err ArenaError.KeyOutOfBounds)
  told_outside far = (tt, ((λ _. far), λ _. refl), ((λ same. absurd (one_is_three _ _ refl refl (ap numbered same))), λ both. absurd (is_not_alike (length items) one other far both)), inl refl)

  pub told_alike : one < length items → other < length items → one ≡ other → Told (Err ArenaError.AliasingPairAccess)
  told_alike one_in other_in same =
      (tt, ((λ e. absurd (one_is_three _ _ refl refl (sym (ap numbered e)))), λ far. absurd (is_not_outside (length items) one other one_in other_in far)), ((λ _. (one_in, same)), λ _. refl), inr refl)

  pub told_lent : one < length items → other < length items → one ≢ other → (pair : MutBor Y × MutBor Y) → slice_get items one ≡ Some pair.0.now → slice_get items other ≡ Some pair.1.now → Told (Ok pair)
  told_lent one_in other_in apart pair first second =
      ((first, second), ((λ e. absurd (zero_is_more _ _ refl (lit< tt) (ap numbered e))), λ far. absurd (is_not_outside (length items) one other one_in other_in far)), ((λ e. absurd (zero_is_more _ _ refl (lit< tt) (ap numbered e))), λ both. absurd (apart both.1)), tt)

module _ {K Y : Type 0} (keys : Keys K) (items : List Y) (both : List K) where
  abbrev pub ReadsKeys : Result (MutBor Y × MutBor Y) ArenaError → Type 0
  ReadsKeys r = (one other : K) → both ≡ one ∷ other ∷ [] → Reads items (keys.number one) (keys.number other) r

  abbrev pub OutsideKeys : Result (MutBor Y × MutBor Y) ArenaError → Type 0
  OutsideKeys r = (one other : K) → both ≡ one ∷ other ∷ [] → Outside items (keys.number one) (keys.number other) r

  abbrev pub AlikeKeys : Result (MutBor Y × MutBor Y) ArenaError → Type 0
  AlikeKeys r = (one other : K) → both ≡ one ∷ other ∷ [] → Alike items (keys.number one) (keys.number other) r

  abbrev pub ToldKeys : Result (MutBor Y × MutBor Y) ArenaError → Type 0
  ToldKeys r = ReadsKeys r × OutsideKeys r × AlikeKeys r

  pub told_keys : (n : ℕ × ℕ) → AreNumbers keys.number both n.0 n.1 → (r : Result (MutBor Y × MutBor Y) ArenaError) → Told items n.0 n.1 r → ToldKeys r
  told_keys n are r told =
      let at : (one other : K) → both ≡ one ∷ other ∷ [] → n ≡ (keys.number one, keys.number other) = λ one other e. let m = are one other e in λ i. (m.0 i, m.1 i) in (
        λ one other e. subst (λ (m : ℕ × ℕ). Reads items m.0 m.1 r) (at one other e) told.0,
        λ one other e. subst (λ (m : ℕ × ℕ). Outside items m.0 m.1 r) (at one other e) told.1,
        λ one other e. subst (λ (m : ℕ × ℕ). Alike items m.0 m.1 r) (at one other e) told.2,
      )
