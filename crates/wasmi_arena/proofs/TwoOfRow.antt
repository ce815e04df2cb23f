-- Two elements of a row in memory at once. Assumes `Logic`.
--     two_out      a row is two of its elements, and the way back once each was exchanged
use mathlib.Core.Path.{refl}
use Prim.Native.Nat.{ℕ, zero, suc, ◌+◌, ◌<◌}
use Rattle.wasmi_arena.proofs.Steps.{arith, length, get_or, set, Ura, full_share, SProp, ent, sep, wand, all, all_e, apply∗, Fml, fsep, ‵, raw, ◌⊛◌, ◌$◌, ◌∵◌, !, qed, done, move, use1, use2, split, split3, fsplit, fjoin, each, assume, Logic, sem, row, others, takes, puts, nth, part_at, shares, RattleType}
use mathlib.Core.List.{List, [], ◌∷◌}
use Rattle.std.proofs.Common.{◌≢◌, ap}
use Rattle.std.specs.Mem.{type_size}

module _ (T : RattleType) {M : Type 1} {𝓤 : Ura M} (𝓛 : Logic 𝓤) (b : ℕ) where
  abbrev Row : Type 0
  Row = List T.Denot

  abbrev place : ℕ → ℕ → ℕ
  place o i = nth (type_size T) o i

  abbrev run : Row → ℕ → Fml
  run xs o = row T full_share xs b o

  abbrev part : T.Denot → ℕ → Fml
  part x o = part_at T full_share x b o

  abbrev pub Back : Row → ℕ → ℕ → ℕ → T.Denot × T.Denot → SProp 𝓤
  Back xs i j o z = wand 𝓤 (sep 𝓤 (sem 𝓛 (part z.0 (place o i))) (sem 𝓛 (part z.1 (place o j)))) (sem 𝓛 (run (set (set xs i z.0) j z.1) o))

  -- the way back
  abbrev pub Backs : Row → ℕ → ℕ → ℕ → SProp 𝓤
  Backs xs i j o = all 𝓤 (Back xs i j o)

  back_behind : (x : T.Denot) (xs : Row) (j o : ℕ) → j < length xs → ent 𝓤 (sem 𝓛 (others (shares T) full_share xs j b (o + type_size T))) (Backs (x ∷ xs) zero (suc j) o)
  back_behind x xs j o inside =
      qed 𝓛 (‵ (others (shares T) full_share xs j b (o + type_size T)) ∷ []) ∵ each ! (Back (x ∷ xs) zero (suc j) o) (λ z.
      assume ! (‵ (fsep (part z.0 o) (part z.1 (place (o + type_size T) j)))) $ fsplit ! $ move ! (1 ∷ 2 ∷ []) $
      use2 𝓛 (‵ (run (set xs j z.1) (o + type_size T))) (puts (shares T) full_share 𝓛 xs j z.1 b (o + type_size T) inside) $ move ! (1 ∷ 0 ∷ []) $ fjoin ! $ done !)

  back_before : (x : T.Denot) (xs : Row) (i o : ℕ) → i < length xs → ent 𝓤 (sem 𝓛 (others (shares T) full_share xs i b (o + type_size T))) (Backs (x ∷ xs) (suc i) zero o)
  back_before x xs i o inside =
      qed 𝓛 (‵ (others (shares T) full_share xs i b (o + type_size T)) ∷ []) ∵ each ! (Back (x ∷ xs) (suc i) zero o) (λ z.
      assume ! (‵ (fsep (part z.0 (place (o + type_size T) i)) (part z.1 o))) $ fsplit ! $ move ! (0 ∷ 2 ∷ []) $
      use2 𝓛 (‵ (run (set xs i z.0) (o + type_size T))) (puts (shares T) full_share 𝓛 xs i z.0 b (o + type_size T) inside) $ move ! (1 ∷ 0 ∷ []) $ fjoin ! $ done !)

  back_within : (x : T.Denot) (xs : Row) (i j o : ℕ) → ent 𝓤 (sep 𝓤 (Backs xs i j (o + type_size T)) (sem 𝓛 (part x o))) (Backs (x ∷ xs) (suc i) (suc j) o)
  back_within x xs i j o =
      let next = o + type_size T in
      qed 𝓛 (raw (Backs xs i j next) ∷ ‵ (part x o) ∷ []) ∵ each ! (Back (x ∷ xs) (suc i) (suc j) o) (λ z.
      assume ! (‵ (fsep (part z.0 (place next i)) (part z.1 (place next j)))) $ move ! (1 ∷ []) $
      use1 𝓛 (raw (Back xs i j next z)) (all_e 𝓤 (Back xs i j next) z) $ move ! (1 ∷ 0 ∷ []) $
      use2 𝓛 (‵ (run (set (set xs i z.0) j z.1) next)) (apply∗ 𝓤 (sem 𝓛 (fsep (part z.0 (place next i)) (part z.1 (place next j)))) (sem 𝓛 (run (set (set xs i z.0) j z.1) next))) $
      move ! (1 ∷ 0 ∷ []) $ fjoin ! $ done !)

  pub two_out : (xs : Row) (i j o : ℕ) (none : T.Denot) → i ≢ j → i < length xs → j < length xs
      → ent 𝓤 (sem 𝓛 (run xs o)) (sep 𝓤 (sem 𝓛 (part (get_or xs i none) (place o i))) (sep 𝓤 (sem 𝓛 (part (get_or xs j none) (place o j))) (Backs xs i j o)))
  two_out [] i j o none apart first second = absurd (omega (arith, first))
  two_out (x ∷ xs) zero zero o none apart first second = absurd (apart refl)
  two_out (x ∷ xs) zero (suc j) o none apart first second =
      let inside : j < length xs = omega (arith, second) in
      qed 𝓛 (‵ (run (x ∷ xs) o) ∷ []) ∵ fsplit ! $ move ! (1 ∷ []) $
      use1 𝓛 (‵ (part (get_or xs j none) (place (o + type_size T) j)) ⊛ ‵ (others (shares T) full_share xs j b (o + type_size T))) (takes (shares T) full_share 𝓛 xs j none b (o + type_size T) inside) $ split ! $
      move ! (1 ∷ []) $ use1 𝓛 (raw (Backs (x ∷ xs) zero (suc j) o)) (back_behind x xs j o inside) $ move ! (2 ∷ 1 ∷ 0 ∷ []) $ done !
  two_out (x ∷ xs) (suc i) zero o none apart first second =
      let inside : i < length xs = omega (arith, first) in
      qed 𝓛 (‵ (run (x ∷ xs) o) ∷ []) ∵ fsplit ! $ move ! (1 ∷ []) $
      use1 𝓛 (‵ (part (get_or xs i none) (place (o + type_size T) i)) ⊛ ‵ (others (shares T) full_share xs i b (o + type_size T))) (takes (shares T) full_share 𝓛 xs i none b (o + type_size T) inside) $ split ! $
      move ! (1 ∷ []) $ use1 𝓛 (raw (Backs (x ∷ xs) (suc i) zero o)) (back_before x xs i o inside) $ move ! (1 ∷ 2 ∷ 0 ∷ []) $ done !
  two_out (x ∷ xs) (suc i) (suc j) o none apart first second =
      let next = o + type_size T in
      qed 𝓛 (‵ (run (x ∷ xs) o) ∷ []) ∵ fsplit ! $ move ! (1 ∷ []) $
      use1 𝓛 (‵ (part (get_or xs i none) (place next i)) ⊛ ‵ (part (get_or xs j none) (place next j)) ⊛ raw (Backs xs i j next))
      (two_out xs i j next none (λ same. apart (ap suc same)) (omega (arith, first)) (omega (arith, second))) $ split3 ! $
      move ! (2 ∷ 3 ∷ []) $ use2 𝓛 (raw (Backs (x ∷ xs) (suc i) (suc j) o)) (back_within x xs i j o) $ move ! (1 ∷ 2 ∷ 0 ∷ []) $ done !
