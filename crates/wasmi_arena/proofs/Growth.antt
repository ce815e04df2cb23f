-- Facts on lists that grow item after item.
use Rattle.std.proofs.Common.{◌≡◌, ℕ, ◌+◌, ◌≤◌, List, [], ◌∷◌, ◌++◌, length, ◌∙◌, ap, arith, length-append, append_assoc, Err, IsErrOf, ◌↔◌, ◌⊎◌, inl, inr}
use Rattle.std.proofs.lemmas.List.Elements.{All-nil, All-cons, All-append}
use Rattle.std.proofs.lemmas.Bool.{cases_lt}
use Rattle.wasmi_arena.specs.Geometry.{room}
use Rattle.wasmi_arena.specs.declared.error.ArenaError.{ArenaError}
use Rattle.wasmi_arena.specs.declared.error.ArenaError.TheVariants.{OutOfSystemMemory, NotEnoughKeys}
use Rattle.wasmi_arena.specs.Growth.{RefusesOneMore, AppendsMany}

-- so many items went in, and one more does
module _ {T : Type 0} (P : T → Type 0) where
  pub many_next : {amount : ℕ} (old : List T) {new : List T} {x : T} → AppendsMany P amount old new → P x → AppendsMany P (amount + 1) old (new ++ x ∷ [])
  many_next {amount} old {new} {x} so_far holds = (
    so_far.0 ++ x ∷ [],
    rw so_far.1 (append_assoc old so_far.0 (x ∷ [])),
    omega (arith, so_far.2, length-append so_far.0 (x ∷ [])),
    All-append P so_far.0 (x ∷ []) so_far.3 (All-cons P x [] holds (All-nil P)),
  )

  -- and so many more do
  pub many_more : {amount more : ℕ} (old : List T) {mid new : List T} → AppendsMany P amount old mid → AppendsMany P more mid new → AppendsMany P (amount + more) old new
  many_more {amount} {more} old {mid} {new} so_far then = (
    so_far.0 ++ then.0,
    then.1 ∙ (ap (λ (xs : List T). xs ++ then.0) so_far.1 ∙ append_assoc old so_far.0 then.0),
    omega (arith, so_far.2, then.2, length-append so_far.0 then.0),
    All-append P so_far.0 then.0 so_far.3 then.3,
  )

  pub many_length : (amount : ℕ) (old new : List T) → AppendsMany P amount old new → length new ≡ length old + amount
  many_length amount old new all = omega (arith, ap length all.1, all.2, length-append old all.0)

  -- what went into an empty list goes behind another
  pub many_moved : (amount : ℕ) {part : List T} (old : List T) {new : List T} → new ≡ old ++ part → AppendsMany P amount [] part → AppendsMany P amount old new
  many_moved amount {part} old {new} is all = (all.0, is ∙ ap (λ (xs : List T). old ++ xs) all.1, all.2, all.3)

-- why one more item is refused, by the clauses of the call that adds it
pub refuses_one_more : {R : Type 0} (limit n : ℕ) (error : ArenaError) → (error ≡ NotEnoughKeys) ⊎ (error ≡ OutOfSystemMemory) → IsErrOf {T = R} (Err error) NotEnoughKeys ↔ (limit ≤ n)
    → (IsErrOf {T = R} (Err error) OutOfSystemMemory → room n ≡ 0) → RefusesOneMore limit n error
refuses_one_more limit n error errors full memory = elim errors [
  | inl keys ↦ rw keys (full.0 (ap Err keys))
  | inr none ↦ rw none (elim (cases_lt n limit) [
    | inl below ↦ (below, memory (ap Err none))
    | inr above ↦ let is = full.1 above in cc
  ])
]
