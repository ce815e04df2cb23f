-- Facts on runs.
-- for src/run/, src/laws.rt
use Rattle.std.proofs.Common.{◌≡◌, ℕ, ◌+◌, List, [], ◌∷◌, ◌++◌, length, length-append, refl, subst, arith}
use Rattle.std.specs.List.{AllByRecursion}
use Rattle.wasmi_collections.specs.Runs.{IsRun}

-- a run goes on by one step to one more state
pub IsRun-append : {S C R V : Type 0} (step : S → C → R → S → Type 0) (state : V → S) (old : V) (commands : List C) (replies : List R) (mid : V) (command : C) (reply : R) (new : V)
    → IsRun step state old commands replies mid → step (state mid) command reply (state new)
    → IsRun step state old (commands ++ command ∷ []) (replies ++ reply ∷ []) new
IsRun-append step state old [] [] mid command reply new run last =
    (new, subst (λ v. step (state v) command reply (state new)) run last, refl)
IsRun-append step state old (c ∷ cs) (r ∷ rs) mid command reply new run last =
    (run.0, run.1, IsRun-append step state run.0 cs rs mid command reply new run.2 last)
IsRun-append step state old [] (r ∷ rs) mid command reply new run last = absurd run
IsRun-append step state old (c ∷ cs) [] mid command reply new run last = absurd run

-- one more reply to one more command
pub counts_on : {C : Type 0} (new old : ℕ) (commands : List C) (command : C) → new ≡ old + 1 → old ≡ length commands → new ≡ length (commands ++ command ∷ [])
counts_on new old commands command more counted = omega (arith, more, counted, length-append commands (command ∷ []))

-- two that are the same before a run of the same commands are the same after it, and reply alike, if that
-- holds of each step whose reply is accepted
module _ {S T C R V W : Type 0} (step : S → C → R → S → Type 0) (step' : T → C → R → T → Type 0) (Same : S → T → Type 0) (Accepted : R → Type 0)
    (alike : (a : S) (b : T) (command : C) (one other : R) (c : S) (d : T) → Same a b → step a command one c → step' b command other d → Accepted one → Accepted other → (one ≡ other) × Same c d)
    (state : V → S) (state' : W → T) where
  pub IsRun-alike : (a : V) (b : W) (commands : List C) (ones others : List R) (c : V) (d : W) → Same (state a) (state' b) → IsRun step state a commands ones c → IsRun step' state' b commands others d
      → AllByRecursion Accepted ones → AllByRecursion Accepted others → (ones ≡ others) × Same (state c) (state' d)
  IsRun-alike a b [] [] [] c d same first second ok fine = (refl, rw (first, second) same)
  IsRun-alike a b (command ∷ commands) (one ∷ ones) (other ∷ others) c d same first second ok fine =
      let now = alike (state a) (state' b) command one other (state first.0) (state' second.0) same first.1 second.1 ok.0 fine.0 in
      let rest = IsRun-alike first.0 second.0 commands ones others c d now.1 first.2 second.2 ok.1 fine.1 in (λ i. now.0 i ∷ rest.0 i, rest.1)
  IsRun-alike a b [] (one ∷ ones) others c d same first second ok fine = absurd first
  IsRun-alike a b [] [] (other ∷ others) c d same first second ok fine = absurd second
  IsRun-alike a b (command ∷ commands) [] others c d same first second ok fine = absurd first
  IsRun-alike a b (command ∷ commands) (one ∷ ones) [] c d same first second ok fine = absurd second
