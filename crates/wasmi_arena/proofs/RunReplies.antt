-- What a run's replies tell: its keys go on from the length, and each item that came took one place of the room.
use Rattle.std.proofs.Common.{◌≡◌, zero, suc, take, Some, arith, ℕ, ◌+◌, ◌≤◌, List, [], ◌∷◌, length, slice_get, ap, ◌∙◌, subst}
use Rattle.std.proofs.lemmas.Option.{get_or_from_slice_get}
use Rattle.wasmi_arena.specs.Keys.{Keys}
use Rattle.wasmi_arena.specs.Arena.{ArenaState, ArenaStep, ArenaRun, allocs_in, keys_in}
use Rattle.wasmi_arena.specs.declared.run.ArenaCommand.{ArenaCommand}
use Rattle.wasmi_arena.specs.declared.run.ArenaCommand.TheVariants.{Alloc}
use Rattle.wasmi_arena.specs.declared.run.ArenaReply.{ArenaReply}
use Rattle.wasmi_arena.specs.declared.run.ArenaReply.TheVariants.{Key}
use Rattle.wasmi_arena.proofs.ArenaSteps.{room_of_step}
use Rattle.wasmi_arena.proofs.OneAnswer.{counted}

module _ {K T V : Type 0} (keys : Keys K) (limit : ℕ) (state : V → ArenaState T) where
  -- a key that is replied is that of the length
  key_of_step : (old next : ArenaState T) (command : ArenaCommand K T) (key : K) → ArenaStep keys limit old command (Key key) next → key ≡ keys.key (length old.items)
  key_of_step old next (Alloc item) key step = step.key_is
  key_of_step old next command key step = absurd step

  pub keys_of_run : (old : V) (commands : List (ArenaCommand K T)) (replies : List (ArenaReply K T)) (new : V) → ArenaRun keys limit state old commands replies new
      → (i : ℕ) (key : K) → slice_get replies i ≡ Some (Key key) → key ≡ keys.key (length (state old).items + keys_in (take i replies))
  keys_of_run old [] [] new run i key found = absurd (cc)
  keys_of_run old (c ∷ cs) (r ∷ rs) new run zero key found =
      let is : r ≡ Key key = get_or_from_slice_get (r ∷ rs) 0 (Key key) r found in
      let step : ArenaStep keys limit (state old) c (Key key) (state run.0) = subst (λ (reply : ArenaReply K T). ArenaStep keys limit (state old) c reply (state run.0)) is run.1 in
      key_of_step (state old) (state run.0) c key step ∙ ap keys.key (omega arith)
  keys_of_run old (c ∷ cs) (r ∷ rs) new run (suc i) key found =
      keys_of_run run.0 cs rs new run.2 i key found ∙ ap keys.key (counted keys limit (state old) (state run.0) c r cs (take i rs) run.1).0
  keys_of_run old [] (r ∷ rs) new run i key found = absurd run
  keys_of_run old (c ∷ cs) [] new run i key found = absurd run

  pub room_left_by_run : (old : V) (commands : List (ArenaCommand K T)) (replies : List (ArenaReply K T)) (new : V) → ArenaRun keys limit state old commands replies new
      → (state old).room ≤ (state new).room + allocs_in commands
  room_left_by_run old [] [] new run = rw run (omega arith)
  room_left_by_run old (c ∷ cs) (r ∷ rs) new run =
      let step = room_of_step keys limit state (state old) c cs r (state run.0) run.1 in
      let rest = room_left_by_run run.0 cs rs new run.2 in omega arith
  room_left_by_run old [] (r ∷ rs) new run = absurd run
  room_left_by_run old (c ∷ cs) [] new run = absurd run
