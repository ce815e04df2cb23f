-- Facts on the steps and runs of an arena.
use Rattle.std.proofs.Common.{◌≡◌, ◌≢◌, ◌↔◌, ◌⊎◌, zero, suc, take, Some, Result, Ok, Err, IfOk, IfErr, OnOk, OnErr, IsErrOf, slice_get, arith, ℕ, ◌+◌, ◌<◌, ◌≤◌, List, [], ◌∷◌, ◌++◌, length, inl, inr, refl, ap, ◌∙◌, subst, length-append}
use Rattle.std.proofs.Math.Nat.{lt_of_not-le}
use Rattle.std.proofs.lemmas.Bool.{cases_lt}
use Rattle.std.proofs.lemmas.List.Edits.{length-swap}
use Rattle.std.proofs.lemmas.Option.{get_or_from_slice_get}
use Rattle.std.specs.List.{swap}
use Rattle.wasmi_arena.specs.Geometry.{max_len, room}
use Rattle.wasmi_arena.specs.Keys.{Keys}
use Rattle.wasmi_arena.specs.Arena.{ArenaState, ArenaStep, ArenaRun, ArenaUnchanged, AllocatesItem, RefusesItem, SwapsItems, allocs_in, stable_limit, stable_state}
use Rattle.wasmi_arena.specs.Growth.{RefusesOneMore}
use Rattle.wasmi_arena.proofs.Doubling.{room-falls}
use Rattle.wasmi_arena.proofs.Growth.{refuses_one_more}
use Rattle.wasmi_arena.proofs.Results.{ok-err}
use Rattle.wasmi_arena.specs.declared.run.ArenaCommand.{ArenaCommand}
use Rattle.wasmi_arena.specs.declared.run.ArenaReply.{ArenaReply}
use Rattle.wasmi_arena.specs.declared.run.ArenaCommand.TheVariants.{Alloc, Has, Put, Swap}
use Rattle.wasmi_arena.specs.declared.run.ArenaReply.TheVariants.{Key, Has as HasReply, Old, Done, Refused}
use Rattle.wasmi_arena.specs.declared.error.ArenaError.{ArenaError}
use Rattle.wasmi_arena.specs.declared.error.ArenaError.TheVariants.{OutOfSystemMemory, NotEnoughKeys, KeyOutOfBounds, AliasingPairAccess, DuplicateItem}

module _ {K T V : Type 0} (keys : Keys K) (limit : ℕ) (state : V → ArenaState T) where
  -- a run goes on by one step to one more arena
  pub ArenaRun-append : (old : V) (commands : List (ArenaCommand K T)) (replies : List (ArenaReply K T)) (mid : V) (command : ArenaCommand K T) (reply : ArenaReply K T) (new : V)
      → ArenaRun keys limit state old commands replies mid → ArenaStep keys limit (state mid) command reply (state new)
      → ArenaRun keys limit state old (commands ++ command ∷ []) (replies ++ reply ∷ []) new
  ArenaRun-append old [] [] mid command reply new run step =
      (new, subst (λ (s : V). ArenaStep keys limit (state s) command reply (state new)) run step, refl)
  ArenaRun-append old (c ∷ cs) (r ∷ rs) mid command reply new run step =
      (run.0, run.1, ArenaRun-append run.0 cs rs mid command reply new run.2 step)
  ArenaRun-append old [] (r ∷ rs) mid command reply new run step = absurd run
  ArenaRun-append old (c ∷ cs) [] mid command reply new run step = absurd run

  -- a step lowers the room by one at the most, and only where an item goes to the end
  pub room_of_step : (old : ArenaState T) (command : ArenaCommand K T) (commands : List (ArenaCommand K T)) (reply : ArenaReply K T) (next : ArenaState T) → ArenaStep keys limit old command reply next
      → old.room + allocs_in commands ≤ next.room + allocs_in (command ∷ commands)
  room_of_step old (Alloc item) commands (Key key) next step =
      elim (cases_lt 0 old.room) [ inl some ↦ let left = step.room_left some in omega arith | inr none ↦ omega arith ]
  room_of_step old (Alloc item) commands (Refused error) next step = let left = step.1.1 in omega arith
  room_of_step old (Has key) commands (HasReply found) next step = let left = step.1.1 in omega arith
  room_of_step old (Put key item) commands (Old there) next step = let left = step.room_is in omega arith
  room_of_step old (Put key item) commands (Refused error) next step = let left = step.2.1 in omega arith
  room_of_step old (Swap first second) commands Done next step = let left = step.room_is in omega arith
  room_of_step old (Swap first second) commands (Refused error) next step = let left = step.1.1 in omega arith
  room_of_step old command commands reply next step = absurd step

  -- with room no command is refused for memory
  has_room : (old : ArenaState T) (command : ArenaCommand K T) (next : ArenaState T) → ArenaStep keys limit old command (Refused OutOfSystemMemory) next → 0 < old.room → ⊥
  has_room old (Alloc item) next step some = let none = step.0.1 in omega arith
  has_room old (Has key) next step some = step
  has_room old (Put key item) next step some = let other = step.0 in cc
  has_room old (Swap first second) next step some = step.0

  pub room_of_run : (old : V) (commands : List (ArenaCommand K T)) (replies : List (ArenaReply K T)) (new : V) → ArenaRun keys limit state old commands replies new
      → (i : ℕ) → allocs_in (take i commands) < (state old).room → slice_get replies i ≢ Some (Refused OutOfSystemMemory)
  room_of_run old [] [] new run i few = λ found. cc
  room_of_run old (c ∷ cs) (r ∷ rs) new run zero few = λ found.
      let is : r ≡ Refused OutOfSystemMemory = get_or_from_slice_get (r ∷ rs) 0 (Refused OutOfSystemMemory) r found in
      has_room (state old) c (state run.0) (subst (λ (reply : ArenaReply K T). ArenaStep keys limit (state old) c reply (state run.0)) is run.1) few
  room_of_run old (c ∷ cs) (r ∷ rs) new run (suc i) few =
      room_of_run run.0 cs rs new run.2 i (let left = room_of_step (state old) c (take i cs) r (state run.0) run.1 in omega arith)
  room_of_run old [] (r ∷ rs) new run i few = absurd run
  room_of_run old (c ∷ cs) [] new run i few = absurd run

-- an item that goes to the end lowers the room by one, where there is any
pub room_of_append : {T : Type 0} (old new : List T) (item : T) → new ≡ old ++ item ∷ [] → length old < max_len → 0 < room (length old) → room (length old) ≡ room (length new) + 1
room_of_append old new item after below some = rw (after, length-append old (item ∷ [])) (room-falls (length old) below some)

-- a stable arena's `alloc` and `swap` are steps, by their clauses
module _ {K T : Type 0} (keys : Keys K) (old new : List T) where
  unchanged : new ≡ old → ArenaUnchanged (stable_state old) (stable_state new)
  unchanged same = (same, ap (λ (xs : List T). room (length xs)) same)

  item_refused : (error : ArenaError) → RefusesOneMore (stable_limit keys) (length old) error → RefusesItem keys (stable_limit keys) (stable_state old) error
  item_refused NotEnoughKeys why = why
  item_refused OutOfSystemMemory why = why
  item_refused KeyOutOfBounds why = why
  item_refused AliasingPairAccess why = why
  item_refused DuplicateItem why = why

  pub alloc_steps : (r : Result K ArenaError) (item : T) → IfOk r (λ key. key ≡ keys.key (length old)) → OnOk r (new ≡ old ++ item ∷ []) → OnOk r (length old < stable_limit keys)
      → IfOk r (λ key. AllocatesItem keys (stable_limit keys) (stable_state old) item key (stable_state new))
  alloc_steps (Ok key) item key_is is few = record { has_key = few; key_is = key_is; items_are = is; room_left = λ some. room_of_append old new item is (omega arith) some }
  alloc_steps (Err error) item key_is is few = tt

  pub alloc_refused : (r : Result K ArenaError) → IfErr r (λ error. (error ≡ NotEnoughKeys) ⊎ (error ≡ OutOfSystemMemory)) → IsErrOf r NotEnoughKeys ↔ (stable_limit keys ≤ length old) → (IsErrOf r OutOfSystemMemory → room (length old) ≡ 0)
      → OnErr r (new ≡ old) → IfErr r (λ error. RefusesItem keys (stable_limit keys) (stable_state old) error × ArenaUnchanged (stable_state old) (stable_state new))
  alloc_refused (Ok key) errors full memory same = tt
  alloc_refused (Err error) errors full memory same = (item_refused error (refuses_one_more (stable_limit keys) (length old) error errors full memory), unchanged same)

  module _ (first second : K) where
    abbrev Aliasing : Result (Unit {0}) ArenaError → Type 0
    Aliasing r = IsErrOf r AliasingPairAccess ↔ (keys.number first ≡ keys.number second)

    abbrev Past : Result (Unit {0}) ArenaError → Type 0
    Past r = IsErrOf r KeyOutOfBounds ↔ ((keys.number first ≢ keys.number second) × ((length old ≤ keys.number first) ⊎ (length old ≤ keys.number second)))

    pub swap_steps : (r : Result (Unit {0}) ArenaError) → Aliasing r → Past r → OnOk r (new ≡ swap old (keys.number first) (keys.number second)) → OnOk r (SwapsItems keys (stable_limit keys) (stable_state old) first second (stable_state new))
    swap_steps (Ok done) aliasing past is =
        let apart : keys.number first ≢ keys.number second = (λ same. absurd (ok-err (aliasing.1 same))) in
        record {
          apart = apart;
          first_reads = lt_of_not-le (λ many. ok-err (past.1 (apart, inl many)));
          second_reads = lt_of_not-le (λ many. ok-err (past.1 (apart, inr many)));
          items_are = is;
          room_is = ap room (ap length is ∙ length-swap old (keys.number first) (keys.number second));
        }
    swap_steps (Err error) aliasing past is = tt
