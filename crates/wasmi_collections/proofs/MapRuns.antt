-- What a map replies, and what it becomes, follows from what it reads and how many entries it has.
-- for src/laws.rt
use Rattle.std.proofs.Common.{◌≡◌, ℕ, ◌+◌, ◌-◌, Bool, true, false, cond, List, length, Option, Some, None, refl, sym, ap, ◌∙◌, arith, is_some}
use Rattle.std.specs.Map.{update}
use Rattle.wasmi_map_specs.specs.Maps.{value_at}
use Rattle.wasmi_collections.specs.MapCalls.{one_if}
use Rattle.wasmi_collections.specs.MapSteps.{MapStep, SameEntries, AcceptsMapCommand}
use Rattle.wasmi_collections.specs.declared.run.map.MapCommand.{MapCommand}
use Rattle.wasmi_collections.specs.declared.run.map.MapCommand.TheVariants.{Insert, Remove, Has, OrInsert, Len, Clear}
use Rattle.wasmi_collections.specs.declared.run.map.MapReply.{MapReply}
use Rattle.wasmi_collections.specs.declared.run.map.MapReply.TheVariants.{Old, Has as HasReply, Len as LenReply, Done, Refused}

module _ {K V : Type 0} (eq : K → K → Bool) where
  -- of a map that reads `f` and has n entries: the reply to a command, what it reads then, and how many
  -- entries it has then
  abbrev reply_to : (K → Option V) → ℕ → MapCommand K V → MapReply V
  reply_to f n (Insert key value) = Old (f key)
  reply_to f n (Remove key) = Old (f key)
  reply_to f n (Has key) = HasReply (is_some (f key))
  reply_to f n (OrInsert key value) = HasReply (is_some (f key))
  reply_to f n Len = LenReply n
  reply_to f n Clear = Done

  abbrev reads_then : (K → Option V) → MapCommand K V → K → Option V
  reads_then f (Insert key value) q = update eq f key (Some value) q
  reads_then f (Remove key) q = update eq f key None q
  reads_then f (Has key) q = f q
  reads_then f (OrInsert key value) q = cond (is_some (f key)) (f q) (update eq f key (Some value) q)
  reads_then f Len q = f q
  reads_then f Clear q = None

  abbrev count_then : (K → Option V) → ℕ → MapCommand K V → ℕ
  count_then f n (Insert key value) = n + 1 - one_if (is_some (f key))
  count_then f n (Remove key) = n - one_if (is_some (f key))
  count_then f n (Has key) = n
  count_then f n (OrInsert key value) = n + 1 - one_if (is_some (f key))
  count_then f n Len = n
  count_then f n Clear = 0

  reply_is : (old : List (K × V)) (command : MapCommand K V) (reply : MapReply V) (new : List (K × V)) → MapStep eq old command reply new → AcceptsMapCommand reply
      → reply ≡ reply_to (value_at eq old) (length old) command
  reply_is old (Insert key value) (Old there) new step ok = ap Old step.there_is
  reply_is old (Remove key) (Old there) new step ok = ap Old step.there_is
  reply_is old (Has key) (HasReply found) new step ok = ap HasReply step.0
  reply_is old (OrInsert key value) (HasReply true) new step ok = ap HasReply (sym step.0)
  reply_is old (OrInsert key value) (HasReply false) new step ok = ap (λ there. HasReply (is_some there)) step.there_is
  reply_is old Len (LenReply len) new step ok = ap LenReply step.0
  reply_is old Clear Done new step ok = refl
  reply_is old command (Refused error) new step ok = absurd ok
  reply_is old command reply new step ok = absurd step

  reads_are : (old : List (K × V)) (command : MapCommand K V) (reply : MapReply V) (new : List (K × V)) → MapStep eq old command reply new → AcceptsMapCommand reply
      → (q : K) → value_at eq new q ≡ reads_then (value_at eq old) command q
  reads_are old (Insert key value) (Old there) new step ok q = step.changes q
  reads_are old (Remove key) (Old there) new step ok q = step.changes q
  reads_are old (Has key) (HasReply found) new step ok q = ap (λ es. value_at eq es q) step.1
  reads_are old (OrInsert key value) (HasReply true) new step ok q =
      ap (λ es. value_at eq es q) step.1 ∙ (λ i. cond (sym step.0 i) (value_at eq old q) (update eq (value_at eq old) key (Some value) q))
  reads_are old (OrInsert key value) (HasReply false) new step ok q =
      step.changes q ∙ (λ i. cond (is_some (step.there_is i)) (value_at eq old q) (update eq (value_at eq old) key (Some value) q))
  reads_are old Len (LenReply len) new step ok q = ap (λ es. value_at eq es q) step.1
  reads_are old Clear Done new step ok q = ap (λ es. value_at eq es q) step
  reads_are old command (Refused error) new step ok q = absurd ok
  reads_are old command reply new step ok q = absurd step

  count_is : (old : List (K × V)) (command : MapCommand K V) (reply : MapReply V) (new : List (K × V)) → MapStep eq old command reply new → AcceptsMapCommand reply
      → length new ≡ count_then (value_at eq old) (length old) command
  count_is old (Insert key value) (Old there) new step ok = rw (← step.there_is) (let counted = step.counted in omega (arith, counted))
  count_is old (Remove key) (Old there) new step ok = rw (← step.there_is) (let counted = step.counted in omega (arith, counted))
  count_is old (Has key) (HasReply found) new step ok = ap length step.1
  count_is old (OrInsert key value) (HasReply true) new step ok = rw (step.0, step.1) (omega arith)
  count_is old (OrInsert key value) (HasReply false) new step ok = rw (← step.there_is) (let counted = step.counted in omega (arith, counted))
  count_is old Len (LenReply len) new step ok = ap length step.1
  count_is old Clear Done new step ok = ap length step
  count_is old command (Refused error) new step ok = absurd ok
  count_is old command reply new step ok = absurd step

  -- so one map replies as another with the same entries, and they stay the same
  pub MapStep-alike : (a b : List (K × V)) (command : MapCommand K V) (one other : MapReply V) (c d : List (K × V)) → SameEntries eq a b → MapStep eq a command one c → MapStep eq b command other d → AcceptsMapCommand one → AcceptsMapCommand other
      → (one ≡ other) × SameEntries eq c d
  MapStep-alike a b command one other c d same first second ok fine =
      let read : value_at eq a ≡ value_at eq b = λ i q. same.0 q i in (
        reply_is a command one c first ok ∙ ((λ i. reply_to (read i) (same.1 i) command) ∙ sym (reply_is b command other d second fine)),
        (
          λ q. reads_are a command one c first ok q ∙ ((λ i. reads_then (read i) command q) ∙ sym (reads_are b command other d second fine q)),
          count_is a command one c first ok ∙ ((λ i. count_then (read i) (same.1 i) command) ∙ sym (count_is b command other d second fine)),
        ),
      )
