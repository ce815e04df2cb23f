-- What a set replies, and what it becomes, follows from what is in it and how many elements it has.
-- for src/laws.rt
use Rattle.std.proofs.Common.{◌≡◌, ℕ, ◌+◌, ◌-◌, Bool, true, false, not, cond, List, length, refl, sym, ap, ◌∙◌, arith}
use Rattle.std.specs.Set.{is_member}
use Rattle.wasmi_collections.specs.MapCalls.{one_if}
use Rattle.wasmi_collections.specs.SetSteps.{SetStep, SameElements, AcceptsSetCommand}
use Rattle.wasmi_collections.specs.declared.run.set.SetCommand.{SetCommand}
use Rattle.wasmi_collections.specs.declared.run.set.SetCommand.TheVariants.{Insert, Remove, Has, Len, Clear}
use Rattle.wasmi_collections.specs.declared.run.set.SetReply.{SetReply}
use Rattle.wasmi_collections.specs.declared.run.set.SetReply.TheVariants.{Flag, Len as LenReply, Done, Refused}

module _ {T : Type 0} (eq : T → T → Bool) where
  -- of a set that has the elements of which `f` is true, n of them: the reply to a command, what is in it
  -- then, and how many elements it has then
  abbrev reply_to : (T → Bool) → ℕ → SetCommand T → SetReply
  reply_to f n (Insert element) = Flag (not (f element))
  reply_to f n (Remove element) = Flag (f element)
  reply_to f n (Has element) = Flag (f element)
  reply_to f n Len = LenReply n
  reply_to f n Clear = Done

  abbrev has_then : (T → Bool) → SetCommand T → T → Bool
  has_then f (Insert element) q = cond (eq element q) true (f q)
  has_then f (Remove element) q = cond (eq element q) false (f q)
  has_then f (Has element) q = f q
  has_then f Len q = f q
  has_then f Clear q = false

  abbrev count_then : (T → Bool) → ℕ → SetCommand T → ℕ
  count_then f n (Insert element) = n + one_if (not (f element))
  count_then f n (Remove element) = n - one_if (f element)
  count_then f n (Has element) = n
  count_then f n Len = n
  count_then f n Clear = 0

  reply_is : (old : List T) (command : SetCommand T) (reply : SetReply) (new : List T) → SetStep eq old command reply new → AcceptsSetCommand reply
      → reply ≡ reply_to (is_member eq old) (length old) command
  reply_is old (Insert element) (Flag added) new step ok = ap Flag step.added_is
  reply_is old (Remove element) (Flag there) new step ok = ap Flag step.there_is
  reply_is old (Has element) (Flag found) new step ok = ap Flag step.0
  reply_is old Len (LenReply len) new step ok = ap LenReply step.0
  reply_is old Clear Done new step ok = refl
  reply_is old command (Refused error) new step ok = absurd ok
  reply_is old command reply new step ok = absurd step

  members_are : (old : List T) (command : SetCommand T) (reply : SetReply) (new : List T) → SetStep eq old command reply new → AcceptsSetCommand reply
      → (q : T) → is_member eq new q ≡ has_then (is_member eq old) command q
  members_are old (Insert element) (Flag added) new step ok q = step.changes q
  members_are old (Remove element) (Flag there) new step ok q = step.changes q
  members_are old (Has element) (Flag found) new step ok q = ap (λ xs. is_member eq xs q) step.1
  members_are old Len (LenReply len) new step ok q = ap (λ xs. is_member eq xs q) step.1
  members_are old Clear Done new step ok q = ap (λ xs. is_member eq xs q) step
  members_are old command (Refused error) new step ok q = absurd ok
  members_are old command reply new step ok q = absurd step

  count_is : (old : List T) (command : SetCommand T) (reply : SetReply) (new : List T) → SetStep eq old command reply new → AcceptsSetCommand reply
      → length new ≡ count_then (is_member eq old) (length old) command
  count_is old (Insert element) (Flag added) new step ok = rw (← step.added_is) step.counted
  count_is old (Remove element) (Flag there) new step ok = rw (← step.there_is) (let counted = step.counted in omega (arith, counted))
  count_is old (Has element) (Flag found) new step ok = ap length step.1
  count_is old Len (LenReply len) new step ok = ap length step.1
  count_is old Clear Done new step ok = ap length step
  count_is old command (Refused error) new step ok = absurd ok
  count_is old command reply new step ok = absurd step

  -- so one set replies as another with the same elements, and they stay the same
  pub SetStep-alike : (a b : List T) (command : SetCommand T) (one other : SetReply) (c d : List T) → SameElements eq a b → SetStep eq a command one c → SetStep eq b command other d → AcceptsSetCommand one → AcceptsSetCommand other
      → (one ≡ other) × SameElements eq c d
  SetStep-alike a b command one other c d same first second ok fine =
      let has : is_member eq a ≡ is_member eq b = λ i q. same.0 q i in (
        reply_is a command one c first ok ∙ ((λ i. reply_to (has i) (same.1 i) command) ∙ sym (reply_is b command other d second fine)),
        (
          λ q. members_are a command one c first ok q ∙ ((λ i. has_then (has i) command q) ∙ sym (members_are b command other d second fine q)),
          count_is a command one c first ok ∙ ((λ i. count_then (has i) (same.1 i) command) ∙ sym (count_is b command other d second fine)),
        ),
      )
