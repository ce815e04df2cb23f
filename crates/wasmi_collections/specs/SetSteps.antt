-- The steps of a set, what each command may be replied to, and what it leaves.
use Rattle.std.specs.Prelude.{◌≡◌, Bool, List, [], length}
use Rattle.std.specs.Set.{is_member}
use Rattle.wasmi_collections.specs.SetCalls.{PutsElement, TakesElement, RefusesElement}
use Rattle.wasmi_collections.specs.declared.run.set.SetCommand.{SetCommand}
use Rattle.wasmi_collections.specs.declared.run.set.SetCommand.TheVariants.{Insert, Remove, Has, Len, Clear}
use Rattle.wasmi_collections.specs.declared.run.set.SetReply.{SetReply}
use Rattle.wasmi_collections.specs.declared.run.set.SetReply.TheVariants.{Flag, Len as LenReply, Done, Refused}

module _ {T : Type 0} (eq : T → T → Bool) where
  -- from old, the set may give this reply to the command and go on to new
  abbrev pub SetStep : List T → SetCommand T → SetReply → List T → Type 0
  SetStep old (Insert element) (Flag added) new = PutsElement eq old element added new
  SetStep old (Insert element) (Refused error) new = RefusesElement eq old element error × (new ≡ old)
  SetStep old (Remove element) (Flag there) new = TakesElement eq old element there new
  SetStep old (Has element) (Flag found) new = (found ≡ is_member eq old element) × (new ≡ old)
  SetStep old Len (LenReply len) new = (len ≡ length old) × (new ≡ old)
  SetStep old Clear Done new = new ≡ []
  -- no other reply is given
  SetStep old (Insert element) (LenReply len) new = ⊥
  SetStep old (Insert element) Done new = ⊥
  SetStep old (Remove element) (LenReply len) new = ⊥
  SetStep old (Remove element) Done new = ⊥
  SetStep old (Remove element) (Refused error) new = ⊥
  SetStep old (Has element) (LenReply len) new = ⊥
  SetStep old (Has element) Done new = ⊥
  SetStep old (Has element) (Refused error) new = ⊥
  SetStep old Len (Flag found) new = ⊥
  SetStep old Len Done new = ⊥
  SetStep old Len (Refused error) new = ⊥
  SetStep old Clear (Flag found) new = ⊥
  SetStep old Clear (LenReply len) new = ⊥
  SetStep old Clear (Refused error) new = ⊥

  -- two lists of elements are one set: the same elements are in both, and there are as many
  abbrev pub SameElements : List T → List T → Type 0
  SameElements a b = ((q : T) → is_member eq a q ≡ is_member eq b q) × (length a ≡ length b)

  -- the third set has an element exactly where `op` says so of whether the first has it, and the second.
  -- With `or` it is their union.
  abbrev pub IsCombined : (Bool → Bool → Bool) → List T → List T → List T → Type 0
  IsCombined op xs ys zs = (q : T) → is_member eq zs q ≡ op (is_member eq xs q) (is_member eq ys q)

-- the reply doesn't say that the command was refused
abbrev pub AcceptsSetCommand : SetReply → Type 0
AcceptsSetCommand (Flag flag) = Unit {0}
AcceptsSetCommand (LenReply len) = Unit {0}
AcceptsSetCommand Done = Unit {0}
AcceptsSetCommand (Refused error) = ⊥
