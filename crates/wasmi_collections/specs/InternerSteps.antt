-- The steps of an interner, what each command may be replied to, and what it leaves.
use Rattle.std.specs.Prelude.{◌≡◌, ℕ, List, length, Option, Some, None, string_bytes}
use Rattle.wasmi_interner.specs.Interner.{symbol_of, Interns, RefusesText}
use Rattle.wasmi_collections.specs.declared.run.interner.InternCommand.{InternCommand}
use Rattle.wasmi_collections.specs.declared.run.interner.InternCommand.TheVariants.{Intern, Find, Len}
use Rattle.wasmi_collections.specs.declared.run.interner.InternReply.{InternReply}
use Rattle.wasmi_collections.specs.declared.run.interner.InternReply.TheVariants.{Sym, Found, Len as LenReply, Refused}

-- from old, the interner may give this reply to the command and go on to new.
-- From b, `Intern a` is replied to by `Sym 1`, and leaves b, a.
abbrev pub InternStep : List (List ℕ) → InternCommand → InternReply → List (List ℕ) → Type 0
InternStep old (Intern text hint) (Sym symbol) new = Interns old (string_bytes text) symbol new
InternStep old (Intern text hint) (Refused error) new = RefusesText old (string_bytes text) error × (new ≡ old)
InternStep old (Find text) (Found symbol) new = (symbol ≡ symbol_of old (string_bytes text)) × (new ≡ old)
InternStep old Len (LenReply len) new = (len ≡ length old) × (new ≡ old)
-- no other reply is given
InternStep old (Intern text hint) (Found symbol) new = ⊥
InternStep old (Intern text hint) (LenReply len) new = ⊥
InternStep old (Find text) (Sym symbol) new = ⊥
InternStep old (Find text) (LenReply len) new = ⊥
InternStep old (Find text) (Refused error) new = ⊥
InternStep old Len (Sym symbol) new = ⊥
InternStep old Len (Found symbol) new = ⊥
InternStep old Len (Refused error) new = ⊥

-- the text that a command interns, if it does
abbrev pub text_to_intern : InternCommand → Option (List ℕ)
text_to_intern (Intern text hint) = Some (string_bytes text)
text_to_intern (Find text) = None
text_to_intern Len = None
