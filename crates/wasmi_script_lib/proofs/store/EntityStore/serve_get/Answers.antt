use Rattle.std.proofs.Common.{◌≡◌, ℕ, List, length, Err, Option, None, Some, codes, decimal, slice_get, string_bytes, ap, ◌∙◌}
use Rattle.std.proofs.lemmas.Option.{slice_get_past}
use Rattle.wasmi_script_lib.specs.Store.{Entity}
use Rattle.wasmi_script_lib.proofs.EntityLemmas.{not_past, under_key}
use Rattle.wasmi_script_lib.proofs.ReplyLemmas.{is_text}
use Rattle.wasmi_script_lib.proofs.store.EntityStore.serve_get.Goals as goal

-- an entity of this name and this kind
abbrev named : List ℕ → List ℕ → Option ℕ → Entity
named name kind property = record { name = name; kind = kind; property = property }

pub returns-in_default-clause-reply : goal.returns-in_default-clause-reply
returns-in_default-clause-reply g c =
    rw (slice_get_past c.args.self.now.entities c.args.number c.in_default.ensures.absent) c.reply_error.ensures.reply

pub returns-in_ok-writeln-in-Ok-default-default-Some-clause-reply : goal.returns-in_ok-writeln-in-Ok-default-default-Some-clause-reply
returns-in_ok-writeln-in-Ok-default-default-Some-clause-reply g c =
    let found = c.in-Ok-default-default-Some in
    let at : slice_get c.args.self.now.entities c.args.number ≡ Some (record { name = found.name.now; kind = found.kind.now; property = Some found.property }) =
    under_key (slice_get c.args.self.now.entities) (named found.name.now found.kind.now) c.in-Some.key c.args.number found.field-0-2 (Some found.property) c.in-Some.ensures.there.0 found.ensures.entity found.field-0-2-is in
    rw at (c.in_ok-writeln-in-Ok-default-default-Some.ensures.bytes ∙ is_text (string_bytes c.args.replies.now) (decimal found.property) found.name.now found.kind.now)

pub returns-in_ok-writeln-in-Ok-default-default-None-clause-reply : goal.returns-in_ok-writeln-in-Ok-default-default-None-clause-reply
returns-in_ok-writeln-in-Ok-default-default-None-clause-reply g c =
    let found = c.in-Ok-default-default-None in
    let at : slice_get c.args.self.now.entities c.args.number ≡ Some (record { name = found.name.now; kind = found.kind.now; property = None }) =
    under_key (slice_get c.args.self.now.entities) (named found.name.now found.kind.now) c.in-Some.key c.args.number found.field-0-2 None c.in-Some.ensures.there.0 found.ensures.entity found.field-0-2-is in
    rw at (c.in_ok-writeln-in-Ok-default-default-None.ensures.bytes ∙ is_text (string_bytes c.args.replies.now) (codes "none") found.name.now found.kind.now)

pub returns-in-Err-clause-reply : goal.returns-in-Err-clause-reply
returns-in-Err-clause-reply g c = absurd (not_past c.in-Some.key c.args.number (length c.args.self.now.entities) c.in-Some.ensures.there (c.in-Err.ensures.out_of_bounds.0 (ap Err c.in-Err.ensures.errors)))
