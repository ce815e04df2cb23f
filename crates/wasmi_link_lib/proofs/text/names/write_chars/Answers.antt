use Rattle.std.proofs.Common.{refl}
use Rattle.std.proofs.lemmas.Str.{IsUtf8-past_char}
use Rattle.wasmi_link_lib.proofs.ReportLemmas.{name_more, name_end}
use Rattle.wasmi_link_lib.proofs.text.names.write_chars.Goals as goal

pub loop-c-init : goal.loop-c-init
loop-c-init g c = rw (c.into_iter-c-iterator.ensures.into_iter_gives, c.chars-c-items.ensures.rest) (c.utf8.name, refl)

pub loop-c-preserved : goal.loop-c-preserved
loop-c-preserved g c =
    let inv = c.loop-c.invariant in
    let parts = c.in-Some.ensures.steps.0 in
    (IsUtf8-past_char _ _ _ inv.0 parts, name_more _ _ _ _ _ _ inv.0 parts inv.1 c.in_ok-write_char.ensures)

pub returns : goal.returns
returns g c = name_end _ _ _ c.in-None.ensures.steps.0.0 c.loop-c.invariant.1
