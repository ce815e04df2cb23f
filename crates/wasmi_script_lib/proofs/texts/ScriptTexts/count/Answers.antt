use Rattle.std.proofs.Common.{decimal, length, string_bytes, sym, ◌∙◌}
use Rattle.std.proofs.lemmas.List.{length-map}
use Rattle.wasmi_arena.specs.Geometry.{slots}
use Rattle.wasmi_script_lib.proofs.ReplyLemmas.{OnOk-same, counts_text}
use Rattle.wasmi_script_lib.proofs.texts.ScriptTexts.count.Goals as goal

pub returns : goal.returns
returns g c =
    let inside = c.args.self.now in
    let kept = length inside.arena in
    let deduped = length inside.dedup.handed in
    let interned = length inside.interner in
    let deduped_is = c.len-deduped.ensures.value ∙ sym c.len-deduped.ensures.lists in
    let written = rw (c.len-kept.ensures.value, deduped_is, c.len-interned.ensures.value, c.slots-slots.ensures.value, c.items.ensures) at c.writeln.ensures.bytes in
    simp length-map (OnOk-same _ _ _ _ (counts_text (string_bytes c.args.replies.now) (decimal kept) (decimal deduped) (decimal interned) (decimal (slots kept))) written)
