use Rattle.std.proofs.Common.{◌≡◌, ltb, true, false, string_bytes, decimal}
use Rattle.std.proofs.lemmas.Bool.{le-ltb, lt-ltb}
use Rattle.wasmi_arena.specs.Geometry.{max_len, bucket_of, slot_of}
use Rattle.wasmi_script_lib.proofs.ReplyLemmas.{OnOk-same, place_text}
use Rattle.wasmi_script_lib.proofs.texts.ScriptTexts.place.Goals as goal

pub returns-then-index-lt-MAX_LEN : goal.returns-then-index-lt-MAX_LEN
returns-then-index-lt-MAX_LEN g c =
    let index = c.args.index in
    let below : ltb index max_len ≡ true = lt-ltb index max_len c.if-index-lt-MAX_LEN.true in
    let written = rw (c.place-bucket.ensures.bucket, c.place-bucket.ensures.slot) at c.writeln.ensures.bytes in
    rw below
    (OnOk-same _ _ _ _ (place_text (string_bytes c.args.replies.now) (decimal (bucket_of index)) (decimal (slot_of index))) written)

pub returns-else-index-lt-MAX_LEN : goal.returns-else-index-lt-MAX_LEN
returns-else-index-lt-MAX_LEN g c =
    let above : ltb c.args.index max_len ≡ false = le-ltb _ _ c.if-index-lt-MAX_LEN.false in
    rw above c.writeln-else-index-lt-MAX_LEN.ensures.bytes
