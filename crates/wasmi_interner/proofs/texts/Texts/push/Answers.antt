use Rattle.std.proofs.Common.{◌≡◌, length, string_bytes, arith}
use Rattle.wasmi_interner.proofs.JoinedTexts.{AreJoined-push, texts_at-push}
use Rattle.wasmi_interner.proofs.texts.Texts.push.Goals as goal

pub invariant_of-self-2 : goal.invariant_of-self-2
invariant_of-self-2 g c =
    let old = c.self.inside in let start : c.len-start.result ≡ length (string_bytes old.joined) = omega (arith, c.len-start.ensures) in
    rw (c.in_ok-push_str.ensures.bytes, c.push_reserved.ensures.items, c.in_ok-reserve.ensures.items, start) (AreJoined-push (string_bytes old.joined) c.args.text.now c.utf8.text 0 old.parts.items c.self.invariant)

pub returns-clause-ok : goal.returns-clause-ok
returns-clause-ok g c =
    let old = c.self.inside in let start : c.len-start.result ≡ length (string_bytes old.joined) = omega (arith, c.len-start.ensures) in
    rw (c.in_ok-push_str.ensures.bytes, c.push_reserved.ensures.items, c.in_ok-reserve.ensures.items, start, ← c.self.view_is) (texts_at-push (string_bytes old.joined) c.args.text.now 0 old.parts.items c.self.invariant)
