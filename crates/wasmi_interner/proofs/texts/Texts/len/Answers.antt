use Rattle.std.proofs.Common.{string_bytes, arith}
use Rattle.wasmi_interner.proofs.JoinedTexts.{length-texts_at}
use Rattle.wasmi_interner.proofs.texts.Texts.len.Goals as goal

pub returns : goal.returns
returns g c =
    let texts = c.self.inside in
    rw (← c.self.view_is) (omega (arith, c.len.ensures, length-texts_at (string_bytes texts.joined) texts.parts.items))
