use Rattle.std.proofs.Common.{Err, ap, inl, inr}
use Rattle.wasmi_link_lib.proofs.files.link_modules.Goals as goal

pub returns-in-Err-clause-errors : goal.returns-in-Err-clause-errors
returns-in-Err-clause-errors g c =
    elim c.in-Err.ensures.errors [
      | inl keys ↦ inr (keys, c.in-Err.ensures.keys (ap Err keys))
      | inr memory ↦ inl memory
    ]
