use Rattle.wasmi_collections.proofs.Dedup.{position-by_view}
use Rattle.std.specs.Str.{bytes_eq}
use Rattle.std.specs.String.{string_bytes}
use Rattle.wasmi_collections.proofs.laws.strings.strings_by_bytes.Goals as goal

pub returns : goal.returns
returns g c texts text = position-by_view bytes_eq string_bytes text texts
