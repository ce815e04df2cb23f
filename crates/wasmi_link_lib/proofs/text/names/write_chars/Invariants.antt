use Rattle.std.proofs.Common.{◌≡◌, ◌++◌, string_bytes}
use Rattle.std.specs.Str.{IsUtf8}
use Rattle.std.specs.Str.Iter.{chars_rest}
use Rattle.wasmi_link_lib.specs.Report.{name_text}
use Rattle.wasmi_link_lib.proofs.text.names.write_chars.Given as goal

abbrev pub invariant-loop-c : goal.invariant-loop-c
invariant-loop-c g l =
    IsUtf8 (chars_rest l.c-iterator)
    × (string_bytes l.text ++ name_text (chars_rest l.c-iterator) ≡ string_bytes l.initial.text ++ name_text l.name)
