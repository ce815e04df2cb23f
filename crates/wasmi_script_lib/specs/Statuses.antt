-- The exit status of a script's program.
use Rattle.std.specs.Prelude.{ℕ, Result, Ok, Err}
use Rattle.wasmi_script_lib.specs.declared.error.ScriptError.{ScriptError}
use Rattle.wasmi_script_lib.specs.declared.error.ScriptError.TheVariants.{NoMemory, ReadFailed, WriteFailed, NotUtf8}

-- 2 where the input is no text, and 1 where the machine let the script down
abbrev pub status_of : ScriptError → ℕ
status_of NoMemory = 1
status_of ReadFailed = 1
status_of WriteFailed = 1
status_of NotUtf8 = 2

-- 0 where the replies were written
abbrev pub exit_status_of : {T : Type 0} → Result T ScriptError → ℕ
exit_status_of (Ok done) = 0
exit_status_of (Err error) = status_of error
