-- What a parsed line asks for.
use Rattle.wasmi_script_lib.specs.Requests as request
use Rattle.wasmi_script_lib.specs.declared.line.Command.{Command}
use Rattle.wasmi_script_lib.specs.declared.line.Command.TheVariants.{Alloc, Get, Place, Count, Dedup, Intern, Resolve, AddEntity, SetProperty, RenameKind, GetEntity}

-- the request of a line, which has its texts and numbers
abbrev pub meaning_of : Command → request.Request
meaning_of (Alloc text) = request.Alloc text.now
meaning_of (Get key) = request.Get key
meaning_of (Place index) = request.Place index
meaning_of Count = request.Count
meaning_of (Dedup text) = request.Dedup text.now
meaning_of (Intern text) = request.Intern text.now
meaning_of (Resolve symbol) = request.Resolve symbol
meaning_of (AddEntity name kind) = request.AddEntity name.now kind.now
meaning_of (SetProperty key property) = request.SetProperty key property
meaning_of (RenameKind key kind) = request.RenameKind key kind.now
meaning_of (GetEntity key) = request.GetEntity key
