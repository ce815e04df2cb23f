-- What a report on files says.
use Rattle.std.specs.Prelude.{◌≡◌, ◌≢◌, ◌⊎◌, ℕ, List, take, slice_get, IsSomeAnd}
use Rattle.std.specs.List.{AllZip}
use Rattle.wasmi_module.specs.Sections.{IsWritten}
use Rattle.wasmi_module.specs.Valid.{IsValid}
use Rattle.wasmi_arena.specs.declared.error.ArenaError.TheVariants.{NotEnoughKeys, OutOfSystemMemory}
use Rattle.wasmi_module.specs.declared.error.DecodeError.TheVariants.{NoMemory}
use Rattle.wasmi_link_lib.specs.declared.files.File.{File}
use Rattle.wasmi_link_lib.specs.declared.files.LinkError.{LinkError}
use Rattle.wasmi_link_lib.specs.declared.files.LinkError.TheVariants.{NotAModule, Refused}
use Rattle.wasmi_link_lib.specs.Paths.{IsModuleName}
use Rattle.wasmi_link_lib.specs.Report.{report_text, status_of}
use Rattle.wasmi_link_lib.specs.Linking.{IsPastKeys, Named, linked}

-- the bytes of the file are a writing of this module, which has the name that the path tells
pub record IsIn (file : File) (named : Named) : Type 0 where
  pub name : IsModuleName file.path.now named.name
  pub written : IsWritten named.body file.bytes.now
  pub valid : IsValid named.body

-- no module, of whatever name, is in the file
abbrev pub IsNoModule : File → Type 0
IsNoModule file = (named : Named) → ¬ (IsIn file named)

-- the text and the status are those of linking the modules in the files
pub record Tells (files : List File) (text : List ℕ) (status : ℕ) : Type 0 where
  pub modules : List Named
  pub read : AllZip IsIn files modules
  pub reported : text ≡ report_text (linked modules)
  pub ended : status ≡ status_of (linked modules)

-- there is no memory
abbrev pub IsWantOfMemory : LinkError → Type 0
IsWantOfMemory error = error ≡ Refused OutOfSystemMemory

-- the file at a place is no module, and those before it are modules; there is no memory; or the files are writings of
-- modules, and what linking these finds out is past the keys
abbrev pub IsRefusal : List File → LinkError → Type 0
IsRefusal files (NotAModule place error) = IsSomeAnd (slice_get files place) IsNoModule × (error ≢ NoMemory) × (before : List Named) × AllZip IsIn (take place files) before
IsRefusal files (Refused error) =
    (error ≡ OutOfSystemMemory)
    ⊎ ((error ≡ NotEnoughKeys) × (modules : List Named) × AllZip IsIn files modules × IsPastKeys (linked modules))
