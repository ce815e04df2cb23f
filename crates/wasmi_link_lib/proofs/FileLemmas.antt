-- The modules in files.
-- for src/files.rt
use Rattle.std.proofs.Common.{◌≡◌, ◌≢◌, Result, Ok, Err, ℕ, ◌+◌, ◌<◌, List, [], ◌∷◌, ◌++◌, map, take, get_or, length, zero, suc, sym, ap, ◌∙◌, subst, inl, inr, arith}
use Rattle.std.specs.List.{AllZip}
use Rattle.std.specs.Prelude.{IfErr, IsSomeAnd, slice_get}
use Rattle.std.specs.Result.{IsErrAnd}
use Rattle.std.proofs.lemmas.List.{take_more, map_push}
use Rattle.std.proofs.lemmas.Slice.Zip.{all_zipped_more}
use Rattle.wasmi_link_lib.specs.declared.files.File.{File}
use Rattle.wasmi_link_lib.specs.declared.files.LinkError.{LinkError}
use Rattle.wasmi_link_lib.specs.declared.files.LinkError.TheVariants.{NotAModule, Refused}
use Rattle.wasmi_link_lib.specs.declared.named.NamedModule as rust_named
use Rattle.wasmi_module.specs.declared.error.DecodeError.{DecodeError}
use Rattle.wasmi_module.specs.declared.error.DecodeError.TheVariants.{NoMemory}
use Rattle.wasmi_module.specs.Modules.{Module}
use Rattle.wasmi_module.specs.Sections.{IsWritten}
use Rattle.wasmi_module.specs.Valid.{IsValid}
use Rattle.wasmi_link_lib.specs.Files.{IsIn, IsNoModule, IsRefusal}
use Rattle.wasmi_link_lib.specs.inner.Files.{IsShortage}
use Rattle.wasmi_link_lib.specs.Linking.{Named, AreValid, linked, named_of}

-- one more module
pub one_more_file : {A : Type 0} (files : List File) (place : ℕ) (file : File) (old new : List (rust_named.NamedModule A)) (next : rust_named.NamedModule A) (other : File)
    → place < length files → file ≡ get_or files place other → AllZip IsIn (take place files) (map named_of old) → IsIn file (named_of next)
    → new ≡ old ++ next ∷ [] → AllZip IsIn (take (place + 1) files) (map named_of new)
one_more_file files place file old new next other within is so_far here added =
    let more = all_zipped_more IsIn (take place files) (map named_of old) file (named_of next) so_far here in
    let left : AllZip IsIn (take (place + 1) files) (map named_of old ++ named_of next ∷ []) =
    subst (λ fs. AllZip IsIn fs (map named_of old ++ named_of next ∷ [])) (sym (take_more files place other within ∙ ap (λ f. take place files ++ f ∷ []) (sym is))) more in
    subst (AllZip IsIn (take (place + 1) files)) (sym (ap (map named_of) added ∙ map_push named_of old next)) left

-- modules that files are writings of are valid
pub valid_in : (files : List File) (modules : List Named) → AllZip IsIn files modules → AreValid modules
valid_in [] [] there k d within = absurd (omega arith)
valid_in [] (m ∷ ms) there k d within = absurd there
valid_in (f ∷ fs) [] there k d within = absurd there
valid_in (f ∷ fs) (m ∷ ms) there zero d within = there.0.valid
valid_in (f ∷ fs) (m ∷ ms) there (suc k) d within = valid_in fs ms there.1 k d (omega arith)

-- a shortage is why there is no report on files
pub refusal-shortage : (files : List File) (modules : List Named) → AllZip IsIn files modules → (error : LinkError) → IsShortage (linked modules) error → IsRefusal files error
refusal-shortage files modules read (NotAModule place error) short = absurd short
refusal-shortage files modules read (Refused error) (inl memory) = inl memory
refusal-shortage files modules read (Refused error) (inr (keys, past)) = inr (keys, modules, read, past)

-- where bytes are refused, no module is in the file
pub no_module : {T : Type 0} (file : File) (error : DecodeError) (r : Result T DecodeError) → IsErrAnd r (λ e. e ≡ error)
    → (error ≢ NoMemory → (m : Module) → IsWritten m file.bytes.now → ¬ (IsValid m)) → IfErr r (λ e. e ≢ NoMemory → IsNoModule file)
no_module file error (Ok x) is none = tt
no_module file error (Err e) is none = λ other named there. none (λ memory. other (is ∙ memory)) named.body there.written there.valid

pub file_at : (P : File → Type 0) (files : List File) (place : ℕ) (other : File) → place < length files → P (get_or files place other) → IsSomeAnd (slice_get files place) P
file_at P [] place other within holds = absurd (omega arith)
file_at P (f ∷ fs) zero other within holds = holds
file_at P (f ∷ fs) (suc place) other within holds = file_at P fs place other (omega arith) holds
