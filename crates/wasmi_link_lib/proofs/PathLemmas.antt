-- The parts of a path.
-- for src/path.rt
use Rattle.std.proofs.Common.{◌≡◌, ℕ, List, [], ◌∷◌, ◌++◌, take, drop, None, refl, sym, ap, ◌∙◌, inl, inr, lit<, get_or, eqb, subst, append_assoc, take-append-drop}
use Rattle.std.specs.List.{Contains}
use Rattle.std.specs.Str.{NoCharPasses}
use Rattle.std.proofs.lemmas.List.{get_or_default}
use Rattle.std.specs.Str.Pattern.{RFindsChar, SplitsAroundMatch}
use Rattle.std.proofs.lemmas.Str.Pattern.{NoCharPasses-char, drop_at_char}
use Rattle.wasmi_link_lib.specs.Paths.{IsFileName}

-- the place of a slash among some bytes
no_slash : (bytes : List ℕ) (there : Contains bytes 47) → get_or bytes there.0 0 ≡ 47
no_slash bytes there = get_or_default bytes there.0 0 47 there.1 ∙ there.2

-- what stands behind the last slash
pub behind_slash : (path front file : List ℕ) → SplitsAroundMatch (RFindsChar 47) path front file → IsFileName path file
behind_slash path front file split =
    let i = split.0 in let j = split.1 in
    let finds = split.2 in
    let front_is = split.3 in let file_is = split.4 in
    record {
      folder = front ++ 47 ∷ [];
      parts = sym (take-append-drop i path) ∙ ap (λ t. take i path ++ t) (drop_at_char 47 path i j finds.1 (lit< tt))
          ∙ ap (λ t. t ++ 47 ∷ drop j path) (sym front_is) ∙ ap (λ t. front ++ 47 ∷ t) (sym file_is) ∙ sym (append_assoc front (47 ∷ []) file);
      ended = inr (front, refl);
      last = λ there. NoCharPasses-char 47 file there.0 (subst (NoCharPasses (λ d. eqb d 47)) (sym file_is) finds.0) (lit< tt) there.1 (no_slash file there);
    }

-- where there is none, all of it
pub without_slash : (path : List ℕ) → RFindsChar 47 path None → IsFileName path path
without_slash path none = record {
  folder = [];
  parts = refl;
  ended = inl refl;
  last = λ there. NoCharPasses-char 47 path there.0 none (lit< tt) there.1 (no_slash path there);
}
