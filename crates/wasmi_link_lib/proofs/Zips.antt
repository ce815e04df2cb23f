-- Two lists, element by element.
-- for src/names.rt, src/linker.rt
use Rattle.std.proofs.Common.{◌≡◌, ℕ, zero, suc, List, [], ◌∷◌, ◌++◌, fold, bytes_eq, Some, slice_get, sym, ap, ◌∙◌, subst}
use Rattle.std.specs.List.{AllZip}
use Rattle.std.proofs.lemmas.Option.{none-some, same_Some}
use Rattle.std.proofs.lemmas.Slice.Zip.{all_zipped_more}
use Rattle.wasmi_interner.specs.Interner.{symbol_of}
use Rattle.wasmi_module.specs.Modules.{Import}
use Rattle.wasmi_link_lib.specs.declared.names.ImportSymbols.{ImportSymbols}
use Rattle.wasmi_link_lib.specs.Linking.{Named, with_value}
use Rattle.wasmi_link_lib.specs.inner.Tables.{AreSymbolsOf, HasSymbols}
use Rattle.wasmi_link_lib.proofs.Lists.{fold_same}

-- what holds of two lists holds with a weaker relation
pub AllZip-weaker : {A B : Type 0} (P Q : A → B → Type 0) (weaker : (x : A) (y : B) → P x y → Q x y) (xs : List A) (ys : List B) → AllZip P xs ys → AllZip Q xs ys
AllZip-weaker P Q weaker [] [] all = tt
AllZip-weaker P Q weaker [] (y ∷ ys) all = absurd all
AllZip-weaker P Q weaker (x ∷ xs) [] all = absurd all
AllZip-weaker P Q weaker (x ∷ xs) (y ∷ ys) all = (weaker x y all.0, AllZip-weaker P Q weaker xs ys all.1)

-- what is read of both
pub AllZip-read : {A B : Type 0} (P : A → B → Type 0) (xs : List A) (ys : List B) (i : ℕ) (x : A) (y : B) → AllZip P xs ys → slice_get xs i ≡ Some x → slice_get ys i ≡ Some y → P x y
AllZip-read P [] ys i x y all is_x is_y = absurd (none-some x is_x)
AllZip-read P (a ∷ xs) [] i x y all is_x is_y = absurd all
AllZip-read P (a ∷ xs) (b ∷ ys) zero x y all is_x is_y = subst (λ c. P c y) (same_Some a x is_x) (subst (P a) (same_Some b y is_y) all.0)
AllZip-read P (a ∷ xs) (b ∷ ys) (suc i) x y all is_x is_y = AllZip-read P xs ys i x y all.1 is_x is_y

-- one more of both
pub zipped_step : {A B : Type 0} (P Q : A → B → Type 0) (weaker : (a : A) (b : B) → P a b → Q a b) (xs more : List A) (old new : List B) (x : A) (y : B) → AllZip P xs old → more ≡ xs ++ x ∷ [] → new ≡ old ++ y ∷ [] → Q x y → AllZip Q more new
zipped_step P Q weaker xs more old new x y before read pushed here =
    let joined = all_zipped_more Q xs old x y (AllZip-weaker P Q weaker xs old before) here in
    subst (AllZip Q more) (sym pushed) (subst (λ l. AllZip Q l (old ++ y ∷ [])) (sym read) joined)

-- ---- symbols, when names are added

symbol_stays : (old names : List (List ℕ)) (text : List ℕ) (symbol : ℕ) → symbol_of old text ≡ Some symbol → symbol_of (fold (with_value bytes_eq) old names) text ≡ Some symbol
symbol_stays old names text symbol is = fold_same bytes_eq (bytes_eq text) old names symbol is

pub symbols_stay : (old new names : List (List ℕ)) → new ≡ fold (with_value bytes_eq) old names → (i : Import) (s : ImportSymbols) → AreSymbolsOf old i s → AreSymbolsOf new i s
symbols_stay old new names more i s (is_asked, is_field) =
    subst (λ ns. AreSymbolsOf ns i s) (sym more) (symbol_stays old names i.asked s.asked is_asked, symbol_stays old names i.field s.field is_field)

-- one more import, whose names were taken
pub symbols_step : (old next new : List (List ℕ)) (imports more : List Import) (symbols symbols' : List ImportSymbols) (i : Import) (s : ImportSymbols)
    → AllZip (AreSymbolsOf old) imports symbols → more ≡ imports ++ i ∷ [] → symbols' ≡ symbols ++ s ∷ []
    → next ≡ with_value bytes_eq old i.asked → new ≡ with_value bytes_eq next i.field → symbol_of next i.asked ≡ Some s.asked → symbol_of new i.field ≡ Some s.field
    → AllZip (AreSymbolsOf new) more symbols'
symbols_step old next new imports more symbols symbols' i s before read pushed first second is_asked is_field =
    let both : new ≡ fold (with_value bytes_eq) old (i.asked ∷ i.field ∷ []) = second ∙ ap (λ ns. with_value bytes_eq ns i.field) first in
    let stays : symbol_of new i.asked ≡ Some s.asked = subst (λ ns. symbol_of ns i.asked ≡ Some s.asked) (sym second) (symbol_stays next (i.field ∷ []) i.asked s.asked is_asked) in
    zipped_step (AreSymbolsOf old) (AreSymbolsOf new) (symbols_stay old new (i.asked ∷ i.field ∷ []) both) imports more symbols symbols' i s before read pushed (stays, is_field)

pub all_symbols_stay : (old new names : List (List ℕ)) → new ≡ fold (with_value bytes_eq) old names → (m : Named) (symbols : List ImportSymbols) → HasSymbols old m symbols → HasSymbols new m symbols
all_symbols_stay old new names more m symbols has = AllZip-weaker (AreSymbolsOf old) (AreSymbolsOf new) (symbols_stay old new names more) m.body.imports symbols has
