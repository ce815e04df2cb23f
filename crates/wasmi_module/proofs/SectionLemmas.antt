-- Reading sections.
-- for src/sections.rt
use Rattle.std.proofs.Common.{◌≡◌, ℕ, length, List, [], ◌∷◌, ◌++◌, true, Option, Some, None, refl, sym, ap, subst, ◌∙◌, inl, inr}
use Rattle.std.specs.Prelude.{IfSome, IfNone, slice_get}
use Rattle.std.specs.Option.{is_some}
use Rattle.std.proofs.lemmas.List.{append-nil}
use Rattle.wasmi_module.specs.Texts.{Each}
use Rattle.wasmi_module.specs.inner.Reading.{Reads}
use Rattle.wasmi_module.specs.Numbers.{IsU32}
use Rattle.wasmi_module.specs.Format.{IsVector}
use Rattle.wasmi_module.specs.Sections.{IsSection, AreCustoms, IsSectionOf, IsNext, IsAny}
use Rattle.wasmi_module.proofs.ReadLemmas.{reads-then, reads-byte_then, reads-u32_at, reads-is, reads-as, reads-each_push}

first_is : (b number : ℕ) (before mid : List ℕ) → slice_get before 0 ≡ Some number → before ≡ b ∷ mid → b ≡ number
first_is b number before mid h e = let k = rw e at h in cc

pub reads-section : {b : ℕ} (number len : ℕ) (contents : List ℕ) {before : List ℕ} (mid next : List ℕ) {after : List ℕ} → slice_get before 0 ≡ Some number → before ≡ b ∷ mid → Reads (IsU32 len) mid next → next ≡ contents ++ after → length contents ≡ len → Reads (IsSection number contents) before after
reads-section {b} number len contents {before} mid next {after} is e number_read parts same =
    let known = reads-u32_at len (length contents) mid next (sym same) number_read in
    let rest = reads-then next known (reads-is contents next after parts) in
    reads-byte_then mid (first_is b number before mid is e) e rest

customs_more : (contents before mid after : List ℕ) → Reads AreCustoms before mid → Reads (IsSection 0 contents) mid after → Reads AreCustoms before after
customs_more contents before mid after customs one =
    let so_far : Reads (Each (IsSection 0) customs.is_text.customs) before mid = record { text = customs.text; is_text = customs.is_text.written; parts = customs.parts } in
    let all = reads-each_push (IsSection 0) customs.is_text.customs contents before mid after so_far one in
    reads-as (Each (IsSection 0) (customs.is_text.customs ++ contents ∷ [])) AreCustoms before after (λ text h. record { customs = customs.is_text.customs ++ contents ∷ []; written = h }) all

-- One more custom section was found.
pub reads-customs_more : (found : Option (List ℕ)) (before mid after : List ℕ) → true ≡ is_some found → IfSome found (λ contents. Reads (IsSection 0 contents) mid after) → Reads AreCustoms before mid → Reads AreCustoms before after
reads-customs_more None before mid after is one customs = absurd cc
reads-customs_more (Some contents) before mid after is one customs = customs_more contents before mid after customs one

-- A section was found, or none.
pub reads-any : (found : Option (List ℕ)) (number : ℕ) (before after : List ℕ) → IfSome found (λ contents. Reads (IsSection number contents) before after) → IfNone found (after ≡ before) → Reads (IsAny number) before after
reads-any None number before after one none = record { text = []; is_text = inr refl; parts = sym none }
reads-any (Some contents) number before after one none = reads-as (IsSection number contents) (IsAny number) before after (λ text h. inl (contents, h)) one

-- A section is left out.
pub reads-left_out : {X : Type 0} (W : X → List ℕ → Type 0) (number : ℕ) (before mid after : List ℕ) → Reads AreCustoms before mid → after ≡ mid → Reads (IsNext number W []) before after
reads-left_out W number before mid after customs e =
    reads-then mid customs (record { text = []; is_text = inr (refl, refl); parts = sym e })

-- A section is there, and its items are all of its contents.
pub reads-there : {X : Type 0} (W : X → List ℕ → Type 0) (xs : List X) (number : ℕ) (contents rest before mid after : List ℕ) → Reads AreCustoms before mid → Reads (IsSection number contents) mid after → Reads (IsVector W xs) contents rest → rest ≡ [] → Reads (IsNext number W xs) before after
reads-there W xs number contents rest before mid after customs section items end =
    let whole : contents ≡ items.text = items.parts ∙ ap (λ (t : List ℕ). items.text ++ t) end ∙ append-nil items.text in
    let is_items = subst (λ (t : List ℕ). IsVector W xs t) (sym whole) items.is_text in
    reads-then mid customs
    (reads-as (IsSection number contents) (IsSectionOf number W xs) mid after (λ text h. inl (record { contents = contents; items = is_items; written = h })) section)
