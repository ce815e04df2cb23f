-- To compare symbols is to compare texts, and what a table by symbols has after a name was noted.
-- for src/firsts.rt, src/exports.rt
use Rattle.std.proofs.Common.{◌≡◌, ◌≢◌, ℕ, Bool, true, false, cond, ◌&&◌, ◌==◌, List, [], get_or, Option, Some, None, IsSome, is_some, bytes_eq, refl, sym, ap, ◌∙◌, eqb-true, eq-eqb, ne_eqb, inl, inr, true≢false}
use Rattle.std.specs.Bool.{one_answer}
use Rattle.std.specs.Option.{option_or}
use Rattle.std.proofs.lemmas.Bool.{cases_eq}
use Rattle.std.proofs.lemmas.List.Quantifiers.{position-Some}
use Rattle.std.proofs.lemmas.Option.{none-some, same_Some}
use Rattle.std.proofs.lemmas.Slice.Eq.{bytes_eq-Decides}
use Rattle.wasmi_interner.specs.Interner.{symbol_of}
use Rattle.wasmi_dense.specs.Components.{component_at, ChangesAt}
use Rattle.wasmi_map_specs.specs.Maps.{value_at}
use Rattle.wasmi_link_lib.specs.declared.exports.Place.{Place}
use Rattle.wasmi_link_lib.specs.inner.Tables.{Notes, export_key_eq, place_in}

pub nothing : {V : Type 0} (o : Option V) (b : Bool) → b ≡ is_some o → b ≡ false → o ≡ None
nothing None b is_b is_false = refl
nothing (Some v) b is_b is_false = absurd (true≢false (sym is_b ∙ is_false))

pub something : {V : Type 0} (o : Option V) (b : Bool) → b ≡ is_some o → b ≡ true → IsSome o
something o b is_b is_true = sym is_b ∙ is_true

-- a component changes at one number
pub component_changes : {V : Type 0} (old new : List (Option V)) (n : ℕ) (slot : Option V) → ChangesAt old n slot new → (q : ℕ) → component_at new q ≡ cond (n == q) slot (component_at old q)
component_changes old new n slot changes q =
    elim (cases_eq n q) [
      | inl same ↦ ap (component_at new) (sym same) ∙ changes.there ∙ sym (ap (λ b. cond b slot (component_at old q)) (eq-eqb n q same))
      | inr apart ↦ changes.elsewhere q (λ e. apart (sym e)) ∙ sym (ap (λ b. cond b slot (component_at old q)) (ne_eqb n q apart))
    ]

-- and an entry at one key
module _ (old new : List ((ℕ × ℕ) × Place)) (id noted : ℕ) (slot : Option Place) (changes : (q : ℕ × ℕ) → value_at export_key_eq new q ≡ cond (export_key_eq (id, noted) q) slot (value_at export_key_eq old q)) where
  pub place_changes : (q : ℕ) → place_in new id q ≡ cond (noted == q) slot (place_in old id q)
  place_changes q = changes (id, q) ∙ ap (λ b. cond (b && (noted == q)) slot (place_in old id q)) (eq-eqb id id refl)

  pub place_stays : (other symbol : ℕ) → other ≢ id → place_in new other symbol ≡ place_in old other symbol
  place_stays other symbol apart =
      changes (other, symbol) ∙ ap (λ b. cond (b && (noted == symbol)) slot (place_in old other symbol)) (ne_eqb id other (λ e. apart (sym e)))

-- an entry that is put where there is none
pub place_tried : (old new : List ((ℕ × ℕ) × Place)) (id noted : ℕ) (slot : Option Place) → (IsSome (place_in old id noted) → new ≡ old)
    → (place_in old id noted ≡ None → (q : ℕ × ℕ) → value_at export_key_eq new q ≡ cond (export_key_eq (id, noted) q) slot (value_at export_key_eq old q))
    → (other symbol : ℕ) → other ≢ id → place_in new other symbol ≡ place_in old other symbol
place_tried old new id noted slot there absent other symbol apart = step (place_in old id noted) refl
  where
    step : (o : Option Place) → place_in old id noted ≡ o → place_in new other symbol ≡ place_in old other symbol
    step None is = place_stays old new id noted slot (absent is) other symbol apart
    step (Some p) is = ap (λ es. place_in es other symbol) (there (ap is_some is))

-- a symbol reads its text
symbol_reads : (names : List (List ℕ)) (text : List ℕ) (symbol : ℕ) → symbol_of names text ≡ Some symbol → text ≡ get_or names symbol []
symbol_reads names text symbol is = (bytes_eq-Decides text _).0 (position-Some (bytes_eq text) names symbol [] is).1

module _ (names : List (List ℕ)) (name : List ℕ) (noted : ℕ) (is_noted : symbol_of names name ≡ Some noted) where
  pub same_symbol : (text : List ℕ) (symbol : ℕ) → symbol_of names text ≡ Some symbol → bytes_eq text name ≡ (noted == symbol)
  same_symbol text symbol is =
      one_answer (bytes_eq text name) (noted == symbol) (bytes_eq-Decides text name) (
        λ e. symbol_reads names text symbol is ∙ sym (ap (λ k. get_or names k []) (eqb-true noted symbol e)) ∙ sym (symbol_reads names name noted is_noted),
        λ e. eq-eqb noted symbol (same_Some noted symbol (sym is_noted ∙ sym (ap (symbol_of names) e) ∙ is)),
      )

  module _ {V : Type 0} (old new : ℕ → Option V) (value : V) where
    -- a name that has nothing yet
    pub notes_new : old noted ≡ None → ((q : ℕ) → new q ≡ cond (noted == q) (Some value) (old q)) → Notes names old name value new
    notes_new none changes text symbol is = changes symbol ∙ (step (noted == symbol) refl ∙ sym (ap (λ b. option_or (old symbol) (cond b (Some value) None)) (same_symbol text symbol is)))
      where
        plain : (o : Option V) → o ≡ option_or o None
        plain None = refl
        plain (Some v) = refl

        step : (b : Bool) → (noted == symbol) ≡ b → cond b (Some value) (old symbol) ≡ option_or (old symbol) (cond b (Some value) None)
        step true e = sym (ap (λ o. option_or o (Some value)) (sym (ap old (eqb-true noted symbol e)) ∙ none))
        step false e = plain (old symbol)

  -- a name that has something
  pub notes_there : {V : Type 0} (old : ℕ → Option V) (value : V) → IsSome (old noted) → Notes names old name value old
  notes_there {V} old value there text symbol is = step (old symbol) (bytes_eq text name) refl refl
    where
      step : (o : Option V) (b : Bool) → old symbol ≡ o → bytes_eq text name ≡ b → o ≡ option_or o (cond b (Some value) None)
      step (Some v) b is_o is_b = refl
      step None false is_o is_b = refl
      step None true is_o is_b =
          let here : noted ≡ symbol = eqb-true noted symbol (sym (same_symbol text symbol is) ∙ is_b) in
          absurd (true≢false (sym there ∙ ap is_some (ap old here ∙ is_o)))

  -- a name that is noted where it has nothing
  pub notes_tried : {V : Type 0} (old new : ℕ → Option V) (value : V) → (IsSome (old noted) → (q : ℕ) → new q ≡ old q) → (old noted ≡ None → (q : ℕ) → new q ≡ cond (noted == q) (Some value) (old q)) → Notes names old name value new
  notes_tried {V} old new value there absent = step (old noted) refl
    where
      step : (o : Option V) → old noted ≡ o → Notes names old name value new
      step None is = notes_new old new value is (absent is)
      step (Some v) is = λ text symbol has. there (ap is_some is) symbol ∙ notes_there old value (ap is_some is) text symbol has

-- a name without a symbol
pub notes_unknown : {V : Type 0} (names : List (List ℕ)) (old : ℕ → Option V) (name : List ℕ) (value : V) → symbol_of names name ≡ None → Notes names old name value old
notes_unknown {V} names old name value unknown text symbol is = step (old symbol) (bytes_eq text name) refl
  where
    step : (o : Option V) (b : Bool) → bytes_eq text name ≡ b → o ≡ option_or o (cond b (Some value) None)
    step (Some v) b is_b = refl
    step None false is_b = refl
    step None true is_b = absurd (none-some symbol (sym unknown ∙ sym (ap (symbol_of names) ((bytes_eq-Decides text name).0 is_b)) ∙ is))
