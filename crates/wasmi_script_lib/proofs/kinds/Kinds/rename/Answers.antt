use Rattle.std.proofs.Common.{◌≡◌, ℕ, List, [], map, string_bytes, Some, None, slice_set, slice_index_or, is_ok, is_some, ap, sym, refl, ◌∙◌, true≢false}
use Rattle.std.specs.declared.string.String.{String}
use Rattle.std.proofs.lemmas.Option.{get_or_from_slice_get, slice_get-get_or, same_Some}
use Rattle.wasmi_collections.specs.Dedup.{DedupState}
use Rattle.wasmi_collections.specs.Interner.{symbol_of}
use Rattle.wasmi_script_lib.proofs.StoreLemmas.{either_way, no_place_found, place_found, renamed-again, renamed-set}
use Rattle.wasmi_script_lib.proofs.kinds.Kinds.rename.Goals as goal

abbrev texts_of : {A : Type 0} → DedupState (String A) → List (List ℕ)
texts_of kinds = map string_bytes kinds.handed

pub invariant_of-self-in-None : goal.invariant_of-self-in-None
invariant_of-self-in-None g c =
    let old = c.self.inside.texts in
    let absent : symbol_of (texts_of old) c.args.kind.now ≡ None = no_place_found _ c.in-None.ensures.value in
    let value = c.in_ok-from_str-in-None.field-0 in
    either_way c.replace.result
    (λ there replaces. let told = c.texts_handed_in.ensures.replaced old c.replace.new.self c.args.number value there (rw c.in_ok-from_str-in-None.ensures.ok absent) replaces in told.1 ∙ (ap (λ (texts : List (List ℕ)). slice_set texts c.args.number (string_bytes value)) c.self.invariant ∙ sym told.0))
    (λ same. rw same c.self.invariant) c.replace.ensures.ok c.replace.ensures.err

pub returns-in-Some-clause-ok : goal.returns-in-Some-clause-ok
returns-in-Some-clause-ok g c =
    let old = c.self.inside.texts in
    let found = place_found c.in-Some.there _ c.in-Some.ensures.value in
    let reads = c.symbols_of_distinct_texts.ensures.reads (texts_of old) c.args.kind.now c.in-Some.there found in
    rw (← c.self.view_is) (renamed-again (texts_of old) c.args.number c.args.kind.now (rw (← c.if-there-number.true) reads))

pub returns-in-Some-clause-duplicate : goal.returns-in-Some-clause-duplicate
returns-in-Some-clause-duplicate g c =
    let old = c.self.inside.texts in
    let found = place_found c.in-Some.there _ c.in-Some.ensures.value in
    let reads = c.symbols_of_distinct_texts.ensures.reads (texts_of old) c.args.kind.now c.in-Some.there found in
    rw (← c.self.view_is) (λ is. absurd (true≢false (ap is_ok is)), λ has. absurd (has.0 (get_or_from_slice_get (texts_of old) c.args.number c.args.kind.now [] (rw (← c.if-there-number.true) reads))))

pub returns-in-Some-2-clause-duplicate : goal.returns-in-Some-2-clause-duplicate
returns-in-Some-2-clause-duplicate g c =
    let old = c.self.inside.texts in
    let found = place_found c.in-Some.there _ c.in-Some.ensures.value in
    let distinct = c.texts_handed_in.ensures.distinct old.handed c.len.ensures.distinct in
    let low = rw (← c.self.view_is) at c.requires in
    rw (← c.self.view_is) (
      λ is. (
        λ same. c.if-there-number.false (same_Some c.in-Some.there c.args.number (sym found ∙ c.symbols_of_distinct_texts.ensures.stands (texts_of old) c.args.kind.now c.args.number distinct (slice_get-get_or (texts_of old) c.args.number [] low ∙ ap Some same))),
        ap is_some found,
      ),
      λ has. refl,
    )

pub returns-in-Some-2-clause-same : goal.returns-in-Some-2-clause-same
returns-in-Some-2-clause-same g c =
    let old = c.self.inside.texts in
    let found = place_found c.in-Some.there _ c.in-Some.ensures.value in
    let distinct = c.texts_handed_in.ensures.distinct old.handed c.len.ensures.distinct in
    let low = rw (← c.self.view_is) at c.requires in
    rw (← c.self.view_is) (λ same. absurd (c.if-there-number.false (same_Some c.in-Some.there c.args.number (sym found ∙ c.symbols_of_distinct_texts.ensures.stands (texts_of old) c.args.kind.now c.args.number distinct (slice_get-get_or (texts_of old) c.args.number [] low ∙ ap Some same)))))

pub returns-in_ok-replace-in-None-clause-ok : goal.returns-in_ok-replace-in-None-clause-ok
returns-in_ok-replace-in-None-clause-ok g c =
    let old = c.self.inside.texts in
    let absent : symbol_of (texts_of old) c.args.kind.now ≡ None = no_place_found _ c.in-None.ensures.value in
    let value = c.in_ok-from_str-in-None.field-0 in
    let told = c.texts_handed_in.ensures.replaced old c.replace.new.self c.args.number value c.in_ok-replace-in-None.field-0 (rw c.in_ok-from_str-in-None.ensures.ok absent) c.in_ok-replace-in-None.ensures.ok in
    let low = rw (← c.self.view_is) at c.requires in
    rw (← c.self.view_is) (told.0 ∙ (ap (slice_set (texts_of old) c.args.number) c.in_ok-from_str-in-None.ensures.ok ∙ renamed-set (slice_index_or (texts_of old) c.args.number []) c.args.kind.now (texts_of old) c.args.number (c.texts_handed_in.ensures.distinct old.handed c.len.ensures.distinct) (slice_get-get_or (texts_of old) c.args.number [] low)))
