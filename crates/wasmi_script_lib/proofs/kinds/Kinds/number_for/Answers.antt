use Rattle.std.proofs.Common.{ℕ, List, [], ◌∷◌, ◌++◌, map, string_bytes, ap, sym, ◌∙◌}
use Rattle.std.specs.declared.string.String.{String}
use Rattle.std.proofs.lemmas.List.{length-map}
use Rattle.std.proofs.lemmas.Result.{IfOk-weaker}
use Rattle.wasmi_collections.specs.Dedup.{DedupState}
use Rattle.wasmi_script_lib.proofs.StoreLemmas.{with_new-reads}
use Rattle.wasmi_script_lib.proofs.kinds.Kinds.number_for.Goals as goal

abbrev texts_of : {A : Type 0} → DedupState (String A) → List (List ℕ)
texts_of kinds = map string_bytes kinds.handed

pub returns-clause-reads : goal.returns-clause-reads
returns-clause-reads g c =
    let old = c.self.inside.texts in let new = c.alloc_str.new.self in
    with_new-reads c.alloc_str.result (texts_of old) (texts_of new) c.args.kind.now
    (λ place is. let found = c.alloc_str.ensures.there place is in (found.0, ap texts_of found.1, c.symbols_of_distinct_texts.ensures.reads (texts_of old) c.args.kind.now place is))
    (λ absent. IfOk-weaker c.alloc_str.result _ _ (λ key given. let told = c.texts_handed_in.ensures.allocated old new given.0 key (rw given.1 absent) given.2 in (told.0 ∙ sym (length-map old.handed string_bytes), told.1 ∙ ap (λ (text : List ℕ). texts_of old ++ text ∷ []) given.1)) (c.alloc_str.ensures.new absent))
