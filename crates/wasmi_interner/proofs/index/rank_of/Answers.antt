use Rattle.std.proofs.Common.{◌≡◌, ◌∙◌, [], ap, get_or, subst, sym}
use Rattle.std.proofs.lemmas.Option.{get_or_from_slice_get}
use Rattle.wasmi_interner.specs.inner.Hash.{hash_of}
use Rattle.wasmi_interner.specs.inner.Index.{IsRestOf, orders_with, text_at}
use Rattle.wasmi_interner.specs.Search.{IsFound}
use Rattle.wasmi_interner.proofs.Filing.{rest_searchable}
use Rattle.wasmi_interner.proofs.index.rank_of.Goals as goal

pub rank_in-requires-clause-in_order : goal.rank_in-requires-clause-in_order
rank_in-requires-clause-in_order g c =
    let sought = c.new-sought.result in let entries = c.args.rest.now.entries in
    rest_searchable sought.texts.now sought.hash sought.text.now sought.hashed entries (subst (λ texts. IsRestOf texts entries) (sym c.new-sought.ensures.texts) c.requires.sorted)

pub returns : goal.returns
returns g c =
    let sought = c.new-sought.result in let texts = c.args.texts.now in let entry = c.args.entry.now in
    let text : sought.text.now ≡ text_at texts entry =
    c.new-sought.ensures.text ∙ sym (ap (λ k. get_or texts k []) (sym c.into_usize.ensures.number) ∙ get_or_from_slice_get texts c.into_usize.result c.get.result.now [] c.get.ensures) in
    let hash : sought.hash ≡ entry.hash = sought.hashed ∙ (ap hash_of text ∙ sym c.requires.entry.hash) in
    subst (λ orders. IsFound orders c.rank_in.result) (λ i. orders_with (c.new-sought.ensures.texts i) (hash i) (text i) c.args.rest.now.entries) c.rank_in.ensures.found
