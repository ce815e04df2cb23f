use Rattle.std.proofs.Common.{◌≡◌, ◌∙◌, ap, arith, true≢false, sym, inl, inr, get_or}
use Rattle.std.proofs.lemmas.Bool.{cases_eq}
use Rattle.std.proofs.lemmas.Option.{get_or_from_slice_get, slice_get_within}
use Rattle.wasmi_interner.specs.inner.HashTable.{Puts, is_marker, met_in, says}
use Rattle.wasmi_interner.specs.declared.entry.Entry.{Entry}
use Rattle.wasmi_interner.proofs.Filing.{all_carried, put_contains, put_kept}
use Rattle.wasmi_interner.proofs.Meeting.{says_rest}
use Rattle.wasmi_interner.proofs.index.Index.doubled.Goals as goal

pub loop-place-preserved : goal.loop-place-preserved
loop-place-preserved g c =
    let was = c.loop-place.invariant in let old = c.loop-place.slots in let new = c.put.new.self in let slot = c.at-slot.result in
    let all = c.args.self.now.slots.slots in
    let puts : Puts old slot new = c.put.ensures c.if-not-put.false in
    record {
      met = λ k d below full. elim (cases_eq k c.loop-place.place) [
        | inl here ↦
            let at : get_or all k d ≡ slot = ap (λ i. get_or all i d) here ∙ get_or_from_slice_get all c.loop-place.place slot d c.at-slot.ensures in
            ap (λ (e : Entry). met_in new e.hash) at ∙ (puts.met ∙ ap says (sym at))
        | inr before ↦ put_kept old slot new puts (get_or all k d) (was.met k d (omega (arith, below, before)) full)
      ];
      within = λ other full plain there. elim (put_contains old slot new puts other there) [
        | inl same ↦ (c.loop-place.place, slice_get_within all c.loop-place.place slot c.at-slot.ensures, get_or_from_slice_get all c.loop-place.place slot other c.at-slot.ensures ∙ sym same)
        | inr inside ↦ was.within other full plain inside
      ];
    }

pub loop-rank-preserved : goal.loop-rank-preserved
loop-rank-preserved g c =
    let was = c.loop-rank.invariant in let old = c.loop-rank.slots in let new = c.put-in-loop-rank.new.self in let slot = c.marker.result in
    let all = c.args.self.now.slots.slots in let entries = c.args.self.now.rest.entries in
    let puts : Puts old slot new = c.put-in-loop-rank.ensures c.if-not-put-2.false in
    record {
      met = λ k d below full. put_kept old slot new puts (get_or all k d) (was.met k d below full);
      within = λ other full plain there. elim (put_contains old slot new puts other there) [
        | inl same ↦ absurd (true≢false (sym c.marker.ensures.marks ∙ (ap is_marker (sym same) ∙ plain)))
        | inr inside ↦ was.within other full plain inside
      ];
      marked = λ k d below. elim (cases_eq k c.loop-rank.rank) [
        | inl here ↦
            let at : get_or entries k d ≡ c.at.result = ap (λ i. get_or entries i d) here ∙ get_or_from_slice_get entries c.loop-rank.rank c.at.result d c.at.ensures in
            ap (λ (e : Entry). met_in new e.hash) at ∙ (ap (met_in new) (sym c.marker.ensures.hash) ∙ (puts.met ∙ says_rest slot c.marker.ensures.marks))
        | inr before ↦
            let is = was.marked k d (omega (arith, below, before)) in
            puts.others (get_or entries k d).hash (λ none. (cc)) ∙ is
      ];
    }

pub returns : goal.returns
returns g c =
    let is = c.loop-rank.invariant in
    all_carried c.args.self.now.slots c.args.self.now.rest.entries c.loop-rank.slots is.met (λ k d below. is.marked k d (omega (arith, below, c.loop-rank-test.false, c.len-rank-end.ensures))) is.within
