use Rattle.std.proofs.Common.{◌≡◌, ◌++◌, ◌∷◌, [], ap, arith, length, subst}
use Rattle.std.proofs.lemmas.List.{length_push}
use Rattle.wasmi_interner.specs.inner.Index.{IsIndexOf}
use Rattle.wasmi_interner.specs.declared.entry.Entry.{Entry}
use Rattle.wasmi_interner.proofs.Filing.{inserted}
use Rattle.wasmi_interner.proofs.string_interner.StringInterner.get_or_intern_with_hint.Goals as goal

pub invariant_of-self-2 : goal.invariant_of-self-2
invariant_of-self-2 g c =
    let before = c.self.inside.texts in let sought = c.new-sought.result in let small = c.in-Ok-try_from.ensures in
    let entry : Entry = record { hash = sought.hash; symbol = c.from_u32-symbol.result } in
    let now = c.insert.new.self in let held = c.reserve.new.self in
    let last : entry.symbol ≡ length sought.texts.now = omega (arith, c.from_u32-symbol.ensures, small.1, c.len.ensures, ap length c.new-sought.ensures.texts) in
    let is : IsIndexOf (sought.texts.now ++ sought.text.now ∷ []) now.slots now.rest.entries =
    inserted sought.texts.now held.slots held.rest c.in_ok-place.ensures.indexed sought.text.now c.in-Err.ensures.absent entry last sought.hashed sought.hash sought.hashed
    c.in_ok-place.place c.in_ok-place.ensures.ready now.slots now.rest.entries c.insert.ensures in
    rw c.in_ok-push.ensures.ok (
      subst (λ texts. IsIndexOf texts now.slots now.rest.entries) (λ i. c.new-sought.ensures.texts i ++ c.new-sought.ensures.text i ∷ []) is,
      omega (arith, length_push before c.args.text.now, small.0, c.len.ensures),
    )
