use Rattle.std.proofs.Common.{◌+◌, ◌-◌, ◌∙◌, arith, ap, refl, slice_get, subst, sym}
use Rattle.wasmi_interner.proofs.BinaryDigits.{digits_le, digits_double, digits_least}
use Rattle.wasmi_interner.proofs.Halves.{in_order, narrowed_low, narrowed_high, none_left}
use Rattle.wasmi_interner.specs.inner.Search.{IsInOrder, IsNarrowed}
use Rattle.wasmi_interner.proofs.probe.search.Goals as goal

pub look-requires-clause-countable : goal.look-requires-clause-countable
look-requires-clause-countable g c =
    omega (arith, c.loop-left.invariant.few, digits_le c.args.len, c.requires.countable)

pub overflow_add-result : goal.overflow_add-result
overflow_add-result g c =
    omega (arith, c.loop-left.invariant.narrowed.within, c.half_of-half.ensures.less, c.ranges.len.fits)

pub loop-left-preserved-in-Less : goal.loop-left-preserved-in-Less
loop-left-preserved-in-Less g c =
    let now = c.loop-left.invariant in let low = c.loop-left.low in let left = c.loop-left.left in let half = c.half_of-half.result in
    let some = c.half_of-half.ensures.less in let rest = c.half_of-half.ensures.half in let tick = c.in-Less.ensures.counted in
    let ordered = subst (IsInOrder (slice_get (g.P.Probe.orders c.args.probe.now))) (sym c.requires.whole) (in_order _ c.requires.in_order) in
    record {
      narrowed = narrowed_low _ c.args.len ordered low (low + left) (low + half) (low + (left - half)) (low + (left - half) + half) now.narrowed
          (omega (arith, some)) (omega (arith, rest, some)) (omega arith) (omega (arith, some))
          (ap (λ orders. slice_get orders (low + half)) (sym now.kept) ∙ c.in-Less.ensures.order);
      kept = c.in-Less.ensures.kept ∙ now.kept;
      few = omega (arith, now.few, tick, c.half_of-half.ensures.digit);
      more = λ less. omega (arith, now.none, tick);
      none = omega (arith, now.none, tick);
      many = omega (arith, now.many, tick, digits_double (half + 1) (left + 1) (omega (arith, rest)));
    }

pub loop-left-preserved : goal.loop-left-preserved
loop-left-preserved g c =
    let now = c.loop-left.invariant in let low = c.loop-left.low in let left = c.loop-left.left in let half = c.half_of-half.result in
    let some = c.half_of-half.ensures.less in let rest = c.half_of-half.ensures.half in let tick = c.in-Greater.ensures.counted in
    let ordered = subst (IsInOrder (slice_get (g.P.Probe.orders c.args.probe.now))) (sym c.requires.whole) (in_order _ c.requires.in_order) in
    record {
      narrowed = narrowed_high _ c.args.len ordered low (low + left) (low + half) low (low + half) now.narrowed
          (omega arith) (omega (arith, some)) refl refl
          (ap (λ orders. slice_get orders (low + half)) (sym now.kept) ∙ c.in-Greater.ensures.order);
      kept = c.in-Greater.ensures.kept ∙ now.kept;
      few = omega (arith, now.few, tick, c.half_of-half.ensures.digit);
      more = λ less. omega (arith, now.none, tick);
      none = omega (arith, now.none, tick);
      many = omega (arith, now.many, tick, digits_double (half + 1) (left + 1) (omega (arith, rest)));
    }

pub returns-clause-found : goal.returns-clause-found
returns-clause-found g c =
    let now = c.loop-left.invariant in let low = c.loop-left.low in
    none_left _ low (low + c.loop-left.left) (omega (arith, c.loop-left-test.false))
    (subst (λ n. IsNarrowed (slice_get (g.P.Probe.orders c.args.probe.now)) n low (low + c.loop-left.left)) c.requires.whole now.narrowed)

pub returns-clause-many_looks : goal.returns-clause-many_looks
returns-clause-many_looks g c =
    omega (arith, c.loop-left.invariant.many, digits_least (c.loop-left.left + 1) 1 (omega (arith, c.loop-left-test.false)))
