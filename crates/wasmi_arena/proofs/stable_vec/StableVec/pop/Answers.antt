use Rattle.std.proofs.Common.{◌≡◌, ℕ, ◌+◌, ◌-◌, ◌<◌, refl, sym, ◌∙◌, arith}
use Rattle.std.proofs.lemmas.Bool.{false≢true}
use Rattle.std.proofs.lemmas.List.{nil_from_length}
use Rattle.wasmi_arena.proofs.Apart.{len_is}
use Rattle.wasmi_arena.proofs.Doubling.{fewest-le, place-le_max}
use Rattle.wasmi_arena.proofs.LaidOut.{items_of-pop, IsLaidOut-pop, last_in_place, popped}
use Rattle.wasmi_arena.proofs.stable_vec.StableVec.pop.Goals as goal

-- the last index is one below the length
before_last : {len : ℕ} → 0 < len → len ≡ len - 1 + 1
before_last some = omega arith

pub pop_from-item-requires-clause-last : goal.pop_from-item-requires-clause-last
pop_from-item-requires-clause-last g c =
    last_in_place c.self.invariant c.place-place.ensures.place (before_last (omega (arith, c.if-self-eq0.false)))

pub start_of-self-inside-requires : goal.start_of-self-inside-requires
start_of-self-inside-requires g c = rw c.buckets_before-self-inside.ensures (fewest-le _ (place-le_max c.place-place.ensures.place))

pub invariant_of-self : goal.invariant_of-self
invariant_of-self g c =
    rw (c.pop_from-item.ensures.bucket, c.start_of-self-inside.ensures, c.buckets_before-self-inside.ensures)
    (IsLaidOut-pop c.self.invariant c.place-place.ensures.place (before_last (omega (arith, c.if-self-eq0.false))))

pub returns-clause-rest : goal.returns-clause-rest
returns-clause-rest g c =
    rw (c.pop_from-item.ensures.bucket, ← c.self.view_is, ← c.self.invariant.items_counted)
    (items_of-pop c.self.invariant c.place-place.ensures.place (before_last (omega (arith, c.if-self-eq0.false))))

pub returns-clause-items : goal.returns-clause-items
returns-clause-items g c =
    let last = before_last (omega (arith, c.if-self-eq0.false)) in
    rw (c.pop_from-item.ensures.bucket, items_of-pop c.self.invariant c.place-place.ensures.place last, ← c.self.view_is)
    (popped c.self.invariant c.place-place.ensures.place last _ c.pop_from-item.ensures.item).1

pub returns-clause-value : goal.returns-clause-value
returns-clause-value g c =
    let last = before_last (omega (arith, c.if-self-eq0.false)) in
    rw (← c.self.view_is, ← c.self.invariant.items_counted) (sym (popped c.self.invariant c.place-place.ensures.place last _ c.pop_from-item.ensures.item).0)

pub returns-then-self-eq0-clause-some : goal.returns-then-self-eq0-clause-some
returns-then-self-eq0-clause-some g c =
    let none = nil_from_length c.args.self.now (sym (len_is c.self.invariant _ c.self.view_is) ∙ c.if-self-eq0.true) in rw none (λ never. absurd (false≢true never), λ some. absurd (omega arith))

pub returns-then-self-eq0-clause-value : goal.returns-then-self-eq0-clause-value
returns-then-self-eq0-clause-value g c =
    let none = nil_from_length c.args.self.now (sym (len_is c.self.invariant _ c.self.view_is) ∙ c.if-self-eq0.true) in rw none refl

pub returns-then-self-eq0-clause-rest : goal.returns-then-self-eq0-clause-rest
returns-then-self-eq0-clause-rest g c =
    let none = nil_from_length c.args.self.now (sym (len_is c.self.invariant _ c.self.view_is) ∙ c.if-self-eq0.true) in rw none refl
