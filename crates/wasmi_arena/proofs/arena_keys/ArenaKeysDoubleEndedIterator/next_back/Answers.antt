use Rattle.std.proofs.Common.{◌≡◌, refl, ℕ, ◌+◌, ◌-◌, map, ◌++◌, [], ◌∷◌, ◌∙◌, ap, arith}
use Rattle.std.specs.List.{range_with_len}
use Rattle.std.proofs.lemmas.List.FromFn.{length-map-range_with_len, map-range_with_len_more}
use Rattle.wasmi_arena.specs.Keys.{Keys}
use Rattle.wasmi_arena.proofs.arena_keys.ArenaKeysDoubleEndedIterator.next_back.Goals as goal

-- the last of the keys, behind the others
last_key : {K : Type 0} (keys : Keys K) (next left : ℕ) → (left ≡ 0 → ⊥) → map keys.key (range_with_len next left) ≡ map keys.key (range_with_len next (left - 1)) ++ keys.key (next + (left - 1)) ∷ []
last_key keys next left some =
    let more : left ≡ left - 1 + 1 = omega (arith, some) in
    ap (λ n. map keys.key (range_with_len next n)) more ∙ map-range_with_len_more keys.key next (left - 1) (next + (left - 1)) refl

pub returns-clause-steps : goal.returns-clause-steps
returns-clause-steps g c = rw (← c.self.view_is, c.key_at.ensures) (last_key g.Key.ArenaKey.keys c.self.inside.next c.self.inside.left c.if-self-eq0.false)

pub returns-clause-goes : goal.returns-clause-goes
returns-clause-goes g c =
    let keys = g.Key.ArenaKey.keys in let next = c.self.inside.next in let left = c.self.inside.left in
    rw (← c.self.view_is) (record {
      on = λ _. (tt, tt, omega (arith, length-map-range_with_len keys.key next left, length-map-range_with_len keys.key next (left - 1), c.if-self-eq0.false));
      keeps = tt;
      rests = λ _. tt;
    })
