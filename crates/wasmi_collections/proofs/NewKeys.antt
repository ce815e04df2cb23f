-- New keys, and new symbols, of a run come in order.
-- for src/laws/dedup.rt, src/laws/interner.rt
use Rattle.std.proofs.Common.{◌≡◌, ◌≢◌, ℕ, zero, suc, ◌+◌, ◌-◌, ◌<◌, ◌≤◌, ◌==◌, nat_le, Bool, true, false, not, List, [], ◌∷◌, drop, filter, filter_map, length, Some, slice_get, inl, inr, ◌⊎◌, refl, sym, ap, subst, ◌∙◌, arith}
use Rattle.std.proofs.lemmas.Bool.{leb-false, leb-true, eqb-true, eqb-false, le-leb, lt-leb}
use Rattle.std.proofs.lemmas.List.{length_push}
use Rattle.std.proofs.lemmas.List.Quantifiers.{position-Some}
use Rattle.std.proofs.lemmas.Option.{none-some, same_Some}
use Rattle.std.specs.Cmp.{IsEquivalence}
use Rattle.std.specs.List.{cons_option, range_with_len}
use Rattle.std.specs.Str.{bytes_eq}
use Rattle.wasmi_arena.specs.Keys.{Keys, KeyLaw}
use Rattle.wasmi_interner.specs.Interner.{Interns}
use Rattle.wasmi_collections.specs.Dedup.{DedupState, AllocatesValue, ReplacesValue}
use Rattle.wasmi_collections.specs.DedupSteps.{DedupStep}
use Rattle.wasmi_collections.specs.InternerSteps.{InternStep}
use Rattle.wasmi_collections.specs.NewKeys.{new_numbers, number_replied, symbol_replied}
use Rattle.wasmi_collections.specs.Runs.{IsRun}
use Rattle.wasmi_collections.specs.declared.run.dedup.DedupCommand.{DedupCommand}
use Rattle.wasmi_collections.specs.declared.run.dedup.DedupCommand.TheVariants.{Alloc, Put, Replace, Has, Clear}
use Rattle.wasmi_collections.specs.declared.run.dedup.DedupReply.{DedupReply}
use Rattle.wasmi_collections.specs.declared.run.dedup.DedupReply.TheVariants.{Key, Old, Has as HasReply, Done, Refused}
use Rattle.wasmi_collections.specs.declared.run.interner.InternCommand.{InternCommand}
use Rattle.wasmi_collections.specs.declared.run.interner.InternCommand.TheVariants.{Intern, Find, Len}
use Rattle.wasmi_collections.specs.declared.run.interner.InternReply.{InternReply}
use Rattle.wasmi_collections.specs.declared.run.interner.InternReply.TheVariants.{Sym, Found, Len as LenReply, Refused as InternRefused}
use Rattle.wasmi_collections.proofs.DedupRuns.{few_after, hits}
use Rattle.std.proofs.lemmas.Iterator.Adapters.{position_from-zero}
use Rattle.std.proofs.lemmas.List.{length-set}

-- ---- numbers in turn

module _ {X : Type 0} (p : X → Bool) where
  filter_twice : (xs : List X) → filter p (filter p xs) ≡ filter p xs
  filter_twice [] = refl
  filter_twice (x ∷ xs) = next (p x) refl (filter_twice xs)
    where
      next : (b : Bool) → p x ≡ b → filter p (filter p xs) ≡ filter p xs → filter p (filter p (x ∷ xs)) ≡ filter p (x ∷ xs)
      next true is rest = simp is (ap (λ (ys : List X). x ∷ ys) rest)
      next false is rest = simp is rest

module _ {X : Type 0} (p q : X → Bool) where
  filter_comm : (xs : List X) → filter p (filter q xs) ≡ filter q (filter p xs)
  filter_comm [] = refl
  filter_comm (x ∷ xs) = next (p x) (q x) refl refl (filter_comm xs)
    where
      next : (b c : Bool) → p x ≡ b → q x ≡ c → filter p (filter q xs) ≡ filter q (filter p xs) → filter p (filter q (x ∷ xs)) ≡ filter q (filter p (x ∷ xs))
      next true true is also rest = simp (is, also) (ap (λ (ys : List X). x ∷ ys) rest)
      next true false is also rest = simp (is, also) rest
      next false true is also rest = simp (is, also) rest
      next false false is also rest = simp (is, also) rest

abbrev others : ℕ → ℕ → Bool
others n m = not (m == n)

-- the new numbers but the first are those from the next one on
without_first : (from : ℕ) (ns : List ℕ) → filter (others from) (new_numbers from ns) ≡ new_numbers (from + 1) ns
without_first from [] = refl
without_first from (n ∷ ns) = next (nat_le from n) (n == from) refl refl (without_first from ns)
  where
    next : (b c : Bool) → nat_le from n ≡ b → (n == from) ≡ c → filter (others from) (new_numbers from ns) ≡ new_numbers (from + 1) ns
        → filter (others from) (new_numbers from (n ∷ ns)) ≡ new_numbers (from + 1) (n ∷ ns)
    next false c low is rest =
        let below = leb-false from n low in let above : nat_le (from + 1) n ≡ false = lt-leb (from + 1) n (omega (arith, below)) in
        rw (low, above) rest
    next true true low is rest =
        let same = eqb-true n from is in let above : nat_le (from + 1) n ≡ false = lt-leb (from + 1) n (omega (arith, same)) in
        rw (low, above, is) (ap (λ k. filter (others from) (filter (others k) (new_numbers from ns))) same ∙ (filter_twice (others from) (new_numbers from ns) ∙ rest))
    next true false low is rest =
        let most = leb-true from n low in let apart = eqb-false n from is in let above : nat_le (from + 1) n ≡ true = le-leb (from + 1) n (omega (arith, most, apart)) in
        rw (low, above, is) (ap (λ (ys : List ℕ). n ∷ ys) (filter_comm (others from) (others n) (new_numbers from ns) ∙ ap (filter (others n)) rest))

-- numbers that are handed out in turn: each is below a count, which stays, or is that count, which rises by one
abbrev Counts : ℕ → List ℕ → ℕ → Type 0
Counts from [] to = to ≡ from
Counts from (n ∷ ns) to = ((n < from) × Counts from ns to) ⊎ ((n ≡ from) × Counts (from + 1) ns to)

counts_up : (from to : ℕ) (ns : List ℕ) → Counts from ns to → from ≤ to
counts_up from to [] same = omega (arith, same)
counts_up from to (n ∷ ns) (inl below) = counts_up from to ns below.1
counts_up from to (n ∷ ns) (inr next) = let up = counts_up (from + 1) to ns next.1 in omega (arith, up)

in_turn : (from to : ℕ) (ns : List ℕ) → Counts from ns to → new_numbers from ns ≡ range_with_len from (to - from)
in_turn from to [] same = let none : to - from ≡ 0 = omega (arith, same) in sym (ap (range_with_len from) none)
in_turn from to (n ∷ ns) (inl below) =
    let low = below.0 in let old : nat_le from n ≡ false = lt-leb from n (omega (arith, low)) in
    rw old (in_turn from to ns below.1)
in_turn from to (n ∷ ns) (inr next) =
    let same = next.0 in let new : nat_le from n ≡ true = le-leb from n (omega (arith, same)) in
    let up = counts_up (from + 1) to ns next.1 in let more : to - from ≡ suc (to - (from + 1)) = omega (arith, up) in
    rw new ((λ i. next.0 i ∷ filter (others (next.0 i)) (new_numbers from ns))
    ∙ (ap (λ (ys : List ℕ). from ∷ ys) (without_first from ns ∙ in_turn (from + 1) to ns next.1) ∙ sym (ap (range_with_len from) more)))

-- ---- an interner

interned : (old : List (List ℕ)) (text : List ℕ) (symbol : ℕ) (new : List (List ℕ)) (ns : List ℕ) (to : ℕ) → Interns old text symbol new → Counts (length new) ns to → Counts (length old) (symbol ∷ ns) to
interned old text symbol new ns to (inl there) rest =
    inl ((position-Some (bytes_eq text) old symbol [] there.0).0, subst (λ (texts : List (List ℕ)). Counts (length texts) ns to) there.1 rest)
interned old text symbol new ns to (inr added) rest =
    inr (added.2, subst (λ n. Counts n ns to) (ap length added.3 ∙ length_push old text) rest)

intern_step : (old : List (List ℕ)) (command : InternCommand) (reply : InternReply) (new : List (List ℕ)) (ns : List ℕ) (to : ℕ) → InternStep old command reply new → Counts (length new) ns to
    → Counts (length old) (cons_option (symbol_replied reply) ns) to
intern_step old (Intern text hint) (Sym symbol) new ns to step rest = interned old _ symbol new ns to step rest
intern_step old (Intern text hint) (InternRefused error) new ns to step rest = subst (λ (texts : List (List ℕ)). Counts (length texts) ns to) step.1 rest
intern_step old (Find text) (Found symbol) new ns to step rest = subst (λ (texts : List (List ℕ)). Counts (length texts) ns to) step.1 rest
intern_step old Len (LenReply len) new ns to step rest = subst (λ (texts : List (List ℕ)). Counts (length texts) ns to) step.1 rest
intern_step old command reply new ns to step rest = absurd step

intern_counts : (old : List (List ℕ)) (commands : List InternCommand) (replies : List InternReply) (new : List (List ℕ)) → IsRun InternStep (λ texts. texts) old commands replies new
    → Counts (length old) (filter_map symbol_replied replies) (length new)
intern_counts old [] [] new run = ap length run
intern_counts old (c ∷ cs) (r ∷ rs) new run = intern_step old c r run.0 (filter_map symbol_replied rs) (length new) run.1 (intern_counts run.0 cs rs new run.2)
intern_counts old [] (r ∷ rs) new run = absurd run
intern_counts old (c ∷ cs) [] new run = absurd run

pub symbols_in_turn : (old new : List (List ℕ)) (commands : List InternCommand) (replies : List InternReply) → IsRun InternStep (λ texts. texts) old commands replies new
    → new_numbers (length old) (filter_map symbol_replied replies) ≡ range_with_len (length old) (length new - length old)
symbols_in_turn old new commands replies run = in_turn (length old) (length new) (filter_map symbol_replied replies) (intern_counts old commands replies new run)

-- ---- a deduplicating arena

module _ {K T : Type 0} (keys : Keys K) (law : KeyLaw keys) {eq : T → T → Bool} (laws : IsEquivalence eq) (clones : T → T → Type 0) where
  allocated : (old new : DedupState T) (value : T) (key : K) (ns : List ℕ) (to : ℕ) → length old.handed ≤ keys.count → AllocatesValue keys eq clones old value key new
      → Counts (length new.handed) ns to → Counts (length old.handed) (keys.number key ∷ ns) to
  allocated old new value key ns to few (inl found) rest =
      let hit = hits (eq value) 0 found.0 old.handed (sym (position_from-zero (eq value) old.handed) ∙ found.1) in let place = hit.place in let low = hit.within in
      let is : keys.number key ≡ found.0 = ap keys.number found.2 ∙ law.numbered found.0 (omega (arith, place, low, few)) in
      inl (omega (arith, is, place, low), subst (λ (s : DedupState T). Counts (length s.handed) ns to) found.3 rest)
  allocated old new value key ns to few (inr adds) rest =
      inr (ap keys.number adds.key_is ∙ law.numbered (length old.handed) adds.has_key, subst (λ n. Counts n ns to) (ap length adds.handed_are ∙ length_push old.handed value) rest)

  replaced : (old new : DedupState T) (key : K) (value there : T) → ReplacesValue keys eq clones old key value there new → length new.handed ≡ length old.handed
  replaced old new key value there (inl puts) = ap length puts.1.handed_are
  replaced old new key value there (inr moves) = ap length moves.handed_are ∙ length-set old.handed (keys.number key) value

  dedup_step : (old new : DedupState T) (command : DedupCommand K T) (reply : DedupReply K T) (ns : List ℕ) (to : ℕ) → length old.handed ≤ keys.count → command ≢ Clear → DedupStep keys eq clones old command reply new
      → Counts (length new.handed) ns to → Counts (length old.handed) (cons_option (number_replied keys reply) ns) to
  dedup_step old new (Alloc value) (Key key) ns to few goes step rest = allocated old new value key ns to few step rest
  dedup_step old new (Alloc value) (Refused error) ns to few goes step rest = subst (λ (s : DedupState T). Counts (length s.handed) ns to) step.1 rest
  dedup_step old new (Put k item) (Old there) ns to few goes step rest = subst (λ (xs : List T). Counts (length xs) ns to) step.handed_are rest
  dedup_step old new (Put k item) (Refused error) ns to few goes step rest = subst (λ (s : DedupState T). Counts (length s.handed) ns to) step.2 rest
  dedup_step old new (Replace k value) (Old there) ns to few goes step rest = subst (λ n. Counts n ns to) (replaced old new k value there step) rest
  dedup_step old new (Replace k value) (Refused error) ns to few goes step rest = subst (λ (s : DedupState T). Counts (length s.handed) ns to) step.1 rest
  dedup_step old new (Has k) (HasReply found) ns to few goes step rest = subst (λ (s : DedupState T). Counts (length s.handed) ns to) step.1 rest
  dedup_step old new Clear Done ns to few goes step rest = absurd (goes refl)
  dedup_step old new command reply ns to few goes step rest = absurd step

  dedup_counts : (old new : DedupState T) (commands : List (DedupCommand K T)) (replies : List (DedupReply K T)) → length old.handed ≤ keys.count → IsRun (DedupStep keys eq clones) (λ state. state) old commands replies new
      → ((place : ℕ) → slice_get commands place ≢ Some Clear) → Counts (length old.handed) (filter_map (number_replied keys) replies) (length new.handed)
  dedup_counts old new [] [] few run goes = ap (λ (s : DedupState T). length s.handed) run
  dedup_counts old new (c ∷ cs) (r ∷ rs) few run goes =
      dedup_step old run.0 c r (filter_map (number_replied keys) rs) (length new.handed) few (λ same. goes 0 (ap Some same)) run.1
      (dedup_counts run.0 new cs rs (few_after keys law laws clones old run.0 c r run.1 few) run.2 (λ place. goes (suc place)))
  dedup_counts old new [] (r ∷ rs) few run goes = absurd run
  dedup_counts old new (c ∷ cs) [] few run goes = absurd run

  pub keys_in_turn : (old new : DedupState T) (commands : List (DedupCommand K T)) (replies : List (DedupReply K T)) → length old.handed ≤ keys.count → IsRun (DedupStep keys eq clones) (λ state. state) old commands replies new
      → ((place : ℕ) → slice_get commands place ≢ Some Clear) → new_numbers (length old.handed) (filter_map (number_replied keys) replies) ≡ range_with_len (length old.handed) (length new.handed - length old.handed)
  keys_in_turn old new commands replies few run goes =
      in_turn (length old.handed) (length new.handed) (filter_map (number_replied keys) replies) (dedup_counts old new commands replies few run goes)

  cleared : (old new : DedupState T) (reply : DedupReply K T) → DedupStep keys eq clones old Clear reply new → length new.handed ≡ 0
  cleared old new Done step = ap length step.0
  cleared old new reply step = absurd step

  counts_since : (old new : DedupState T) (commands : List (DedupCommand K T)) (replies : List (DedupReply K T)) → length old.handed ≤ keys.count → IsRun (DedupStep keys eq clones) (λ state. state) old commands replies new
      → (last : ℕ) → slice_get commands last ≡ Some Clear → ((place : ℕ) → last < place → slice_get commands place ≢ Some Clear) → Counts 0 (filter_map (number_replied keys) (drop (suc last) replies)) (length new.handed)
  counts_since old new [] replies few run last at goes = absurd (none-some Clear at)
  counts_since old new (c ∷ cs) [] few run last at goes = absurd run
  counts_since old new (c ∷ cs) (r ∷ rs) few run zero at goes =
      let none = cleared old run.0 r (subst (λ (command : DedupCommand K T). DedupStep keys eq clones old command r run.0) (same_Some c Clear at) run.1) in
      subst (λ n. Counts n (filter_map (number_replied keys) rs) (length new.handed)) none
      (dedup_counts run.0 new cs rs (few_after keys law laws clones old run.0 c r run.1 few) run.2 (λ place. goes (suc place) (omega arith)))
  counts_since old new (c ∷ cs) (r ∷ rs) few run (suc last) at goes =
      counts_since run.0 new cs rs (few_after keys law laws clones old run.0 c r run.1 few) run.2 last at (λ place later. goes (suc place) (omega (arith, later)))

  pub keys_since_clear : (old new : DedupState T) (commands : List (DedupCommand K T)) (replies : List (DedupReply K T)) → length old.handed ≤ keys.count → IsRun (DedupStep keys eq clones) (λ state. state) old commands replies new
      → (last : ℕ) → slice_get commands last ≡ Some Clear → ((place : ℕ) → last < place → slice_get commands place ≢ Some Clear)
      → new_numbers 0 (filter_map (number_replied keys) (drop (last + 1) replies)) ≡ range_with_len 0 (length new.handed)
  keys_since_clear old new commands replies few run last at goes =
      let behind : last + 1 ≡ suc last = omega arith in let all : length new.handed - 0 ≡ length new.handed = omega arith in
      ap (λ n. new_numbers 0 (filter_map (number_replied keys) (drop n replies))) behind
      ∙ (in_turn 0 (length new.handed) (filter_map (number_replied keys) (drop (suc last) replies)) (counts_since old new commands replies few run last at goes) ∙ ap (range_with_len 0) all)
