-- Two values handed in to a deduplicating arena in one run have one key exactly where they are equal.
-- for src/arena/dedup.rt, src/laws.rt, src/laws/appended.rt
use Rattle.std.proofs.Common.{◌≡◌, ◌≢◌, ◌↔◌, ℕ, zero, suc, ◌+◌, ◌<◌, ◌≤◌, Bool, true, false, cond, List, [], ◌∷◌, ◌++◌, length, Some, position, slice_get, inl, inr, refl, sym, ap, ◌∙◌, subst, is_some, true≢false, IsTrue, length-append, arith}
use Rattle.std.specs.Cmp.{IsEquivalence}
use Rattle.std.specs.List.{position_from}
use Rattle.std.proofs.lemmas.List.{length-set}
use Rattle.std.proofs.lemmas.Iterator.Adapters.{position_from-zero}
use Rattle.std.proofs.lemmas.Option.{same_Some}
use Rattle.wasmi_arena.specs.Keys.{Keys, KeyLaw}
use Rattle.wasmi_collections.specs.Dedup.{DedupState, AllocatesValue, ReplacesValue}
use Rattle.wasmi_collections.specs.DedupSteps.{DedupStep, HasKey, NoneClears}
use Rattle.wasmi_collections.specs.Runs.{IsRun}
use Rattle.wasmi_collections.specs.declared.run.dedup.DedupCommand.{DedupCommand}
use Rattle.wasmi_collections.specs.declared.run.dedup.DedupCommand.TheVariants.{Alloc, Put, Replace, Has, Clear}
use Rattle.wasmi_collections.specs.declared.run.dedup.DedupReply.{DedupReply}
use Rattle.wasmi_collections.specs.declared.run.dedup.DedupReply.TheVariants.{Key, Old, Has as HasReply, Done, Refused}
use Rattle.wasmi_collections.proofs.Dedup.{position-congr}
use Rattle.wasmi_interner.proofs.Symbols.{found_last}

module _ {T : Type 0} (p : T → Bool) where
  -- what is found first stays so when more comes behind it
  stays_found : (i k : ℕ) (xs ys : List T) → position_from p i xs ≡ Some k → position_from p i (xs ++ ys) ≡ Some k
  stays_found i k [] ys is = absurd (true≢false (sym (ap is_some is)))
  stays_found i k (x ∷ xs) ys is = next (p x) is (stays_found (i + 1) k xs ys)
    where
      next : (b : Bool) → cond b (Some i) (position_from p (i + 1) xs) ≡ Some k
          → (position_from p (i + 1) xs ≡ Some k → position_from p (i + 1) (xs ++ ys) ≡ Some k)
          → cond b (Some i) (position_from p (i + 1) (xs ++ ys)) ≡ Some k
      next true is rest = is
      next false is rest = rest is

  -- it passes, and stands there
  pub record Hits (i k : ℕ) (xs : List T) : Type 0 where
    pub before : ℕ
    pub place : k ≡ i + before
    pub within : before < length xs
    pub item : T
    pub reads : slice_get xs before ≡ Some item
    pub passes : p item ≡ true

  pub hits : (i k : ℕ) (xs : List T) → position_from p i xs ≡ Some k → Hits i k xs
  hits i k [] is = absurd (true≢false (sym (ap is_some is)))
  hits i k (x ∷ xs) is = next (p x) refl is (hits (i + 1) k xs)
    where
      next : (b : Bool) → p x ≡ b → cond b (Some i) (position_from p (i + 1) xs) ≡ Some k → (position_from p (i + 1) xs ≡ Some k → Hits (i + 1) k xs) → Hits i k (x ∷ xs)
      next true hit is rest = let at = same_Some i k is in record { before = 0; place = omega (arith, at); within = omega arith; item = x; reads = refl; passes = hit }
      next false miss is rest =
          let h = rest is in let at = h.place in let low = h.within in
          record { before = suc h.before; place = omega (arith, at); within = omega (arith, low); item = h.item; reads = h.reads; passes = h.passes }

-- what has a place keeps it when more comes behind
pub position-stays : {T : Type 0} (p : T → Bool) (xs ys : List T) (k : ℕ) → position p xs ≡ Some k → position p (xs ++ ys) ≡ Some k
position-stays p xs ys k is = position_from-zero p (xs ++ ys) ∙ stays_found p 0 k xs ys (sym (position_from-zero p xs) ∙ is)

module _ {K T : Type 0} (keys : Keys K) (law : KeyLaw keys) {eq : T → T → Bool} (laws : IsEquivalence eq) (clones : T → T → Type 0) where
  -- of the values handed in, the first that is equal to this one is under this key
  record IsKeyOf (state : DedupState T) (value : T) (key : K) : Type 0 where
    few : length state.handed ≤ keys.count
    place : ℕ
    is : position_from (eq value) 0 state.handed ≡ Some place
    key_is : key ≡ keys.key place

  moved : (old new : DedupState T) (value : T) (key : K) → new.handed ≡ old.handed → IsKeyOf old value key → IsKeyOf new value key
  moved old new value key same has = record {
    few = rw same has.few;
    place = has.place;
    is = rw same has.is;
    key_is = has.key_is;
  }

  -- a value has its key from then on
  given : (old new : DedupState T) (value : T) (key : K) → length old.handed ≤ keys.count → AllocatesValue keys eq clones old value key new → IsKeyOf new value key
  given old new value key few (inl found) = record {
    few = rw found.3 few;
    place = found.0;
    is = rw found.3 (sym (position_from-zero (eq value) old.handed) ∙ found.1);
    key_is = found.2;
  }
  given old new value key few (inr adds) = record {
    few = rw adds.handed_are (let low = adds.has_key in omega (arith, low, length-append old.handed (value ∷ [])));
    place = length old.handed;
    is = rw adds.handed_are (found_last (eq value) value 0 old.handed (sym (position_from-zero (eq value) old.handed) ∙ adds.absent) (laws.refl value) ∙ ap Some (omega arith));
    key_is = adds.key_is;
  }

  more : (old new : DedupState T) (value : T) (key : K) (other : T) (other_key : K) → AllocatesValue keys eq clones old other other_key new → IsKeyOf old value key → IsKeyOf new value key
  more old new value key other other_key (inl found) has = moved old new value key (ap (λ (s : DedupState T). s.handed) found.3) has
  more old new value key other other_key (inr adds) has = record {
    few = rw adds.handed_are (let low = adds.has_key in omega (arith, low, length-append old.handed (other ∷ [])));
    place = has.place;
    is = rw adds.handed_are (stays_found (eq value) 0 has.place old.handed (other ∷ []) has.is);
    key_is = has.key_is;
  }

  -- a value that has its key is at the key's number
  pub given-known : (old new : DedupState T) (value : T) (key : K) → length old.handed ≤ keys.count → AllocatesValue keys eq clones old value key new → position (eq value) new.handed ≡ Some (keys.number key)
  given-known old new value key few allocates =
      let has = given old new value key few allocates in let low = (hits (eq value) 0 has.place new.handed has.is) in
      let at = low.place in let within = low.within in let all = has.few in
      position_from-zero (eq value) new.handed ∙ (has.is ∙ ap Some (sym (ap keys.number has.key_is ∙ law.numbered has.place (omega (arith, at, within, all)))))

  keeps : (old new : DedupState T) (value : T) (key : K) (command : DedupCommand K T) (reply : DedupReply K T) → command ≢ Clear → ((k : K) (item there : T) → command ≡ Replace k item → reply ≢ Old there)
      → DedupStep keys eq clones old command reply new → IsKeyOf old value key → IsKeyOf new value key
  keeps old new value key (Alloc other) (Key other_key) goes stays step has = more old new value key other other_key step has
  keeps old new value key (Alloc other) (Refused error) goes stays step has = moved old new value key (ap (λ (s : DedupState T). s.handed) step.1) has
  keeps old new value key (Put k item) (Old there) goes stays step has = moved old new value key step.handed_are has
  keeps old new value key (Put k item) (Refused error) goes stays step has = moved old new value key (ap (λ (s : DedupState T). s.handed) step.2) has
  keeps old new value key (Replace k item) (Old there) goes stays step has = absurd (stays k item there refl refl)
  keeps old new value key (Replace k item) (Refused error) goes stays step has = moved old new value key (ap (λ (s : DedupState T). s.handed) step.1) has
  keeps old new value key (Has k) (HasReply found) goes stays step has = moved old new value key (ap (λ (s : DedupState T). s.handed) step.1) has
  keeps old new value key Clear Done goes stays step has = absurd (goes refl)
  keeps old new value key command reply goes stays step has = absurd step

  -- in one state, keys are equal where values are
  agree : (state : DedupState T) (v w : T) (a b : K) → IsKeyOf state v a → IsKeyOf state w b → (a ≡ b) ↔ IsTrue (eq v w)
  agree state v w a b first second =
      let one = hits (eq v) 0 first.place state.handed first.is in
      let other = hits (eq w) 0 second.place state.handed second.is in
      let few = first.few in
      let low = one.within in let low2 = other.within in let at = one.place in let at2 = other.place in (
        λ same.
            let places : first.place ≡ second.place =
            sym (law.numbered first.place (omega (arith, few, low, at))) ∙ (ap keys.number (sym first.key_is ∙ (same ∙ second.key_is)) ∙ law.numbered second.place (omega (arith, few, low2, at2))) in
            let items : one.item ≡ other.item = same_Some one.item other.item (sym one.reads ∙ (ap (slice_get state.handed) (omega (arith, places, at, at2)) ∙ other.reads)) in
            laws.congr v other.item w (ap (eq v) (sym items) ∙ one.passes) ∙ (laws.symm other.item w ∙ other.passes),
        λ equal. first.key_is ∙ (ap keys.key (same_Some first.place second.place (sym first.is ∙ (position-congr laws v w equal state.handed ∙ second.is))) ∙ sym second.key_is),
      )

  -- a value that has its key, and a later one that is given one
  second_given : (old new : DedupState T) (commands : List (DedupCommand K T)) (replies : List (DedupReply K T)) → IsRun (DedupStep keys eq clones) (λ state. state) old commands replies new
      → (v w : T) (a b : K) → IsKeyOf old v a → (j : ℕ) → ((m : ℕ) → m < j → slice_get commands m ≢ Some Clear)
      → ((m : ℕ) (k : K) (item there : T) → m < j → slice_get commands m ≡ Some (Replace k item) → slice_get replies m ≢ Some (Old there)) → HasKey commands replies j w b → (a ≡ b) ↔ IsTrue (eq v w)
  second_given old new [] replies run v w a b has j goes stays at = absurd (true≢false (sym (ap is_some at.command_is)))
  second_given old new (command ∷ commands) [] run v w a b has j goes stays at = absurd run
  second_given old new (command ∷ commands) (reply ∷ replies) run v w a b has zero goes stays at =
      let step = subst (λ r. DedupStep keys eq clones old (Alloc w) r run.0) (same_Some reply (Key b) at.reply_is) (subst (λ c. DedupStep keys eq clones old c reply run.0) (same_Some command (Alloc w) at.command_is) run.1) in
      agree run.0 v w a b (more old run.0 v a w b step has) (given old run.0 w b has.few step)
  second_given old new (command ∷ commands) (reply ∷ replies) run v w a b has (suc j) goes stays at =
      second_given run.0 new commands replies run.2 v w a b (keeps old run.0 v a command reply (λ same. goes 0 (omega arith) (ap Some same)) (λ k item there same is. stays 0 k item there (omega arith) (ap Some same) (ap Some is)) run.1 has) j
      (λ m low. goes (suc m) (omega (arith, low))) (λ m k item there low. stays (suc m) k item there (omega (arith, low))) (record { command_is = at.command_is; reply_is = at.reply_is })

  few_replaced : (old new : DedupState T) (key : K) (value there : T) → ReplacesValue keys eq clones old key value there new → length old.handed ≤ keys.count → length new.handed ≤ keys.count
  few_replaced old new key value there (inl puts) few = rw puts.1.handed_are few
  few_replaced old new key value there (inr moves) few = rw (moves.handed_are, length-set old.handed (keys.number key) value) few

  pub few_after : (old new : DedupState T) (command : DedupCommand K T) (reply : DedupReply K T) → DedupStep keys eq clones old command reply new → length old.handed ≤ keys.count → length new.handed ≤ keys.count
  few_after old new (Alloc value) (Key key) step few = (given old new value key few step).few
  few_after old new (Alloc value) (Refused error) step few = rw step.1 few
  few_after old new (Put k item) (Old there) step few = rw step.handed_are few
  few_after old new (Put k item) (Refused error) step few = rw step.2 few
  few_after old new (Replace k value) (Old there) step few = few_replaced old new k value there step few
  few_after old new (Replace k value) (Refused error) step few = rw step.1 few
  few_after old new (Has k) (HasReply found) step few = rw step.1 few
  few_after old new Clear Done step few = rw step.0 (omega arith)
  few_after old new command reply step few = absurd step

  pub both_given : (old new : DedupState T) (commands : List (DedupCommand K T)) (replies : List (DedupReply K T)) → length old.handed ≤ keys.count → IsRun (DedupStep keys eq clones) (λ state. state) old commands replies new
      → (i j : ℕ) (v w : T) (a b : K) → i < j → NoneClears commands replies i j → HasKey commands replies i v a → HasKey commands replies j w b → (a ≡ b) ↔ IsTrue (eq v w)
  both_given old new [] replies few run i j v w a b order goes first second = absurd (true≢false (sym (ap is_some first.command_is)))
  both_given old new (command ∷ commands) [] few run i j v w a b order goes first second = absurd run
  both_given old new (command ∷ commands) (reply ∷ replies) few run i zero v w a b order goes first second = absurd (omega (arith, order))
  both_given old new (command ∷ commands) (reply ∷ replies) few run zero (suc j) v w a b order goes first second =
      let step = subst (λ r. DedupStep keys eq clones old (Alloc v) r run.0) (same_Some reply (Key a) first.reply_is) (subst (λ c. DedupStep keys eq clones old c reply run.0) (same_Some command (Alloc v) first.command_is) run.1) in
      second_given run.0 new commands replies run.2 v w a b (given old run.0 v a few step) j (λ m low. goes.keeps (suc m) (omega arith) (omega (arith, low)))
      (λ m k item there low. goes.replaces_none (suc m) k item there (omega arith) (omega (arith, low))) (record { command_is = second.command_is; reply_is = second.reply_is })
  both_given old new (command ∷ commands) (reply ∷ replies) few run (suc i) (suc j) v w a b order goes first second =
      both_given run.0 new commands replies (few_after old run.0 command reply run.1 few) run.2 i j v w a b (omega (arith, order)) (record { keeps = λ m high low. goes.keeps (suc m) (omega (arith, high)) (omega (arith, low)); replaces_none = λ m k item there high low. goes.replaces_none (suc m) k item there (omega (arith, high)) (omega (arith, low)) })
      (record { command_is = first.command_is; reply_is = first.reply_is }) (record { command_is = second.command_is; reply_is = second.reply_is })
