-- Two arenas of the same items answer the same commands alike.
use Rattle.std.proofs.Common.{◌≡◌, ◌≢◌, ℕ, suc, ◌+◌, ◌<◌, ◌≤◌, ◌↔◌, ◌⊎◌, inl, inr, List, [], ◌∷◌, length, take, refl, sym, ap, subst, arith, length-append, Bool, true, false, Some, IsTrue}
use Rattle.std.proofs.Math.ListN.{length-set}
use Rattle.std.proofs.lemmas.Bool.Decides.{same_from_decides}
use Rattle.std.proofs.lemmas.List.Edits.{length-swap}
use Rattle.std.proofs.lemmas.Option.{slice_get_within}
use Rattle.wasmi_arena.specs.Geometry.{max_len}
use Rattle.wasmi_arena.specs.Keys.{Keys}
use Rattle.wasmi_arena.specs.Arena.{ArenaState, AllocatesItem, PutsItem, SwapsItems, ArenaStep, ArenaRun, arena_limit, allocs_in, keys_in, NoneLacksMemory, EqualKeysRead}
use Rattle.wasmi_arena.specs.declared.error.ArenaError.TheVariants.{OutOfSystemMemory, KeyOutOfBounds, NotEnoughKeys, AliasingPairAccess, DuplicateItem}
use Rattle.wasmi_arena.specs.declared.run.ArenaCommand.{ArenaCommand}
use Rattle.wasmi_arena.specs.declared.run.ArenaCommand.TheVariants.{Alloc, Has, Put, Swap}
use Rattle.wasmi_arena.specs.declared.run.ArenaReply.{ArenaReply}
use Rattle.wasmi_arena.specs.declared.run.ArenaReply.TheVariants.{Key, Has as HasReply, Old, Done, Refused}

-- what one step has, and the other has too: the reply, and the items afterwards
module _ {K T : Type 0} (keys : Keys K) (L M : ℕ) (a b c d : ArenaState T) (same : a.items ≡ b.items) where
  abbrev Alike : ArenaReply K T → ArenaReply K T → Type 0
  Alike x y = (x ≡ y) × (c.items ≡ d.items)

  alloc_key : (item : T) (k : K) (y : ArenaReply K T) → AllocatesItem keys L a item k c → ArenaStep keys M b (Alloc item) y d
      → (length a.items < L → length a.items < M) → y ≢ Refused OutOfSystemMemory → Alike (Key k) y
  alloc_key item k (Key l) p q fit none = let k_is = p.key_is in let l_is = q.key_is in let c_is = p.items_are in let d_is = q.items_are in (cc, cc)
  alloc_key item k (Refused NotEnoughKeys) p q fit none = let below = fit p.has_key in let above = q.0 in absurd (omega (arith, ap length same))
  alloc_key item k (Refused OutOfSystemMemory) p q fit none = absurd (none refl)
  alloc_key item k (Refused KeyOutOfBounds) p q fit none = absurd q.0
  alloc_key item k (Refused AliasingPairAccess) p q fit none = absurd q.0
  alloc_key item k (Refused DuplicateItem) p q fit none = absurd q.0
  alloc_key item k y p q fit none = absurd q

  alloc_none : (item : T) (y : ArenaReply K T) → L ≤ length a.items → c.items ≡ a.items → ArenaStep keys M b (Alloc item) y d
      → (length a.items < M → length a.items < L) → y ≢ Refused OutOfSystemMemory → Alike (Refused NotEnoughKeys) y
  alloc_none item (Key l) full kept q fit none = let below : length a.items < M = (let has = q.has_key in omega (arith, ap length same)) in let under = fit below in absurd (omega arith)
  alloc_none item (Refused NotEnoughKeys) full kept q fit none = let stays = q.1.0 in (refl, cc)
  alloc_none item (Refused OutOfSystemMemory) full kept q fit none = absurd (none refl)
  alloc_none item (Refused KeyOutOfBounds) full kept q fit none = absurd q.0
  alloc_none item (Refused AliasingPairAccess) full kept q fit none = absurd q.0
  alloc_none item (Refused DuplicateItem) full kept q fit none = absurd q.0
  alloc_none item y full kept q fit none = absurd q

  has_alike : (k : K) (found : Bool) (y : ArenaReply K T) → ArenaStep keys L a (Has k) (HasReply found) c → ArenaStep keys M b (Has k) y d → Alike (HasReply found) y
  has_alike k found (HasReply other) p q =
      let test : found ≡ other = same_from_decides found other p.0 (subst (λ (items : List T). IsTrue other ↔ (keys.number k < length items)) (sym same) q.0) in
      let c_is = p.1.0 in let d_is = q.1.0 in (cc, cc)
  has_alike k found y p q = absurd q

  put_old : (k : K) (item there : T) (y : ArenaReply K T) → PutsItem keys L a k item there c → ArenaStep keys M b (Put k item) y d → Alike (Old there) y
  put_old k item there (Old other) p q =
      let one = p.there_is in let two = q.there_is in let c_is = p.items_are in let d_is = q.items_are in (cc, cc)
  put_old k item there (Refused error) p q = let within = slice_get_within a.items (keys.number k) there p.there_is in let past = q.1 in absurd (omega (arith, ap length same))
  put_old k item there y p q = absurd q

  put_refused : (k : K) (item : T) (y : ArenaReply K T) → length a.items ≤ keys.number k → c.items ≡ a.items → ArenaStep keys M b (Put k item) y d → Alike (Refused KeyOutOfBounds) y
  put_refused k item (Old other) past kept q = let within = slice_get_within b.items (keys.number k) other q.there_is in absurd (omega (arith, ap length same))
  put_refused k item (Refused error) past kept q = let is = q.0 in let stays = q.2.0 in (cc, cc)
  put_refused k item y past kept q = absurd q

  swap_done : (j k : K) (y : ArenaReply K T) → SwapsItems keys L a j k c → ArenaStep keys M b (Swap j k) y d → Alike Done y
  swap_done j k Done p q = let c_is = p.items_are in let d_is = q.items_are in (refl, cc)
  swap_done j k (Refused AliasingPairAccess) p q = absurd (p.apart q.0)
  swap_done j k (Refused KeyOutOfBounds) p q =
      let one = p.first_reads in let two = p.second_reads in
      elim q.0 [ inl past ↦ absurd (omega (arith, ap length same)) | inr past ↦ absurd (omega (arith, ap length same)) ]
  swap_done j k (Refused OutOfSystemMemory) p q = absurd q.0
  swap_done j k (Refused NotEnoughKeys) p q = absurd q.0
  swap_done j k (Refused DuplicateItem) p q = absurd q.0
  swap_done j k y p q = absurd q

  swap_equal : (j k : K) (y : ArenaReply K T) → keys.number j ≡ keys.number k → keys.number j < length a.items → c.items ≡ a.items → ArenaStep keys M b (Swap j k) y d → Alike (Refused AliasingPairAccess) y
  swap_equal j k Done one reads kept q = absurd (q.apart one)
  swap_equal j k (Refused AliasingPairAccess) one reads kept q = let stays = q.1.0 in (refl, cc)
  swap_equal j k (Refused KeyOutOfBounds) one reads kept q =
      elim q.0 [ inl past ↦ absurd (omega (arith, ap length same)) | inr past ↦ absurd (omega (arith, ap length same)) ]
  swap_equal j k (Refused OutOfSystemMemory) one reads kept q = absurd q.0
  swap_equal j k (Refused NotEnoughKeys) one reads kept q = absurd q.0
  swap_equal j k (Refused DuplicateItem) one reads kept q = absurd q.0
  swap_equal j k y one reads kept q = absurd q

  swap_past : (j k : K) (y : ArenaReply K T) → (length a.items ≤ keys.number j) ⊎ (length a.items ≤ keys.number k) → (keys.number j ≡ keys.number k → keys.number j < length a.items) → c.items ≡ a.items → ArenaStep keys M b (Swap j k) y d → Alike (Refused KeyOutOfBounds) y
  swap_past j k Done past reads kept q =
      let one = q.first_reads in let two = q.second_reads in
      elim past [ inl far ↦ absurd (omega (arith, ap length same)) | inr far ↦ absurd (omega (arith, ap length same)) ]
  swap_past j k (Refused AliasingPairAccess) past reads kept q =
      let equal = q.0 in let near = reads equal in
      elim past [ inl far ↦ absurd (omega arith) | inr far ↦ absurd (omega arith) ]
  swap_past j k (Refused KeyOutOfBounds) past reads kept q = let stays = q.1.0 in (refl, cc)
  swap_past j k (Refused OutOfSystemMemory) past reads kept q = absurd q.0
  swap_past j k (Refused NotEnoughKeys) past reads kept q = absurd q.0
  swap_past j k (Refused DuplicateItem) past reads kept q = absurd q.0
  swap_past j k y past reads kept q = absurd q

-- a step's command and reply tell how many items there are after it
module _ {K T : Type 0} (keys : Keys K) (limit : ℕ) (old next : ArenaState T) where
  pub counted : (command : ArenaCommand K T) (reply : ArenaReply K T) (commands : List (ArenaCommand K T)) (replies : List (ArenaReply K T)) → ArenaStep keys limit old command reply next
      → (length next.items + keys_in replies ≡ length old.items + keys_in (reply ∷ replies)) × (length next.items + allocs_in commands ≤ length old.items + allocs_in (command ∷ commands))
  counted (Alloc item) (Key key) cs rs step = let is = ap length step.items_are in (omega (arith, length-append old.items (item ∷ [])), omega (arith, length-append old.items (item ∷ [])))
  counted (Alloc item) (Refused error) cs rs step = let is = ap length step.1.0 in (omega arith, omega arith)
  counted (Has key) (HasReply found) cs rs step = let is = ap length step.1.0 in (omega arith, omega arith)
  counted (Put key item) (Old there) cs rs step = let is = ap length step.items_are in (omega (arith, length-set old.items (keys.number key) item), omega (arith, length-set old.items (keys.number key) item))
  counted (Put key item) (Refused error) cs rs step = let is = ap length step.2.0 in (omega arith, omega arith)
  counted (Swap first second) Done cs rs step =
      let is = ap length step.items_are in let stays = length-swap old.items (keys.number first) (keys.number second) in (omega arith, omega arith)
  counted (Swap first second) (Refused error) cs rs step = let is = ap length step.1.0 in (omega arith, omega arith)
  counted command reply cs rs step = absurd step

module _ {K T : Type 0} (keys : Keys K) (L M : ℕ) where
  one_step : (a b c d : ArenaState T) → a.items ≡ b.items → (command : ArenaCommand K T) (x y : ArenaReply K T) (commands : List (ArenaCommand K T))
      → ArenaStep keys L a command x c → ArenaStep keys M b command y d
      → ((k : ℕ) → k < length a.items + allocs_in (command ∷ commands) → (k < L ↔ k < M))
      → x ≢ Refused OutOfSystemMemory → y ≢ Refused OutOfSystemMemory
      → ((j k : K) → command ≡ Swap j k → keys.number j ≡ keys.number k → keys.number j < length a.items)
      → (x ≡ y) × (c.items ≡ d.items)
  one_step a b c d same (Alloc item) (Key k) y cs p q fit none nono reads = alloc_key keys L M a b c d same item k y p q (fit (length a.items) (omega arith)).0 nono
  one_step a b c d same (Alloc item) (Refused NotEnoughKeys) y cs p q fit none nono reads = alloc_none keys L M a b c d same item y p.0 p.1.0 q (fit (length a.items) (omega arith)).1 nono
  one_step a b c d same (Alloc item) (Refused OutOfSystemMemory) y cs p q fit none nono reads = absurd (none refl)
  one_step a b c d same (Alloc item) (Refused KeyOutOfBounds) y cs p q fit none nono reads = absurd p.0
  one_step a b c d same (Alloc item) (Refused AliasingPairAccess) y cs p q fit none nono reads = absurd p.0
  one_step a b c d same (Alloc item) (Refused DuplicateItem) y cs p q fit none nono reads = absurd p.0
  one_step a b c d same (Has k) (HasReply found) y cs p q fit none nono reads = has_alike keys L M a b c d same k found y p q
  one_step a b c d same (Put k item) (Old there) y cs p q fit none nono reads = put_old keys L M a b c d same k item there y p q
  one_step a b c d same (Put k item) (Refused error) y cs p q fit none nono reads =
      let rest = put_refused keys L M a b c d same k item y p.1 p.2.0 q in let is = p.0 in let reply = rest.0 in (cc, rest.1)
  one_step a b c d same (Swap j k) Done y cs p q fit none nono reads = swap_done keys L M a b c d same j k y p q
  one_step a b c d same (Swap j k) (Refused AliasingPairAccess) y cs p q fit none nono reads = swap_equal keys L M a b c d same j k y p.0 (reads j k refl p.0) p.1.0 q
  one_step a b c d same (Swap j k) (Refused KeyOutOfBounds) y cs p q fit none nono reads = swap_past keys L M a b c d same j k y p.0 (reads j k refl) p.1.0 q
  one_step a b c d same (Swap j k) (Refused OutOfSystemMemory) y cs p q fit none nono reads = absurd p.0
  one_step a b c d same (Swap j k) (Refused NotEnoughKeys) y cs p q fit none nono reads = absurd p.0
  one_step a b c d same (Swap j k) (Refused DuplicateItem) y cs p q fit none nono reads = absurd p.0
  one_step a b c d same command x y cs p q fit none nono reads = absurd p

  module _ {V W : Type 0} (state : V → ArenaState T) (seen : W → ArenaState T) where
    one_run : (s : V) (u : W) (commands : List (ArenaCommand K T)) (replies others : List (ArenaReply K T)) (s_after : V) (u_after : W)
        → ArenaRun keys L state s commands replies s_after → ArenaRun keys M seen u commands others u_after
        → (state s).items ≡ (seen u).items
        → ((k : ℕ) → k < length (state s).items + allocs_in commands → (k < L ↔ k < M))
        → NoneLacksMemory replies → NoneLacksMemory others → EqualKeysRead keys (length (state s).items) commands replies
        → (replies ≡ others) × ((state s_after).items ≡ (seen u_after).items)
    one_run s u [] [] [] s_after u_after p q same fit none nono reads = (refl, rw (p, q) same)
    one_run s u (e ∷ cs) (x ∷ xs) (y ∷ ys) s_after u_after p q same fit none nono reads =
        let step = one_step (state s) (seen u) (state p.0) (seen q.0) same e x y cs p.1 q.1 fit
        (λ is. none 0 (ap Some is)) (λ is. nono 0 (ap Some is))
        (λ j k is equal. let near = reads 0 j k (ap Some is) equal in omega arith) in
        let lengths = counted keys L (state s) (state p.0) e x cs in
        let rest = one_run p.0 q.0 cs xs ys s_after u_after p.2 q.2 step.1
        (λ k below. fit k (let few = (lengths [] p.1).1 in omega arith))
        (λ i. none (suc i)) (λ i. nono (suc i))
        (λ i j k is equal. let near = reads (suc i) j k is equal in let many = (lengths (take i xs) p.1).0 in omega arith) in
        let head = step.0 in let tail = rest.0 in (cc, rest.1)
    one_run s u [] [] (y ∷ ys) s_after u_after p q same fit none nono reads = absurd q
    one_run s u (e ∷ cs) (x ∷ xs) [] s_after u_after p q same fit none nono reads = absurd q
    one_run s u [] (x ∷ xs) ys s_after u_after p q same fit none nono reads = absurd p
    one_run s u (e ∷ cs) [] ys s_after u_after p q same fit none nono reads = absurd p

-- up to `max_len`, it doesn't matter whether an arena is bounded
pub below_either : {K : Type 0} (keys : Keys K) (one other : Bool) (n : ℕ) → (one ≡ other) ⊎ (n ≤ max_len)
    → (k : ℕ) → k < n → k < arena_limit keys one → k < arena_limit keys other
below_either keys true true n fits k below has = has
below_either keys false false n fits k below has = has
below_either keys true false n fits k below has = omega arith
below_either keys false true n fits k below has = elim fits [ inl is ↦ absurd (cc) | inr within ↦ omega arith ]

pub one_answer : {K T V W : Type 0} (keys : Keys K) (bounded other : Bool) (state : V → ArenaState T) (seen : W → ArenaState T)
    (s : V) (u : W) (commands : List (ArenaCommand K T)) (replies others : List (ArenaReply K T)) (s_after : V) (u_after : W)
    → ArenaRun keys (arena_limit keys bounded) state s commands replies s_after → ArenaRun keys (arena_limit keys other) seen u commands others u_after
    → (state s).items ≡ (seen u).items
    → (bounded ≡ other) ⊎ (length (state s).items + allocs_in commands ≤ max_len)
    → NoneLacksMemory replies → NoneLacksMemory others → EqualKeysRead keys (length (state s).items) commands replies
    → (replies ≡ others) × ((state s_after).items ≡ (seen u_after).items)
one_answer keys bounded other state seen s u commands replies others s_after u_after p q same alike none nono reads =
    let n = length (state s).items + allocs_in commands in
    one_run keys (arena_limit keys bounded) (arena_limit keys other) state seen s u commands replies others s_after u_after p q same
    (λ k below. (below_either keys bounded other n alike k below, below_either keys other bounded n (elim alike [ inl is ↦ inl (sym is) | inr within ↦ inr within ]) k below))
    none nono reads
