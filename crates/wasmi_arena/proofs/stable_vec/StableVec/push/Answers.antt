use Rattle.std.proofs.Common.{◌≡◌, ◌≢◌, ◌<◌, ◌≤◌, ℕ, List, Option, length, ap, refl, arith}
use Rattle.std.proofs.Math.Nat.{not-le_of_lt}
use Rattle.std.proofs.Math.Numerals.{add-one-le, lt_of_le_of_ne}
use Rattle.std.proofs.lemmas.Bool.{false≢true}
use Rattle.wasmi_arena.specs.Bucket.{Bucket}
use Rattle.wasmi_arena.specs.Geometry.{start, max_len, room}
use Rattle.wasmi_arena.specs.inner.Table.{items_of, IsLaidOut}
use Rattle.wasmi_arena.proofs.Apart.{len_is, open_is}
use Rattle.wasmi_arena.proofs.Results.{err_returned, ok-err}
use Rattle.wasmi_arena.proofs.LaidOut.{open_size, place-open, place-free, last-free, free_counted, open-fits, free-lt_max, place-full, items_of-last, IsLaidOut-last, items_of-open_next, IsLaidOut-open_next}
use Rattle.wasmi_arena.proofs.stable_vec.StableVec.push.Goals as goal

module _ {T : Type 0} {buckets : List (Option (Bucket T))} {open_buckets slots len : ℕ} (v : IsLaidOut buckets open_buckets slots len) (items : List T) (are : items_of buckets ≡ items) where
  -- with no free slot there is no room
  no_room : slots ≤ len → room (length items) ≡ 0
  no_room full = omega (arith, full, len_is v items are, v.slots_counted, ap start (open_is v items are))

  -- with another length it isn't full
  below_max : len ≢ max_len → length items < max_len
  below_max other = rw (← len_is v items are) (lt_of_le_of_ne v.few_items other)

pub fill_next-requires-clause-in_table : goal.fill_next-requires-clause-in_table
fill_next-requires-clause-in_table g c = rw c.self.invariant.buckets_counted (place-free c.self.invariant c.if-index-self.true).bucket_exists

pub fill_next-requires-clause-open : goal.fill_next-requires-clause-open
fill_next-requires-clause-open g c =
    let last = last-free c.self.invariant c.if-index-self.true in place-open c.self.invariant (place-free c.self.invariant c.if-index-self.true) (omega arith)

pub fill_next-requires-clause-capacity : goal.fill_next-requires-clause-capacity
fill_next-requires-clause-capacity g c = open_size c.self.invariant (place-free c.self.invariant c.if-index-self.true)

pub fill_next-requires-clause-free : goal.fill_next-requires-clause-free
fill_next-requires-clause-free g c = free_counted c.self.invariant c.if-index-self.true

pub invariant_of-self : goal.invariant_of-self
invariant_of-self g c =
    rw c.fill_next.ensures (IsLaidOut-last c.self.invariant c.if-index-self.true c.args.value)

pub returns-then-index-self-clause-ok : goal.returns-then-index-self-clause-ok
returns-then-index-self-clause-ok g c =
    rw (c.fill_next.ensures, ← c.self.view_is) (items_of-last c.self.invariant c.if-index-self.true c.args.value)

pub returns-then-index-self-clause-full : goal.returns-then-index-self-clause-full
returns-then-index-self-clause-full g c =
    (λ refused. absurd (ok-err refused), rw (← c.self.view_is) (λ full. absurd (not-le_of_lt (free-lt_max c.self.invariant c.if-index-self.true) full)))

pub open_with-requires-clause-in_table : goal.open_with-requires-clause-in_table
open_with-requires-clause-in_table g c = rw c.self.invariant.buckets_counted (place-full c.self.invariant c.if-index-self.false c.if-index-eq-MAX_LEN.false).bucket_exists

pub open_with-requires-clause-exists : goal.open_with-requires-clause-exists
open_with-requires-clause-exists g c = (place-full c.self.invariant c.if-index-self.false c.if-index-eq-MAX_LEN.false).bucket_exists

pub overflow_add-self-2 : goal.overflow_add-self-2
overflow_add-self-2 g c = record { fits = open-fits c.self.invariant }

pub start_of-self-inside-requires : goal.start_of-self-inside-requires
start_of-self-inside-requires g c = add-one-le (place-full c.self.invariant c.if-index-self.false c.if-index-eq-MAX_LEN.false).bucket_exists

pub invariant_of-self-in_err-open_with : goal.invariant_of-self-in_err-open_with
invariant_of-self-in_err-open_with g c = rw c.in_err-open_with.ensures.err c.self.invariant

pub invariant_of-self-2 : goal.invariant_of-self-2
invariant_of-self-2 g c =
    rw (c.in_ok-open_with.ensures.ok, c.start_of-self-inside.ensures) (IsLaidOut-open_next c.self.invariant c.if-index-self.false c.if-index-eq-MAX_LEN.false c.args.value)

pub returns-clause-ok : goal.returns-clause-ok
returns-clause-ok g c =
    rw (c.in_ok-open_with.ensures.ok, ← c.self.view_is) (items_of-open_next c.self.invariant c.if-index-self.false c.if-index-eq-MAX_LEN.false c.args.value)

pub overflow_sub-last : goal.overflow_sub-last
overflow_sub-last g c = let last = last-free c.self.invariant c.if-index-self.true in omega arith

pub returns-then-index-self-clause-index : goal.returns-then-index-self-clause-index
returns-then-index-self-clause-index g c = len_is c.self.invariant _ c.self.view_is

pub returns-then-index-self-clause-memory : goal.returns-then-index-self-clause-memory
returns-then-index-self-clause-memory g c = λ refused. absurd (ok-err refused)

pub returns-then-index-eq-MAX_LEN-clause-full : goal.returns-then-index-eq-MAX_LEN-clause-full
returns-then-index-eq-MAX_LEN-clause-full g c =
    let counted = len_is c.self.invariant _ c.self.view_is in (λ refused. omega (arith, c.if-index-eq-MAX_LEN.true, counted), λ full. refl)

pub returns-then-index-eq-MAX_LEN-clause-memory : goal.returns-then-index-eq-MAX_LEN-clause-memory
returns-then-index-eq-MAX_LEN-clause-memory g c = λ refused. cc

pub returns-then-index-eq-MAX_LEN-clause-with_room : goal.returns-then-index-eq-MAX_LEN-clause-with_room
returns-then-index-eq-MAX_LEN-clause-with_room g c = λ some. absurd (let none = no_room c.self.invariant _ c.self.view_is c.if-index-self.false in omega arith)

pub returns-then-index-eq-MAX_LEN-clause-without_size : goal.returns-then-index-eq-MAX_LEN-clause-without_size
returns-then-index-eq-MAX_LEN-clause-without_size g c =
    λ below none infallible. absurd (let counted = len_is c.self.invariant _ c.self.view_is in omega (arith, c.if-index-eq-MAX_LEN.true))

pub returns-in_err-open_with-clause-full : goal.returns-in_err-open_with-clause-full
returns-in_err-open_with-clause-full g c =
    rw (err_returned _ c.from_residual.ensures.1, c.in_err-open_with.ensures.errors) (λ refused. cc, λ full. absurd (not-le_of_lt (below_max c.self.invariant _ c.self.view_is c.if-index-eq-MAX_LEN.false) full))

pub returns-in_err-open_with-clause-memory : goal.returns-in_err-open_with-clause-memory
returns-in_err-open_with-clause-memory g c = λ refused. no_room c.self.invariant _ c.self.view_is c.if-index-self.false

pub returns-in_err-open_with-clause-with_room : goal.returns-in_err-open_with-clause-with_room
returns-in_err-open_with-clause-with_room g c = λ some. absurd (let none = no_room c.self.invariant _ c.self.view_is c.if-index-self.false in omega arith)

pub returns-in_err-open_with-clause-without_size : goal.returns-in_err-open_with-clause-without_size
returns-in_err-open_with-clause-without_size g c = λ below none infallible. absurd (false≢true (c.in_err-open_with.ensures.without_size none (infallible _)))

pub returns-in_err-open_with-clause-err : goal.returns-in_err-open_with-clause-err
returns-in_err-open_with-clause-err g c =
    rw (err_returned _ c.from_residual.ensures.1, c.in_err-open_with.ensures.err) c.self.view_is

pub returns-clause-index : goal.returns-clause-index
returns-clause-index g c = len_is c.self.invariant _ c.self.view_is

pub returns-clause-full : goal.returns-clause-full
returns-clause-full g c =
    (λ refused. absurd (ok-err refused), λ full. absurd (not-le_of_lt (below_max c.self.invariant _ c.self.view_is c.if-index-eq-MAX_LEN.false) full))

pub returns-clause-memory : goal.returns-clause-memory
returns-clause-memory g c = λ refused. absurd (ok-err refused)
