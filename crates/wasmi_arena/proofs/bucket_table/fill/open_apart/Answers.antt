use Rattle.std.proofs.Common.{◌≡◌, ℕ, ◌+◌, ◌<◌, List, [], length, set, Option, Some, None, ◌∙◌, inl, inr, refl, ap, arith}
use Rattle.std.proofs.Math.Nat.{not-le_of_lt, lt_of_lt_of_le}
use Rattle.std.proofs.lemmas.Bool.{cases_lt}
use Rattle.std.proofs.lemmas.Grind.{get_or-set_at}
use Rattle.std.proofs.lemmas.List.{get_or-set_other, length-set}
use Rattle.wasmi_arena.specs.Bucket.{Bucket, bucket}
use Rattle.wasmi_arena.specs.Geometry.{size}
use Rattle.wasmi_arena.specs.inner.Apart.{AreOpenApart}
use Rattle.wasmi_arena.proofs.Doubling.{size_allowed}
use Rattle.wasmi_arena.proofs.bucket_table.fill.open_apart.Goals as goal

-- one more bucket is opened
one_more : {T : Type 0} {buckets : List (Option (Bucket T))} {first b : ℕ} {opened : Bucket T} → AreOpenApart buckets first b → b < length buckets → opened ≡ bucket [] (size b) → AreOpenApart (set buckets b (Some opened)) first (b + 1)
one_more {T} {buckets} {first} {b} {opened} before inside is = record {
  buckets_counted = length-set buckets b (Some opened) ∙ before.buckets_counted;
  empty = λ a from to. elim (cases_lt a b) [
    | inl less ↦ get_or-set_other buckets b a (Some opened) None (λ same. absurd (omega arith)) ∙ before.empty a from less
    | inr more ↦ let same : a ≡ b = omega arith in rw (same, is) (get_or-set_at buckets b b (Some (bucket [] (size b))) None refl inside)
  ];
}

pub loop-bucket-init : goal.loop-bucket-init
loop-bucket-init g c = record { buckets_counted = c.requires.in_table; empty = λ b from to. absurd (not-le_of_lt to from) }

pub bucket_size-capacity-requires : goal.bucket_size-capacity-requires
bucket_size-capacity-requires g c = lt_of_lt_of_le c.loop-bucket-test.true c.requires.exist

pub open-requires : goal.open-requires
open-requires g c = size_allowed c.loop-bucket.bucket _ (lt_of_lt_of_le c.loop-bucket-test.true c.requires.exist) c.bucket_size-capacity.ensures

pub bounds-buckets-bucket : goal.bounds-buckets-bucket
bounds-buckets-bucket g c = rw c.loop-bucket.invariant.buckets_counted (lt_of_lt_of_le c.loop-bucket-test.true c.requires.exist)

pub loop-bucket-preserved : goal.loop-bucket-preserved
loop-bucket-preserved g c =
    let inside : c.loop-bucket.bucket < length c.loop-bucket.buckets = rw c.loop-bucket.invariant.buckets_counted (lt_of_lt_of_le c.loop-bucket-test.true c.requires.exist) in
    one_more c.loop-bucket.invariant inside (c.in_ok-open.ensures.items ∙ ap (bucket []) c.bucket_size-capacity.ensures)

pub returns-clause-open : goal.returns-clause-open
returns-clause-open g c = record {
  buckets_counted = c.loop-bucket.invariant.buckets_counted;
  empty = λ b from to. c.loop-bucket.invariant.empty b from (lt_of_lt_of_le to c.loop-bucket-test.false);
}
