use Rattle.std.proofs.Common.{◌≡◌, List, [], ◌∷◌, length, get_or, Option, Some, None, refl, sym, ◌∙◌, arith, append-nil}
use Rattle.std.specs.Prelude.{IsSome}
use Rattle.wasmi_arena.specs.Bucket.{Bucket}
use Rattle.wasmi_arena.specs.inner.Table.{items_in, items_of, AreFilled}
use Rattle.wasmi_arena.proofs.raw.loan.ItemsLoan.into_slice.Goals as goal

-- one bucket with an item is open, and has all the items
one_open : {T : Type 0} (buckets : List (Option (Bucket T))) → length buckets ≡ 1 → AreFilled buckets → IsSome (get_or buckets 0 None) × (items_in (get_or buckets 0 None) ≡ items_of buckets)
one_open [] one filled = absurd (omega arith)
one_open (None ∷ rest) one filled = absurd filled
one_open (Some bucket ∷ []) one filled = (refl, sym (append-nil bucket.items))
one_open (Some bucket ∷ next ∷ rest) one filled = absurd (omega arith)

pub bucket-requires : goal.bucket-requires
bucket-requires g c = (one_open c.args.self.buckets c.requires.one c.requires.open).0

pub returns : goal.returns
returns g c = c.bucket.ensures.value ∙ (one_open c.args.self.buckets c.requires.one c.requires.open).1
