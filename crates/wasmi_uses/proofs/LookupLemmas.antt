-- Lists of which one begins with the items of another.
use Rattle.std.proofs.Common.{◌≡◌, ℕ, suc, ◌+◌, ◌≤◌, List, [], ◌∷◌, ◌++◌, length, take, get_or, sym, ap, ◌∙◌, arith}
use Rattle.std.proofs.Math.Seq.{take-suc}
use Rattle.std.proofs.lemmas.List.{get_or-take}
use Rattle.std.proofs.lemmas.Option.{slice_get_within, slice_get-get_or, get_or_from_slice_get}
use Rattle.std.specs.Prelude.{Some, slice_get}

module _ {T : Type 0} where
  taken : (xs : List T) (n : ℕ) (x : T) → slice_get xs n ≡ Some x → take (n + 1) xs ≡ take n xs ++ x ∷ []
  taken xs n x there = let next : n + 1 ≡ suc n = omega arith in ap (λ m. take m xs) next ∙ take-suc xs n x (slice_get_within xs n x there) ∙ ap (λ y. take n xs ++ y ∷ []) (get_or_from_slice_get xs n x x there)

  -- lists that agree up to a position agree one further where both have the same item there
  pub agree_further : (xs ys : List T) (n : ℕ) (x : T) → slice_get xs n ≡ Some x → slice_get ys n ≡ Some x → take n xs ≡ take n ys → take (n + 1) xs ≡ take (n + 1) ys
  agree_further xs ys n x one other same = taken xs n x one ∙ ap (λ zs. zs ++ x ∷ []) same ∙ sym (taken ys n x other)

  -- a list that begins with another has its items
  pub begins_with : (xs ys : List T) (n : ℕ) (x : T) → length ys ≤ length xs → take (length ys) xs ≡ ys → slice_get ys n ≡ Some x → slice_get xs n ≡ Some x
  begins_with xs ys n x longer same there =
      let within = slice_get_within ys n x there in
      slice_get-get_or xs n x (omega arith) ∙ ap Some (sym (get_or-take (length ys) xs n x within) ∙ ap (λ zs. get_or zs n x) same ∙ get_or_from_slice_get ys n x x there)
