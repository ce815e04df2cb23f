-- Facts on texts that are joined to one.
-- for src/texts.rt
use Rattle.std.proofs.Common.{◌≡◌, ℕ, zero, suc, ◌+◌, ◌-◌, ◌<◌, ◌≤◌, ◌&&◌, Bool, List, [], ◌∷◌, ◌++◌, length, take, drop, get_or, slice_range, slice_get, option_map, Some, inl, inr, IsUtf8, IsCharBoundary, Decides, nat_eq, refl, sym, ap, subst, ◌∙◌, arith}
use Rattle.std.specs.Cmp.Lexicographic.{pointwise}
use Rattle.std.specs.Str.{bytes_eq}
use Rattle.std.proofs.lemmas.Bool.Decides.{leb_tells, same_from_decides, Decides-and, Decides-eqb, Decides-like}
use Rattle.std.proofs.lemmas.List.{length-append, length-drop, length-map, length-take-le, get_or_append_left, take-append-le, take_all, drop-append-le, drop_all, drop_at}
use Rattle.std.proofs.lemmas.List.Folds.{drop_split}
use Rattle.std.proofs.lemmas.Option.{slice_get-get_or, slice_get-map}
use Rattle.std.proofs.lemmas.Slice.Eq.{bytes_eq-Decides, slice_eq-Decides}
use Rattle.std.proofs.lemmas.Str.{IsCharBoundary-at_seam}
use Rattle.wasmi_interner.specs.inner.Texts.{AreJoined, texts_at}
use Rattle.wasmi_interner.specs.declared.texts.Part.{Part}

module _ (joined : List ℕ) where
  pub length-texts_at : (parts : List Part) → length (texts_at joined parts) ≡ length parts
  length-texts_at parts = length-map parts (λ part. slice_range joined part.start (part.start + part.len))

  -- the text at a position is the part there
  pub text_at : (parts : List Part) (i : ℕ) (d : Part) → i < length (texts_at joined parts) → let part : Part = get_or parts i d in slice_get (texts_at joined parts) i ≡ Some (slice_range joined part.start (part.start + part.len))
  text_at parts i d within =
      let range : Part → List ℕ = λ part. slice_range joined part.start (part.start + part.len) in
      slice_get-map range parts i ∙ ap (option_map range) (slice_get-get_or parts i d (omega (arith, within, length-texts_at parts)))

  -- a part begins and ends between characters
  pub record IsPart (part : Part) : Type 0 where
    pub start : 0 < part.start → IsCharBoundary joined part.start
    pub end : IsCharBoundary joined (part.start + part.len)

  part_from : (from : ℕ) (parts : List Part) (i : ℕ) (d : Part) → (0 < from → IsCharBoundary joined from) → AreJoined joined from parts → i < length parts → IsPart (get_or parts i d)
  part_from from [] i d begins are within = absurd (omega (arith, within))
  part_from from (part ∷ parts) zero d begins are within = record { start = rw (are.0) begins; end = rw (are.0) are.1 }
  part_from from (part ∷ parts) (suc i) d begins are within = part_from (from + part.len) parts i d (λ _. are.1) are.2 (omega (arith, within))

  pub part_at : (parts : List Part) (i : ℕ) (d : Part) → AreJoined joined 0 parts → i < length (texts_at joined parts) → IsPart (get_or parts i d)
  part_at parts i d are within =
      part_from 0 parts i d (λ some. absurd (omega (arith, some))) are (omega (arith, within, length-texts_at parts))

  -- ---- a text that is added

  module _ (text : List ℕ) where
    boundary_kept : IsUtf8 text → (end : ℕ) → IsCharBoundary joined end → IsCharBoundary (joined ++ text) end
    boundary_kept utf8 end is = elim (leb_tells (length joined) end) [
      | inl all ↦ subst (IsCharBoundary (joined ++ text)) (omega (arith, all.1, is.0)) (IsCharBoundary-at_seam (joined ++ text) joined text refl utf8)
      | inr less ↦
          let same = get_or_append_left joined text 0 end less.1 in
          (omega (arith, is.0, length-append joined text), λ within high. omega (arith, same, is.1 less.1 (omega (arith, same, high))))
    ]

    pub AreJoined-push : IsUtf8 text → (from : ℕ) (parts : List Part) → AreJoined joined from parts → AreJoined (joined ++ text) from (parts ++ record { start = length joined; len = length text } ∷ [])
    AreJoined-push utf8 from [] are =
        let end : from + length text ≡ length (joined ++ text) = omega (arith, are, length-append joined text) in
        (sym are, (omega (arith, end), λ within. absurd (omega (arith, within, end))), end)
    AreJoined-push utf8 from (part ∷ parts) are = (are.0, boundary_kept utf8 (from + part.len) are.1, AreJoined-push utf8 (from + part.len) parts are.2)

    pub texts_at-push : (from : ℕ) (parts : List Part) → AreJoined joined from parts → texts_at (joined ++ text) (parts ++ record { start = length joined; len = length text } ∷ []) ≡ texts_at joined parts ++ text ∷ []
    texts_at-push from [] are =
        let n = length joined + length text - length joined in
        ap (λ last. last ∷ []) (ap (take n) (drop_at joined text (length joined) refl) ∙ take_all n text (omega arith))
    texts_at-push from (part ∷ parts) are =
        let n = part.start + part.len - part.start in
        let first : slice_range (joined ++ text) part.start (part.start + part.len) ≡ slice_range joined part.start (part.start + part.len) =
        ap (take n) (drop-append-le part.start joined text (omega (arith, are.0, are.1.0)))
        ∙ take-append-le n (drop part.start joined) text (omega (arith, are.0, are.1.0, length-drop part.start joined)) in
        let rest = texts_at-push (from + part.len) parts are.2 in
        λ i. first i ∷ rest i

-- ---- texts that are equal

length-part : (joined : List ℕ) (from len : ℕ) → from + len ≤ length joined → length (slice_range joined from (from + len)) ≡ len
length-part joined from len within =
    omega (arith, within, length-take-le (from + len - from) (drop from joined) (omega (arith, within, length-drop from joined)))

-- what two parts are compared by
abbrev pub part_eq : Part → Part → Bool
part_eq p q = nat_eq p.start q.start && nat_eq p.len q.len

part_Decides : (p q : Part) → Decides (part_eq p q) (p ≡ q)
part_Decides p q =
    Decides-like _ (λ same. λ i. record { start = same.0 i; len = same.1 i }) (λ same. (ap (λ (r : Part). r.start) same, ap (λ (r : Part). r.len) same)) (Decides-and _ _ (Decides-eqb p.start q.start) (Decides-eqb p.len q.len))

module _ (xs ys : List ℕ) where
  -- texts tell what they are joined to, and where each lies
  same_parts : (from : ℕ) (ps qs : List Part) → AreJoined xs from ps → AreJoined ys from qs → texts_at xs ps ≡ texts_at ys qs → (drop from xs ≡ drop from ys) × (ps ≡ qs)
  same_parts from [] [] left right same = (drop_all from xs (omega (arith, left)) ∙ sym (drop_all from ys (omega (arith, right))), refl)
  same_parts from [] (q ∷ qs) left right same = absurd (cc)
  same_parts from (p ∷ ps) [] left right same = absurd (cc)
  same_parts from (p ∷ ps) (q ∷ qs) left right same =
      let text : slice_range xs p.start (p.start + p.len) ≡ slice_range ys q.start (q.start + q.len) = cc in
      let first : slice_range xs from (from + p.len) ≡ slice_range ys from (from + q.len) =
      ap (λ start. slice_range xs start (start + p.len)) (sym left.0) ∙ (text ∙ ap (λ start. slice_range ys start (start + q.len)) right.0) in
      let others : texts_at xs ps ≡ texts_at ys qs = cc in
      let len : q.len ≡ p.len = omega (arith, ap length first, length-part xs from p.len left.1.0, length-part ys from q.len right.1.0) in
      let rest = same_parts (from + p.len) ps qs left.2 (rw len at right.2) others in (
        drop_split xs from (from + p.len) (omega arith) ∙ ((λ i. first i ++ rest.0 i)
            ∙ (ap (λ n. slice_range ys from (from + q.len) ++ drop (from + n) ys) (sym len) ∙ sym (drop_split ys from (from + q.len) (omega arith)))),
        (λ i. record { start = (left.0 ∙ sym right.0) i; len = sym len i } ∷ rest.1 i),
      )

  pub texts_equal : (ps qs : List Part) → AreJoined xs 0 ps → AreJoined ys 0 qs → (bytes_eq xs ys && pointwise part_eq ps qs) ≡ pointwise bytes_eq (texts_at xs ps) (texts_at ys qs)
  texts_equal ps qs left right =
      same_from_decides _ _
      (Decides-like _ (λ same. λ i. texts_at (same.0 i) (same.1 i)) (same_parts 0 ps qs left right) (Decides-and _ _ (bytes_eq-Decides xs ys) (slice_eq-Decides part_Decides ps qs _ refl)))
      (slice_eq-Decides bytes_eq-Decides (texts_at xs ps) (texts_at ys qs) _ refl)
