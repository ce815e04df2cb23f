-- The sections of a text, one after another.
-- for src/sections.rt, src/decoder.rt
use Rattle.std.proofs.Common.{◌≡◌, ◌≢◌, ℕ, zero, suc, ◌<◌, length, List, [], ◌∷◌, ◌++◌, Option, Some, None, Bool, true, false, cond, refl, sym, ap, subst, ◌∙◌, arith}
use Rattle.std.specs.List.{All}
use Rattle.std.specs.Prelude.{IfSome, IfNone, slice_get}
use Rattle.std.specs.Option.{is_some}
use Rattle.std.proofs.lemmas.List.{append-nil}
use Rattle.std.proofs.lemmas.List.Elements.{All-cons}
use Rattle.wasmi_module.specs.Texts.{Is, ◌⋅◌, Each}
use Rattle.wasmi_module.specs.inner.Reading.{Reads, Lacks, With, Only}
use Rattle.wasmi_module.specs.Numbers.{IsU32}
use Rattle.wasmi_module.specs.Format.{IsVector}
use Rattle.wasmi_module.specs.Sections.{IsSection, AreCustoms}
use Rattle.wasmi_module.specs.inner.Order.{AreSections, unless_custom, others, and_part, present, HasSections, NoSections, HasFirst, Contents, OnlySection, LacksSection, Behind}
use Rattle.wasmi_module.proofs.OnceLemmas.{u32_once, rest_same}
use Rattle.wasmi_module.proofs.OnceSections.{IsPair, is_number, pair_once, not_empty, front_empty}
use Rattle.wasmi_module.proofs.LacksLemmas.{split, reads_once, not_first, not_after_byte, not_long}

-- ---- one section after another

-- A section comes first, and these are left.
record Next (s : ℕ × List ℕ) (ss : List (ℕ × List ℕ)) (after : List ℕ) : Type 0 where
  pub rest : List (ℕ × List ℕ)
  pub is : ss ≡ s ∷ rest
  pub written : AreSections rest after

next_section : (s : ℕ × List ℕ) (ss : List (ℕ × List ℕ)) {before : List ℕ} (after : List ℕ) → Reads (IsPair s) before after → AreSections ss before → Next s ss after
next_section s [] after read none = absurd (not_empty s read.text read.is_text (front_empty read.text after (sym read.parts ∙ none)))
next_section s (t ∷ ss) after read h =
    let e : read.text ++ after ≡ h.front ++ h.back = sym read.parts ∙ h.parts in
    let same = pair_once s t read.text h.front after h.back read.is_text h.first e in
    record { rest = ss; is = ap (λ k. k ∷ ss) (sym same.0); written = subst (AreSections ss) (sym (rest_same read.text h.front after h.back e same.1)) h.second }

-- Behind custom sections the same are left, but for custom ones.
record After (ss : List (ℕ × List ℕ)) (mid : List ℕ) : Type 0 where
  pub left : List (ℕ × List ℕ)
  pub same : others ss ≡ others left
  pub written : AreSections left mid

after_customs : (customs : List (List ℕ)) (ss : List (ℕ × List ℕ)) {before : List ℕ} (mid : List ℕ) → Reads (Each (IsSection 0) customs) before mid → AreSections ss before → After ss mid
after_customs [] ss {before} mid read h =
    let same : before ≡ mid = read.parts ∙ ap (λ (t : List ℕ). t ++ mid) read.is_text in
    record { left = ss; same = refl; written = subst (AreSections ss) same h }
after_customs (c ∷ cs) ss mid read h =
    let s = split read in
    let n = next_section (0, c) ss s.mid s.first h in
    let r = after_customs cs n.rest mid s.second n.written in
    record { left = r.left; same = ap others n.is ∙ r.same; written = r.written }

behind : {before mid : List ℕ} (ss : List (ℕ × List ℕ)) → Reads AreCustoms before mid → AreSections ss before → After ss mid
behind {mid = mid} ss read h = after_customs read.is_text.customs ss mid (record { text = read.text; is_text = read.is_text.written; parts = read.parts }) h

pub has_customs : {parts : List (ℕ × Option (List ℕ))} {before mid : List ℕ} → Reads AreCustoms before mid → HasSections parts before → HasSections parts mid
has_customs read h = let r = behind h.sections read h.written in record { sections = r.left; written = r.written; order = sym r.same ∙ h.order }

-- ---- no sections

pub none_after : {before mid : List ℕ} → Reads AreCustoms before mid → NoSections mid → NoSections before
none_after read refused = record { none = λ ss h. let r = behind ss read h in refused.none r.left r.written }

none_at : (b : ℕ) (ss : List (ℕ × List ℕ)) {before : List ℕ} (mid : List ℕ) → before ≡ b ∷ mid → ((s : ℕ × List ℕ) (after : List ℕ) → Reads (IsPair s) before after → ⊥) → AreSections ss before → ⊥
none_at b [] mid is refuse h = let e : b ∷ mid ≡ [] = sym is ∙ h in absurd cc
none_at b (s ∷ ss) mid is refuse h = refuse s h.back (record { text = h.front; is_text = h.first; parts = h.parts })

pub none_empty : (n : ℕ) {bytes : List ℕ} → slice_get bytes 0 ≡ Some n → bytes ≡ [] → NoSections bytes
none_empty n some none = let e = rw none at some in absurd cc

pub none_len : (b : ℕ) {before : List ℕ} (mid : List ℕ) → before ≡ b ∷ mid → Lacks IsU32 mid → NoSections before
none_len b mid is lacks = record { none = λ ss h. none_at b ss mid is (λ s after read. not_after_byte s.0 b mid is (not_first IsU32 lacks) read) h }

no_room : (len : ℕ) (bytes : List ℕ) {mid : List ℕ} (next : List ℕ) {after : List ℕ} → Reads (IsU32 len) mid next → length next < len → Reads (IsU32 (length bytes) ⋅ Is bytes) mid after → ⊥
no_room len bytes next read lt h =
    let s = split h in
    let same = reads_once IsU32 u32_once read s.first in
    let few : length s.mid < length bytes = subst (λ (t : List ℕ). length t < length bytes) same.1 (subst (λ (n : ℕ). length next < n) same.0 lt) in
    not_long bytes few s.second

pub none_short : (b len : ℕ) {before : List ℕ} (mid next : List ℕ) → before ≡ b ∷ mid → Reads (IsU32 len) mid next → length next < len → NoSections before
none_short b len mid next is read lt = record { none = λ ss h. none_at b ss mid is (λ s after section. not_after_byte s.0 b mid is (no_room len s.1 next read lt) section) h }

-- ---- the section of a number

list_head : {X : Type 0} (x y : X) (xs ys : List X) → x ∷ xs ≡ y ∷ ys → x ≡ y
list_head x y xs ys e = cc

list_tail : {X : Type 0} (x y : X) (xs ys : List X) → x ∷ xs ≡ y ∷ ys → xs ≡ ys
list_tail x y xs ys e = cc

-- Its first byte is its number.
begins : (s : ℕ × List ℕ) (ss : List (ℕ × List ℕ)) (bytes : List ℕ) → AreSections (s ∷ ss) bytes → slice_get bytes 0 ≡ Some s.0
begins s ss bytes h =
    let e : bytes ≡ s.0 ∷ (h.first.back ++ h.back) = h.parts ∙ ap (λ (t : List ℕ). t ++ h.back) (h.first.parts ∙ ap (λ (t : List ℕ). t ++ h.first.back) h.first.first) in
    rw e refl

other_head : (k n : ℕ) (c d : List ℕ) (ss ts : List (ℕ × List ℕ)) → k ≢ 0 → k ≢ suc n → unless_custom k c ss ≡ (suc n, d) ∷ ts → ⊥
other_head zero n c d ss ts custom other e = custom refl
other_head (suc k) n c d ss ts custom other e = other (ap (λ s. s.0) (list_head (suc k, c) (suc n, d) ss ts e))

no_part : (n : ℕ) (c : List ℕ) (ss ts : List (ℕ × List ℕ)) (bytes : List ℕ) → AreSections ss bytes → slice_get bytes 0 ≢ Some 0 → slice_get bytes 0 ≢ Some (suc n) → others ss ≡ (suc n, c) ∷ ts → ⊥
no_part n c [] ts bytes h custom other e = absurd cc
no_part n c (s ∷ ss) ts bytes h custom other e =
    let first = begins s ss bytes h in
    other_head s.0 n s.1 c (others ss) ts (λ z. custom (first ∙ ap Some z)) (λ z. other (first ∙ ap Some z)) e

-- It isn't there.
pub has_absent : (number : ℕ) (o : Option (List ℕ)) (parts : List (ℕ × Option (List ℕ))) {before mid : List ℕ} → HasFirst number o parts before → Reads AreCustoms before mid → slice_get mid 0 ≢ Some 0 → slice_get mid 0 ≢ Some number
    → (o ≡ None) × HasSections parts mid
has_absent zero o parts first read custom other = absurd (omega (arith, first.positive))
has_absent (suc n) None parts first read custom other = let h = has_customs read first.all in (refl, record { sections = h.sections; written = h.written; order = h.order })
has_absent (suc n) (Some c) parts {mid = mid} first read custom other =
    let h = has_customs read first.all in
    absurd (no_part n c h.sections (present parts) mid h.written custom other h.order)

not_part : (k n : ℕ) (o : Option (List ℕ)) (c : List ℕ) (ss ts : List (ℕ × List ℕ)) → k ≢ suc n → ((suc n, c) ∷ ts ≡ ss → ⊥) → (suc n, c) ∷ ts ≡ and_part k o ss → ⊥
not_part k n None c ss ts other rest e = rest e
not_part zero n (Some d) c ss ts other rest e = rest e
not_part (suc k) n (Some d) c ss ts other rest e = other (sym (ap (λ s. s.0) (list_head (suc n, c) (suc k, d) ts ss e)))

not_present : (n : ℕ) (c : List ℕ) (ts : List (ℕ × List ℕ)) (parts : List (ℕ × Option (List ℕ))) → All (λ p. p.0 ≢ suc n) parts → (suc n, c) ∷ ts ≡ present parts → ⊥
not_present n c ts [] all e = absurd cc
not_present n c ts (p ∷ ps) all e =
    not_part p.0 n p.1 c (present ps) ts (all 0 p (omega arith)) (not_present n c ts ps (λ k d lt. all (suc k) d (omega arith))) e

-- It is there.
pub has_present : (number : ℕ) (o : Option (List ℕ)) (parts : List (ℕ × Option (List ℕ))) (contents : List ℕ) {before mid after : List ℕ} → HasFirst number o parts before → Reads AreCustoms before mid → Reads (IsSection number contents) mid after
    → (o ≡ Some contents) × HasSections parts after
has_present zero o parts contents first customs read = absurd (omega (arith, first.positive))
has_present (suc n) None parts contents {after = after} first customs read =
    let h = has_customs customs first.all in
    let next = next_section (suc n, contents) h.sections after read h.written in
    absurd (not_present n contents (others next.rest) parts first.once (ap others (sym next.is) ∙ h.order))
has_present (suc n) (Some c) parts contents {after = after} first customs read =
    let h = has_customs customs first.all in
    let next = next_section (suc n, contents) h.sections after read h.written in
    let e : (suc n, contents) ∷ others next.rest ≡ (suc n, c) ∷ present parts = ap others (sym next.is) ∙ h.order in (
      ap (λ s. Some s.1) (sym (list_head (suc n, contents) (suc n, c) (others next.rest) (present parts) e)),
      record { sections = next.rest; written = next.written; order = list_tail (suc n, contents) (suc n, c) (others next.rest) (present parts) e },
    )

-- ---- its items

-- No items, where it is left out.
pub left_out : {X : Type 0} (W : X → List ℕ → Type 0) (number : ℕ) {before mid after : List ℕ} → Reads AreCustoms before mid → slice_get mid 0 ≢ Some 0 → slice_get mid 0 ≢ Some number → after ≡ mid → OnlySection number W [] before after
left_out W number customs custom other same = record {
  same = λ o xs parts first is.
      let r = has_absent number o parts first customs custom other in
      (subst (Contents W xs) r.0 is, subst (HasSections parts) (sym same) r.1);
}

whole : {X : Type 0} (W : X → List ℕ → Type 0) (xs : List X) (contents : List ℕ) → IsVector W xs contents → Reads (IsVector W xs) contents []
whole W xs contents h = record { text = contents; is_text = h; parts = sym (append-nil contents) }

pub there : {X : Type 0} (W : X → List ℕ → Type 0) (number : ℕ) (known : List X) (contents : List ℕ) {before mid after rest : List ℕ} → Reads AreCustoms before mid → Reads (IsSection number contents) mid after
    → Only (IsVector W) known contents rest → OnlySection number W known before after
there W number known contents customs read only = record {
  same = λ o xs parts first is.
      let r = has_present number o parts contents first customs read in
      ((only.same xs [] (whole W xs contents (subst (Contents W xs) r.0 is))).0, r.1);
}

-- Its contents are no vector of such items.
pub there_lacks : {X : Type 0} (W : X → List ℕ → Type 0) (V : List X → Type 0) (number : ℕ) (contents : List ℕ) {before mid after : List ℕ} → Reads AreCustoms before mid → Reads (IsSection number contents) mid after
    → Lacks (With (IsVector W) V) contents → LacksSection number W V before
there_lacks W V number contents customs read lacks = record {
  none = λ o xs parts first is valid.
      let r = has_present number o parts contents first customs read in
      let h = whole W xs contents (subst (Contents W xs) r.0 is) in
      lacks.none xs [] (record { text = h.text; is_text = record { written = h.is_text; holds = valid }; parts = h.parts });
}

-- More bytes are behind its items.
pub there_more : {X : Type 0} (W : X → List ℕ → Type 0) (V : List X → Type 0) (number : ℕ) (known : List X) (contents : List ℕ) {before mid after rest : List ℕ} → Reads AreCustoms before mid → Reads (IsSection number contents) mid after
    → Only (IsVector W) known contents rest → rest ≢ [] → LacksSection number W V before
there_more W V number known contents customs read only more = record {
  none = λ o xs parts first is valid.
      let r = has_present number o parts contents first customs read in
      more (sym (only.same xs [] (whole W xs contents (subst (Contents W xs) r.0 is))).1);
}

pub none_lacks : {X : Type 0} (W : X → List ℕ → Type 0) (V : List X → Type 0) (number : ℕ) {before : List ℕ} → NoSections before → LacksSection number W V before
none_lacks W V number refused = record { none = λ o xs parts first is valid. refused.none first.all.sections first.all.written }

-- ---- what is stepped over

pub no_customs : (found : Option (List ℕ)) (mid after : List ℕ) → false ≡ is_some found → IfNone found (slice_get mid 0 ≢ Some 0) → IfNone found (after ≡ mid) → slice_get after 0 ≢ Some 0
no_customs None mid after is absent same = λ e. absent (ap (λ (t : List ℕ). slice_get t 0) (sym same) ∙ e)
no_customs (Some c) mid after is absent same = absurd cc

rest_of : (found : Option (List ℕ)) (number : ℕ) (o : Option (List ℕ)) (parts : List (ℕ × Option (List ℕ))) {before mid after : List ℕ} → HasFirst number o parts before → Reads AreCustoms before mid → slice_get mid 0 ≢ Some 0
    → IfSome found (λ contents. Reads (IsSection number contents) mid after) → IfNone found (slice_get mid 0 ≢ Some number) → IfNone found (after ≡ mid) → HasSections parts after
rest_of None number o parts first customs custom one absent same = subst (HasSections parts) (sym same) (has_absent number o parts first customs custom absent).1
rest_of (Some contents) number o parts first customs custom one absent same = (has_present number o parts contents first customs one).1

pub behind_section : (found : Option (List ℕ)) (number : ℕ) (before mid after : List ℕ) → Reads AreCustoms before mid → slice_get mid 0 ≢ Some 0
    → IfSome found (λ contents. Reads (IsSection number contents) mid after) → IfNone found (slice_get mid 0 ≢ Some number) → IfNone found (after ≡ mid) → Behind number before after
behind_section found number before mid after customs custom one absent same = record { rest = λ o parts first. rest_of found number o parts first customs custom one absent same }

custom : (k : ℕ) (c : List ℕ) (ss : List (ℕ × List ℕ)) → unless_custom k c ss ≡ [] → k ≡ 0
custom zero c ss e = refl
custom (suc k) c ss e = absurd cc

all_read : (ss : List (ℕ × List ℕ)) (bytes : List ℕ) → AreSections ss bytes → others ss ≡ [] → slice_get bytes 0 ≢ Some 0 → bytes ≡ []
all_read [] bytes h none first = h
all_read (s ∷ ss) bytes h none first = absurd (first (begins s ss bytes h ∙ ap Some (custom s.0 s.1 (others ss) none)))

-- No section is left, and no custom one comes next.
pub has_end : {before mid : List ℕ} → HasSections [] before → Reads AreCustoms before mid → slice_get mid 0 ≢ Some 0 → mid ≡ []
has_end {mid = mid} all read first = let h = has_customs read all in all_read h.sections mid h.written h.order first

-- ---- in order

number_same : (n : ℕ) → is_number n n ≡ true
number_same zero = refl
number_same (suc n) = number_same n

-- whether no part has this number
abbrev pub is_free : ℕ → List (ℕ × Option (List ℕ)) → Bool
is_free n [] = true
is_free n (p ∷ ps) = cond (is_number p.0 n) false (is_free n ps)

free_head : (k n : ℕ) (rest : Bool) → cond (is_number k n) false rest ≡ true → k ≢ n
free_head k n rest free e =
    let same : is_number k n ≡ true = ap (λ (j : ℕ). is_number j n) e ∙ number_same n in
    let taken = rw same at free in
    absurd cc

free_tail : (b rest : Bool) → cond b false rest ≡ true → rest ≡ true
free_tail true rest e = absurd cc
free_tail false rest e = e

free : (n : ℕ) (parts : List (ℕ × Option (List ℕ))) → is_free n parts ≡ true → All (λ p. p.0 ≢ n) parts
free n [] e = λ k d lt. absurd (omega arith)
free n (p ∷ ps) e = All-cons (λ p. p.0 ≢ n) p ps (free_head p.0 n (is_free n ps) e) (free n ps (free_tail (is_number p.0 n) (is_free n ps) e))

pub has_first : (number : ℕ) {o : Option (List ℕ)} {parts : List (ℕ × Option (List ℕ))} {bytes : List ℕ} → is_free number parts ≡ true → 0 < number → HasSections ((number, o) ∷ parts) bytes → HasFirst number o parts bytes
has_first number {o} {parts} {bytes} e lt all = record { positive = lt; once = free number parts e; all = all }

-- what is left behind a section
pub has_next : (number : ℕ) {o : Option (List ℕ)} {parts : List (ℕ × Option (List ℕ))} {before after : List ℕ} → is_free number parts ≡ true → 0 < number
    → Behind number before after → HasSections ((number, o) ∷ parts) before → HasSections parts after
has_next number {o} {parts} e lt behind all = behind.rest o parts (has_first number e lt all)
