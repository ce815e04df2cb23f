-- How a line is told apart, and how a text is cut into lines.
-- for src/line.rt, src/session.rt
use Rattle.std.proofs.Common.{◌≡◌, ◌≢◌, ℕ, suc, ◌<◌, ◌≤◌, Bool, true, false, cond, List, [], ◌∷◌, ◌++◌, length, take, drop, get_or, Option, None, Some, MatchOption, refl, sym, ap, ◌∙◌, subst, arith, eqb, lit<, take-append-drop}
use Rattle.std.specs.Str.{bytes_eq, IsUtf8, IsCharBoundary}
use Rattle.std.specs.Str.Pattern.{FindsChar}
use Rattle.std.proofs.lemmas.Bool.{false_from_ne_true, true≢false}
use Rattle.std.proofs.lemmas.Bool.Decides.{nat_tests}
use Rattle.std.proofs.lemmas.Grind.{common_steps}
use Rattle.std.proofs.lemmas.Slice.Eq.{bytes_eq-Decides}
use Rattle.std.proofs.lemmas.Str.{IsCharBoundary-after_ascii}
use Rattle.std.proofs.lemmas.Str.Pattern.{NoCharPasses-char, drop_at_char}
use Rattle.wasmi_script_lib.specs.Lines.{lines_of, onto_first}

-- a text that begins with a byte and a space may be cut after the space
cuts_after_space : (line : List ℕ) (letter : ℕ) → IsUtf8 line → take 2 line ≡ letter ∷ 32 ∷ [] → IsCharBoundary line 2
cuts_after_space line letter utf8 e =
    let two : length (take 2 line) ≡ 2 = ap length e in
    let space : get_or (take 2 line) 1 0 ≡ 32 = ap (λ xs. get_or xs 1 0) e in
    let long : 1 < length line = grind (arith, common_steps) in
    let same : get_or line 1 0 ≡ 32 = grind (arith, common_steps) in
    IsCharBoundary-after_ascii line 1 utf8 (omega arith) (omega arith)

-- so one that can't be cut there begins with no letter and a space
pub bytes_eq-no_cut : (line : List ℕ) (letter : ℕ) → IsUtf8 line → ¬ (IsCharBoundary line 2) → bytes_eq (take 2 line) (letter ∷ 32 ∷ []) ≡ false
bytes_eq-no_cut line letter utf8 none =
    false_from_ne_true _ (λ yes. none (cuts_after_space line letter utf8 ((bytes_eq-Decides (take 2 line) (letter ∷ 32 ∷ [])).0 yes)))

-- no line feed among the bytes
abbrev pub LacksLineFeed : List ℕ → Type 0
LacksLineFeed bs = (i : ℕ) → i < length bs → get_or bs i 0 ≢ 10

LacksLineFeed-tail : (b : ℕ) (bs : List ℕ) → LacksLineFeed (b ∷ bs) → LacksLineFeed bs
LacksLineFeed-tail b bs lacks i h = lacks (suc i) (omega arith)

eqb-head : (b : ℕ) (bs : List ℕ) → LacksLineFeed (b ∷ bs) → eqb b 10 ≡ false
eqb-head b bs lacks = let no : b ≢ 10 = lacks 0 (omega arith) in grind (arith, nat_tests)

-- what stands before a line feed is the first line
pub lines_of-cut : (x rest : List ℕ) → LacksLineFeed x → lines_of (x ++ (10 ∷ rest)) ≡ x ∷ lines_of rest
lines_of-cut [] rest lacks = refl
lines_of-cut (b ∷ bs) rest lacks =
    let more = lines_of-cut bs rest (LacksLineFeed-tail b bs lacks) in
    rw (eqb-head b bs lacks) (ap (onto_first b) more)

-- what has no line feed is one line, unless it is empty
pub lines_of-last : (b : ℕ) (bs : List ℕ) → LacksLineFeed (b ∷ bs) → lines_of (b ∷ bs) ≡ (b ∷ bs) ∷ []
lines_of-last b [] lacks = rw (eqb-head b [] lacks) refl
lines_of-last b (d ∷ ds) lacks =
    let more = lines_of-last d ds (LacksLineFeed-tail b (d ∷ ds) lacks) in
    rw (eqb-head b (d ∷ ds) lacks) (ap (onto_first b) more)

-- no more lines than bytes
length-onto_first-le : (b : ℕ) (lines : List (List ℕ)) → length (onto_first b lines) ≤ suc (length lines)
length-onto_first-le b [] = omega arith
length-onto_first-le b (line ∷ lines) = omega arith

length-choice-le : (t : Bool) (b n : ℕ) (lines : List (List ℕ)) → length lines ≤ n → length (cond t ([] ∷ lines) (onto_first b lines)) ≤ suc n
length-choice-le true b n lines h = omega arith
length-choice-le false b n lines h = let g = length-onto_first-le b lines in omega arith

pub length-lines_of-le : (bs : List ℕ) → length (lines_of bs) ≤ length bs
length-lines_of-le [] = omega arith
length-lines_of-le (b ∷ bs) = length-choice-le (eqb b 10) b (length bs) (lines_of bs) (length-lines_of-le bs)

-- the part before the first line feed of a text is its first line, and what `live` leaves has the others
pub lines_of-step : (text x rest : List ℕ) (live : Bool) (o : Option (ℕ × ℕ)) → FindsChar 10 text o
    → MatchOption o ((x ≡ text) × (live ≡ false)) (λ q. 0 < q.1 → (x ≡ take q.0 text) × (live ≡ true) × (rest ≡ drop q.1 text))
    → (length x ≡ 0 → live ≡ true) → lines_of text ≡ x ∷ cond live (lines_of rest) []
lines_of-step [] x rest live None finds cut full = absurd (true≢false (sym (full (ap length cut.0)) ∙ cut.1))
lines_of-step (b ∷ bs) x rest live None finds cut full =
    rw (cut.0, cut.1) (lines_of-last b bs (λ i l. NoCharPasses-char 10 (b ∷ bs) i finds (lit< tt) l))
lines_of-step text x rest live (Some q) finds cut full =
    let parts = cut (omega (arith, finds.1.ends)) in
    let split : text ≡ x ++ (10 ∷ rest) = sym (take-append-drop q.0 text) ∙ ap (λ t. take q.0 text ++ t) (drop_at_char 10 text q.0 q.1 finds.1 (lit< tt)) ∙ cc in
    let lacks : LacksLineFeed x = subst LacksLineFeed (sym parts.0) (λ i l. NoCharPasses-char 10 (take q.0 text) i finds.0 (lit< tt) l) in
    ap lines_of split ∙ lines_of-cut x rest lacks ∙ ap (λ t. x ∷ cond t (lines_of rest) []) (sym parts.1)

-- where a text is asked for its next line and has none, no line is left
nothing_found : (b : ℕ) (bs : List ℕ) (o : Option (ℕ × ℕ)) → FindsChar 10 (b ∷ bs) o
    → MatchOption o (length (b ∷ bs) ≡ 0) (λ q. q.1 ≡ 0) → ⊥
nothing_found b bs None finds end = omega arith
nothing_found b bs (Some q) finds end = omega (arith, finds.1.ends)

pub lines_of-end : (text : List ℕ) (live : Bool)
    → (live ≡ true → (o : Option (ℕ × ℕ)) × FindsChar 10 text o × MatchOption o (length text ≡ 0) (λ q. q.1 ≡ 0))
    → cond live (lines_of text) [] ≡ []
lines_of-end text false none = refl
lines_of-end [] true none = refl
lines_of-end (b ∷ bs) true none = let found = none refl in absurd (nothing_found b bs found.0 found.1 found.2)
