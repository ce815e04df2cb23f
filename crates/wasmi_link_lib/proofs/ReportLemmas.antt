-- The texts of a report, put together.
-- for src/text.rt, src/text/names.rt
use Rattle.std.proofs.Common.{◌≡◌, ℕ, ◌+◌, ◌<◌, ◌≤◌, List, [], ◌∷◌, ◌++◌, take, get_or, length, codes, decimal, refl, sym, ap, ◌∙◌, append_assoc, append-nil, zero, suc, cond, false, arith}
use Rattle.std.specs.Char.{encode_utf8, is_control}
use Rattle.std.specs.Fmt.{digits}
use Rattle.std.specs.List.{All, flat_map}
use Rattle.std.specs.Str.{IsAscii, IsUtf8, chars}
use Rattle.std.proofs.lemmas.Str.{chars_past_char, chars-nil, chars-IsAscii, encode_ascii}
use Rattle.std.proofs.lemmas.Bool.Decides.{nat_tests}
use Rattle.std.proofs.lemmas.List.{take_more, take_all, nil_from_length}
use Rattle.std.proofs.lemmas.List.Concat.{flat_map-append}
use Rattle.std.proofs.lemmas.List.Folds.{flat_map-map}
use Rattle.wasmi_link_lib.specs.declared.line.Line as rust_line
use Rattle.wasmi_link_lib.specs.declared.line.Linked as rust_linked
use Rattle.wasmi_link_lib.specs.Lines.{Line, Linked, line_of, linked_of}
use Rattle.wasmi_link_lib.specs.Report.{char_text, name_text, answered, is_different, is_found, is_missing, counts_text, line_text, report_text}

-- one character of a name after another
pub name_more : (all old new before rest : List ℕ) (c : ℕ) → IsUtf8 before → before ≡ encode_utf8 c ++ rest
    → old ++ name_text before ≡ all → new ≡ old ++ char_text c → new ++ name_text rest ≡ all
name_more all old new before rest c utf8 parts so_far added =
    ap (λ t. t ++ name_text rest) added ∙ append_assoc old (char_text c) (name_text rest)
    ∙ ap (λ cs. old ++ flat_map char_text cs) (sym (chars_past_char before rest c utf8 parts)) ∙ so_far

-- and none is left
pub name_end : (all old rest : List ℕ) → length rest ≡ 0 → old ++ name_text rest ≡ all → old ≡ all
name_end all old rest none so_far =
    sym (append-nil old) ∙ ap (λ cs. old ++ flat_map char_text cs) (sym chars-nil ∙ ap chars (sym (nil_from_length rest none))) ∙ so_far

-- the texts of the items before one, and that of this one
pub texts_more : {X : Type 0} (f : X → List ℕ) (start old new : List ℕ) (items : List X) (i : ℕ) (item : X) → i < length items → item ≡ get_or items i item
    → old ≡ start ++ flat_map f (take i items) → new ≡ old ++ f item → new ≡ start ++ flat_map f (take (i + 1) items)
texts_more f start old new items i item within is so_far added =
    added ∙ ap (λ t. t ++ f item) so_far ∙ append_assoc start (flat_map f (take i items)) (f item)
    ∙ ap (λ t. start ++ t) (sym (
    ap (flat_map f) (take_more items i item within ∙ ap (λ x. take i items ++ x ∷ []) (sym is))
    ∙ flat_map-append f (take i items) (item ∷ []) ∙ ap (λ t. flat_map f (take i items) ++ t) (append-nil (f item))))

-- a line, piece by piece
pub line_pieces : (old t1 t2 t3 t4 t5 t6 t7 t8 t9 asker word kind asked field type answer : List ℕ) → word ≡ kind
    → t1 ≡ old ++ asker → t2 ≡ t1 ++ (codes ": " ++ (word ++ codes " ")) → t3 ≡ t2 ++ asked → t4 ≡ t3 ++ codes "." → t5 ≡ t4 ++ field
    → t6 ≡ t5 ++ codes " " → t7 ≡ t6 ++ type → t8 ≡ t7 ++ codes ": " → t9 ≡ t8 ++ answer
    → t9 ++ codes "\n" ≡ old ++ ((asker ++ codes ": " ++ kind ++ codes " " ++ asked ++ codes "." ++ field ++ codes " " ++ type ++ codes ": " ++ answer) ++ (10 ∷ []))
line_pieces old t1 t2 t3 t4 t5 t6 t7 t8 t9 asker word kind asked field type answer e0 e1 e2 e3 e4 e5 e6 e7 e8 e9 =
    rw (e9, e8, e7, e6, e5, e4, e3, e2, e1, e0) (simp append_assoc)

-- the line of counts, piece by piece
counts_pieces : (old t1 t2 modules distinct types names imports found missing different : List ℕ)
    → t1 ≡ old ++ (modules ++ (codes " modules, " ++ (distinct ++ (codes " types of " ++ (types ++ codes ", ")))))
    → t2 ≡ t1 ++ (names ++ (codes " names, " ++ (imports ++ codes " imports: ")))
    → t2 ++ (found ++ (codes " found, " ++ (missing ++ (codes " missing, " ++ (different ++ (codes " differs" ++ (10 ∷ [])))))))
    ≡ old ++ ((modules ++ codes " modules, " ++ distinct ++ codes " types of " ++ types ++ codes ", " ++ names ++ codes " names, " ++ imports ++ codes " imports: "
    ++ found ++ codes " found, " ++ missing ++ codes " missing, " ++ different ++ codes " differs") ++ (10 ∷ []))
counts_pieces old t1 t2 modules distinct types names imports found missing different e1 e2 = rw (e2, e1) (simp append_assoc)

pub counts_written : (linked : Linked) (old t1 t2 : List ℕ) (imports found missing different : ℕ)
    → imports ≡ length linked.lines → found ≡ answered is_found linked.lines → missing ≡ answered is_missing linked.lines → different ≡ answered is_different linked.lines
    → t1 ≡ old ++ (decimal linked.modules ++ (codes " modules, " ++ (decimal linked.distinct_types ++ (codes " types of " ++ (decimal linked.types ++ codes ", ")))))
    → t2 ≡ t1 ++ (decimal linked.names ++ (codes " names, " ++ (decimal imports ++ codes " imports: ")))
    → t2 ++ (decimal found ++ (codes " found, " ++ (decimal missing ++ (codes " missing, " ++ (decimal different ++ (codes " differs" ++ (10 ∷ [])))))))
    ≡ old ++ (counts_text linked ++ (10 ∷ []))
counts_written linked old t1 t2 imports found missing different i f m d e1 e2 =
    counts_pieces old t1 t2 _ _ _ _ _ _ _ _ e1 e2
    ∙ λ j. old ++ ((decimal linked.modules ++ codes " modules, " ++ decimal linked.distinct_types ++ codes " types of " ++ decimal linked.types ++ codes ", "
    ++ decimal linked.names ++ codes " names, " ++ decimal (i j) ++ codes " imports: " ++ decimal (f j) ++ codes " found, " ++ decimal (m j) ++ codes " missing, "
    ++ decimal (d j) ++ codes " differs") ++ (10 ∷ []))

-- the lines, and then the counts
pub report_written : {A : Type 0} (report : rust_linked.Linked A) (items : List (rust_line.Line A)) (lines : List ℕ) (i : ℕ) (text : List ℕ)
    → items ≡ report.lines.items → length items ≤ i
    → lines ≡ flat_map (λ line. line_text (line_of line) ++ 10 ∷ []) (take i items)
    → text ≡ lines ++ (counts_text (linked_of report) ++ 10 ∷ []) → text ≡ report_text (linked_of report)
report_written report items lines i text same all written counted =
    counted ∙ ap (λ t. t ++ (counts_text (linked_of report) ++ 10 ∷ [])) (
    written ∙ ap (flat_map (λ line. line_text (line_of line) ++ 10 ∷ [])) (take_all i items all ∙ same)
    ∙ sym (flat_map-map (λ (line : Line). line_text line ++ 10 ∷ []) line_of report.lines.items))

-- ASCII characters that print are written as they are
char_text-plain : (b : ℕ) → 32 ≤ b → b < 127 → char_text b ≡ b ∷ []
char_text-plain b low high =
    let no : is_control b ≡ false = grind (arith, nat_tests) in
    ap (λ t. cond t (92 ∷ codes "u{" ++ digits 16 false b ++ codes "}") (encode_utf8 b)) no ∙ encode_ascii b (omega (arith, high))

flat_map-plain : (bs : List ℕ) → All (λ b. (32 ≤ b) × (b < 127)) bs → flat_map char_text bs ≡ bs
flat_map-plain [] plain = refl
flat_map-plain (b ∷ bs) plain =
    let here = plain 0 0 (omega arith) in
    ap (λ t. t ++ flat_map char_text bs) (char_text-plain b here.0 here.1) ∙ ap (λ t. b ∷ t) (flat_map-plain bs (λ k d within. plain (suc k) d (omega (arith, within))))

is_ascii-plain : (bs : List ℕ) → All (λ b. (32 ≤ b) × (b < 127)) bs → IsAscii bs
is_ascii-plain [] plain i = omega arith
is_ascii-plain (b ∷ bs) plain zero = let here = plain 0 0 (omega arith) in omega (arith, here.1)
is_ascii-plain (b ∷ bs) plain (suc i) = is_ascii-plain bs (λ k d within. plain (suc k) d (omega (arith, within))) i

pub name_text-plain : (name : List ℕ) → All (λ b. (32 ≤ b) × (b < 127)) name → name_text name ≡ name
name_text-plain name plain = ap (flat_map char_text) (chars-IsAscii name (is_ascii-plain name plain)) ∙ flat_map-plain name plain
