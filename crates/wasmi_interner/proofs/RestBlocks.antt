-- Facts on entries in blocks of one width.
-- for src/rest.rt
use Rattle.std.proofs.Common.{◌≡◌, ℕ, zero, suc, ◌+◌, ◌-◌, ◌*◌, ◌/◌, ◌%◌, ◌^◌, ◌<◌, ◌≤◌, List, [], ◌∷◌, ◌++◌, length, take, get_or, slice_get, slice_set, Some, not, ◌==◌, nat_lt, refl, sym, ap, subst, ◌∙◌, arith, inl, inr}
use Rattle.std.specs.List.{All, flat_map, insert}
use Rattle.std.proofs.lemmas.Bool.{cases_lt}
use Rattle.std.proofs.Math.Nat.{suc-mul}
use Rattle.std.proofs.Math.Pow.{pow_mono}
use Rattle.std.proofs.lemmas.Nat.{div-add-mod', div_below, mod_below, pow-add, pow_pos}
use Rattle.std.proofs.lemmas.Option.{slice_get-get_or}
use Rattle.std.proofs.lemmas.List.{append_assoc, append-nil, length-append, length-set, get_or_append_left, get_or-append_right, take_more}
use Rattle.std.proofs.lemmas.List.Edits.{insert-append_left, insert-append_right, length-insert}
use Rattle.std.proofs.lemmas.Grind.{common_steps, flat_map-append}
use Rattle.wasmi_interner.specs.declared.entry.Entry.{Entry}
use Rattle.wasmi_interner.specs.inner.RestBlocks.{AreFew, BlockState, IsFull, IsBlocks, IsWidth, RestState, entries_in, room_in, with_entries}

pub width_pos : (w : ℕ) → IsWidth w → 0 < w
width_pos w is = omega (arith, is.2, pow_pos is.0)

width_least : (w : ℕ) → IsWidth w → 16 ≤ w
width_least w is = omega (arith, is.2, pow_mono {i = 4} {j = is.0} is.1.0)

-- a rank is so many widths and a place
divided : (w rank b p : ℕ) → b ≡ rank / w → p ≡ rank % w → rank ≡ b * w + p
divided w rank b p block place = sym (div-add-mod' rank w) ∙ (λ i. sym block i * w + sym place i)

-- the block and the place of a rank
placed : (w : ℕ) (blocks : List BlockState) (b p rank : ℕ) → IsBlocks w blocks → p < w → rank ≡ b * w + p → rank < length (entries_in blocks)
    → (b < length blocks) × ((d : BlockState) → (p < length (get_or blocks b d).entries) × ((x : Entry) → get_or (entries_in blocks) rank x ≡ get_or (get_or blocks b d).entries p x))
placed w [] b p rank is small at below = absurd (omega (arith, below))
placed w (q ∷ []) zero p rank is small at below =
    let here : rank ≡ p = omega (arith, at) in
    (omega arith, λ d. (omega (arith, below, here, length-append q.entries []), λ x. ap (λ xs. get_or xs rank x) (append-nil q.entries) ∙ ap (λ k. get_or q.entries k x) here))
placed w (q ∷ []) (suc b) p rank is small at below = absurd (omega (arith, below, at, suc-mul b w, is.1, length-append q.entries []))
placed w (q ∷ r ∷ rest) zero p rank is small at below =
    let here : rank ≡ p = omega (arith, at) in
    let within : rank < length q.entries = omega (arith, is.0.full, small, here) in
    (omega arith, λ d. (omega (arith, within, here), λ x. get_or_append_left q.entries (entries_in (r ∷ rest)) x rank within ∙ ap (λ k. get_or q.entries k x) here))
placed w (q ∷ r ∷ rest) (suc b) p rank is small at below =
    let past : w ≤ rank = omega (arith, at, suc-mul b w) in
    let next = placed w (r ∷ rest) b p (rank - w) is.1 small (omega (arith, at, suc-mul b w)) (omega (arith, below, past, is.0.full, length-append q.entries (entries_in (r ∷ rest)))) in
    (omega (arith, next.0), λ d. ((next.1 d).0, λ x. get_or-append_right q.entries (entries_in (r ∷ rest)) w rank x is.0.full past ∙ (next.1 d).1 x))

-- where the entry of a rank is read
pub at_rank : (w rank b : ℕ) (blocks : List BlockState) (s : RestState) → record { entries = entries_in blocks; room = room_in blocks; width = w; blocks = length blocks } ≡ s
    → IsWidth w → IsBlocks w blocks → rank < length s.entries → b ≡ rank / w
    → (b < length blocks) × ((p : ℕ) (block : BlockState) → p ≡ rank % w → block ≡ get_or blocks b block → (p < length block.entries) × (slice_get s.entries rank ≡ slice_get block.entries p))
at_rank w rank b blocks s seen wide is below at =
    let within = subst (λ (s : RestState). rank < length s.entries) (sym seen) below in
    let there = placed w blocks b (rank % w) rank is (mod_below rank w (width_pos w wide)) (divided w rank b (rank % w) at refl) within in (
      there.0,
      λ p block place here.
          let any : Entry = record { hash = 0; symbol = 0 } in
          let entry = get_or block.entries p any in
          let found = subst (λ (b : BlockState). (rank % w < length b.entries) × (get_or (entries_in blocks) rank entry ≡ get_or b.entries (rank % w) entry)) (sym here) ((there.1 block).0, (there.1 block).1 entry) in
          let small : p < length block.entries = omega (arith, found.0, place) in (
            small,
            ap (λ (s : RestState). slice_get s.entries rank) (sym seen)
                ∙ (slice_get-get_or (entries_in blocks) rank entry within
                ∙ (ap Some (found.1 ∙ ap (λ k. get_or block.entries k entry) (sym place)) ∙ sym (slice_get-get_or block.entries p entry small))),
          ),
    )

-- how many there are, by the last block
pub counted : (w : ℕ) (blocks : List BlockState) (b : ℕ) (d : BlockState) → IsBlocks w blocks → b + 1 ≡ length blocks
    → (length (entries_in blocks) ≡ b * w + length (get_or blocks b d).entries)
    × (room_in blocks ≡ w - length (get_or blocks b d).entries)
    × ((get_or blocks b d).width ≡ w)
    × (length (get_or blocks b d).entries ≤ w)
counted w [] b d is last = absurd (omega (arith, last))
counted w (q ∷ []) zero d is last = (omega (arith, length-append q.entries []), omega (arith, is.0), is.0, is.1)
counted w (q ∷ []) (suc b) d is last = absurd (omega (arith, last))
counted w (q ∷ r ∷ rest) zero d is last = absurd (omega (arith, last))
counted w (q ∷ r ∷ rest) (suc b) d is last =
    let next = counted w (r ∷ rest) b d is.1 (omega (arith, last)) in
    (omega (arith, next.0, suc-mul b w, is.0.full, length-append q.entries (entries_in (r ∷ rest))), next.1, next.2, next.3)

-- where there is room, there is a block, and the last isn't full
pub has_room : (w : ℕ) (blocks : List BlockState) → IsBlocks w blocks → 0 < room_in blocks → (0 < length blocks) × (length (entries_in blocks) < length blocks * w) × (0 < w)
has_room w [] is room = absurd (omega (arith, room))
has_room w (q ∷ []) is room = (omega arith, omega (arith, room, is.0, suc-mul 0 w, length-append q.entries []), omega (arith, room, is.0))
has_room w (q ∷ r ∷ rest) is room =
    let next = has_room w (r ∷ rest) is.1 room in
    (omega arith, omega (arith, next.1, suc-mul (length (r ∷ rest)) w, is.0.full, length-append q.entries (entries_in (r ∷ rest))), next.2)

-- where an entry goes in: there is such a block, and its place is below the width
pub goes : (w rank b p : ℕ) (blocks : List BlockState) (s : RestState) → record { entries = entries_in blocks; room = room_in blocks; width = w; blocks = length blocks } ≡ s
    → IsBlocks w blocks → 0 < s.room → rank ≤ length s.entries → b ≡ rank / w → p ≡ rank % w
    → (b < length blocks) × (p < w) × (rank ≡ b * w + p) × (0 < room_in blocks) × (rank ≤ length (entries_in blocks))
goes w rank b p blocks s seen is room within block place =
    let here = subst (λ (s : RestState). (0 < s.room) × (rank ≤ length s.entries)) (sym seen) (room, within) in
    let some = has_room w blocks is here.0 in
    (omega (arith, block, div_below rank w (length blocks) some.2 (omega (arith, some.1, here.1))), omega (arith, place, mod_below rank w some.2), divided w rank b p block place, here.0, here.1)

-- a full block may stand before others
after : (w : ℕ) (q : BlockState) (blocks : List BlockState) → IsFull w q → IsBlocks w blocks → 0 < length blocks → IsBlocks w (q ∷ blocks)
after w q [] full is some = absurd (omega (arith, some))
after w q (r ∷ rest) full is some = (full, is)

room_after : (q : BlockState) (blocks : List BlockState) → 0 < length blocks → room_in (q ∷ blocks) ≡ room_in blocks
room_after q [] some = absurd (omega (arith, some))
room_after q (r ∷ rest) some = refl

-- a block that isn't the last is full
pub full : (w : ℕ) (blocks : List BlockState) (b : ℕ) (d : BlockState) → IsBlocks w blocks → b + 1 < length blocks
    → IsFull w (get_or blocks b d) × (suc b * w ≤ length (entries_in blocks))
full w [] b d is before = absurd (omega (arith, before))
full w (q ∷ []) b d is before = absurd (omega (arith, before))
full w (q ∷ r ∷ rest) zero d is before = (is.0, omega (arith, is.0.full, suc-mul 0 w, length-append q.entries (entries_in (r ∷ rest))))
full w (q ∷ r ∷ rest) (suc b) d is before =
    let next = full w (r ∷ rest) b d is.1 (omega (arith, before)) in
    (next.0, omega (arith, next.1, suc-mul (suc b) w, is.0.full, length-append q.entries (entries_in (r ∷ rest))))

-- a block that isn't full has room
pub not_full : (len w : ℕ) → len ≤ w → not (len == w) ≡ nat_lt 0 (w - len)
not_full len w small = grind (arith, common_steps)

out_of : (w : ℕ) (blocks : List BlockState) (b p rank : ℕ) (x out : Entry) (d new : BlockState) → IsBlocks w blocks → b + 1 < length blocks → p < w → rank ≡ b * w + p
    → new.width ≡ (get_or blocks b d).width → new.entries ++ out ∷ [] ≡ insert (get_or blocks b d).entries p x
    → IsBlocks w (slice_set blocks b new) × (room_in (slice_set blocks b new) ≡ room_in blocks)
    × (insert (entries_in (slice_set blocks b new)) (suc b * w) out ≡ insert (entries_in blocks) rank x)
out_of w [] b p rank x out d new is before small at wide goes = absurd (omega (arith, before))
out_of w (q ∷ []) b p rank x out d new is before small at wide goes = absurd (omega (arith, before))
out_of w (q ∷ r ∷ rest) zero p rank x out d new is before small at wide goes =
    let others = entries_in (r ∷ rest) in
    let here : p ≡ rank = omega (arith, at) in
    let within : p ≤ length q.entries = omega (arith, is.0.full, small) in
    let long : length new.entries ≡ w =
    omega (arith, length-append new.entries (out ∷ []), ap length goes, length-insert q.entries p x within, is.0.full) in
    let front : suc zero * w - w ≡ 0 = omega (arith, suc-mul 0 w) in
    let first : w ≤ suc zero * w = omega (arith, suc-mul 0 w) in (
      (record { width = wide ∙ is.0.width; full = long }, is.1),
      refl,
      (insert-append_right new.entries others w (suc zero * w) out long first
          ∙ (ap (λ k. new.entries ++ insert others k out) front
          ∙ (sym (append_assoc new.entries (out ∷ []) others)
          ∙ (ap (λ xs. xs ++ others) goes
          ∙ (sym (insert-append_left q.entries others p x within)
          ∙ ap (λ k. insert (q.entries ++ others) k x) here))))),
    )
out_of w (q ∷ r ∷ rest) (suc b) p rank x out d new is before small at wide goes =
    let past : w ≤ rank = omega (arith, at, suc-mul b w) in
    let next = out_of w (r ∷ rest) b p (rank - w) x out d new is.1 (omega (arith, before)) small (omega (arith, at, suc-mul b w)) wide goes in
    let others = entries_in (slice_set (r ∷ rest) b new) in
    let one_less : suc (suc b) * w - w ≡ suc b * w = omega (arith, suc-mul (suc b) w) in
    let behind : w ≤ suc (suc b) * w = omega (arith, suc-mul (suc b) w) in (
      after w q (slice_set (r ∷ rest) b new) is.0 next.0 (omega (arith, length-set (r ∷ rest) b new)),
      room_after q (slice_set (r ∷ rest) b new) (omega (arith, length-set (r ∷ rest) b new)) ∙ next.1,
      (insert-append_right q.entries others w (suc (suc b) * w) out is.0.full behind
          ∙ (ap (λ k. q.entries ++ insert others k out) one_less
          ∙ (ap (λ xs. q.entries ++ xs) next.2
          ∙ sym (insert-append_right q.entries (entries_in (r ∷ rest)) w rank x is.0.full past)))),
    )

-- an entry goes into a full block, and the last one out of it belongs to the front of the next
pub pushed_out : (w : ℕ) (blocks : List BlockState) (b p rank : ℕ) (x out : Entry) (block new : BlockState) → IsBlocks w blocks → b + 1 < length blocks → p < w → rank ≡ b * w + p
    → block ≡ get_or blocks b block → new.width ≡ block.width → new.entries ++ out ∷ [] ≡ insert block.entries p x
    → IsBlocks w (slice_set blocks b new) × (room_in (slice_set blocks b new) ≡ room_in blocks)
    × (insert (entries_in (slice_set blocks b new)) ((b + 1) * w) out ≡ insert (entries_in blocks) rank x)
pushed_out w blocks b p rank x out block new is before small at there wide goes =
    let next = out_of w blocks b p rank x out block new is before small at (wide ∙ ap (λ q. q.width) there) (goes ∙ ap (λ q. insert q.entries p x) there) in
    let one : b + 1 ≡ suc b = omega arith in
    (next.0, next.1, ap (λ k. insert (entries_in (slice_set blocks b new)) (k * w) out) one ∙ next.2)

-- where there is room, the last block takes one more
pub fits_last : (w : ℕ) (blocks : List BlockState) (b : ℕ) (d last : BlockState) → IsBlocks w blocks → b + 1 ≡ length blocks → 0 < room_in blocks → last ≡ get_or blocks b d
    → (length (entries_in blocks) ≡ b * w + length last.entries) × (length last.entries < w) × (last.width ≡ w)
fits_last w blocks b d last is at_end room same =
    let many = counted w blocks b d is at_end in
    rw same (many.0, omega (arith, many.1, room), many.2)

into_last : (w : ℕ) (blocks : List BlockState) (b p rank : ℕ) (x : Entry) (d new : BlockState) → IsBlocks w blocks → b + 1 ≡ length blocks → rank ≡ b * w + p
    → p ≤ length (get_or blocks b d).entries → length (get_or blocks b d).entries < w → new.width ≡ (get_or blocks b d).width → new.entries ≡ insert (get_or blocks b d).entries p x
    → IsBlocks w (slice_set blocks b new) × (entries_in (slice_set blocks b new) ≡ insert (entries_in blocks) rank x)
into_last w [] b p rank x d new is last at within room wide goes = absurd (omega (arith, last))
into_last w (q ∷ []) zero p rank x d new is last at within room wide goes =
    let here : p ≡ rank = omega (arith, at) in (
      (wide ∙ is.0, omega (arith, room, ap length goes, length-insert q.entries p x within)),
      append-nil new.entries ∙ (goes ∙ (ap (λ k. insert q.entries k x) here ∙ ap (λ xs. insert xs rank x) (sym (append-nil q.entries)))),
    )
into_last w (q ∷ []) (suc b) p rank x d new is last at within room wide goes = absurd (omega (arith, last))
into_last w (q ∷ r ∷ rest) zero p rank x d new is last at within room wide goes = absurd (omega (arith, last))
into_last w (q ∷ r ∷ rest) (suc b) p rank x d new is last at within room wide goes =
    let past : w ≤ rank = omega (arith, at, suc-mul b w) in
    let next = into_last w (r ∷ rest) b p (rank - w) x d new is.1 (omega (arith, last)) (omega (arith, at, suc-mul b w)) within room wide goes in (
      after w q (slice_set (r ∷ rest) b new) is.0 next.0 (omega (arith, length-set (r ∷ rest) b new)),
      ap (λ xs. q.entries ++ xs) next.1 ∙ sym (insert-append_right q.entries (entries_in (r ∷ rest)) w rank x is.0.full past),
    )

-- an entry goes into the last block
pub put_last : (w : ℕ) (blocks : List BlockState) (b p rank : ℕ) (x : Entry) (block new : BlockState) → IsBlocks w blocks → b + 1 ≡ length blocks → 0 < room_in blocks
    → rank ≡ b * w + p → p ≤ length block.entries → block ≡ get_or blocks b block → new ≡ with_entries block (insert block.entries p x)
    → IsBlocks w (slice_set blocks b new) × (entries_in (slice_set blocks b new) ≡ insert (entries_in blocks) rank x)
put_last w blocks b p rank x block new is last room at within there goes =
    let fits = fits_last w blocks b block block is last room there in
    let long = ap (λ q. length q.entries) there in
    into_last w blocks b p rank x block new is last at (omega (arith, long, within)) (omega (arith, long, fits.1))
    (ap (λ q. q.width) goes ∙ ap (λ q. q.width) there) (ap (λ q. q.entries) goes ∙ ap (λ q. insert q.entries p x) there)

-- where there is no room, all are full
pub all_full : (w : ℕ) (blocks : List BlockState) → IsBlocks w blocks → room_in blocks ≡ 0 → All (IsFull w) blocks
all_full w blocks is none k d within = elim (cases_lt (k + 1) (length blocks)) [
  | inl before ↦ (full w blocks k d is before).0
  | inr last ↦ let many = counted w blocks k d is (omega (arith, last, within)) in record { width = many.2; full = omega (arith, many.1, many.3, none) }
]

-- so is one that is read
pub full_at : (w : ℕ) (blocks : List BlockState) (n : ℕ) (block : BlockState) → IsBlocks w blocks → room_in blocks ≡ 0 → n < length blocks → block ≡ get_or blocks n block → IsFull w block
full_at w blocks n block is none within there = subst (IsFull w) (sym there) (all_full w blocks is none n block within)

-- and full ones are such blocks
pub of_full : (w : ℕ) (blocks : List BlockState) → All (IsFull w) blocks → IsBlocks w blocks × (room_in blocks ≡ 0)
of_full w [] all = (tt, refl)
of_full w (q ∷ []) all =
    let first = all 0 q (omega arith) in
    ((first.width, omega (arith, first.full)), omega (arith, first.width, first.full))
of_full w (q ∷ r ∷ rest) all =
    let next = of_full w (r ∷ rest) (λ k d within. all (suc k) d (omega (arith, within))) in
    ((all 0 q (omega arith), next.0), next.1)

-- a block is opened where all are full
pub opened : (w : ℕ) (blocks : List BlockState) (new : BlockState) → 0 < w → IsBlocks w blocks → room_in blocks ≡ 0 → new.entries ≡ [] → new.width ≡ w
    → IsBlocks w (blocks ++ new ∷ []) × (entries_in (blocks ++ new ∷ []) ≡ entries_in blocks) × (0 < room_in (blocks ++ new ∷ []))
opened w [] new some is none empty wide = ((wide, omega (arith, ap length empty)), rw empty refl, omega (arith, ap length empty, wide, some))
opened w (q ∷ []) new some is none empty wide =
    ((record { width = is.0; full = omega (arith, is.0, is.1, none) }, (wide, omega (arith, ap length empty))), ap (λ xs. q.entries ++ xs) (rw empty refl), omega (arith, ap length empty, wide, some))
opened w (q ∷ r ∷ rest) new some is none empty wide =
    let next = opened w (r ∷ rest) new some is.1 none empty wide in
    ((is.0, next.0), ap (λ xs. q.entries ++ xs) next.1, next.2)

-- two more blocks of a list have what they have, one behind the other
two_more : (blocks : List BlockState) (n : ℕ) (d e : BlockState) → n + 1 < length blocks
    → entries_in (take (n + 2) blocks) ≡ entries_in (take n blocks) ++ ((get_or blocks n d).entries ++ (get_or blocks (n + 1) e).entries)
two_more blocks n d e within =
    let f : BlockState → List Entry = λ block. block.entries in
    let two : n + 2 ≡ n + 1 + 1 = omega arith in
    ap (λ k. entries_in (take k blocks)) two
    ∙ (ap (flat_map f) (take_more blocks (n + 1) e (omega (arith, within)))
    ∙ (flat_map-append f (take (n + 1) blocks) (get_or blocks (n + 1) e ∷ [])
    ∙ ((λ i. (ap (flat_map f) (take_more blocks n d (omega (arith, within))) ∙ flat_map-append f (take n blocks) (get_or blocks n d ∷ [])) i ++ append-nil (f (get_or blocks (n + 1) e)) i)
    ∙ ((λ i. (entries_in (take n blocks) ++ append-nil (f (get_or blocks n d)) i) ++ f (get_or blocks (n + 1) e))
    ∙ append_assoc (entries_in (take n blocks)) (f (get_or blocks n d)) (f (get_or blocks (n + 1) e))))))

-- so they do where two are joined behind what those before them are joined to
pub joined_more : (blocks wider : List BlockState) (n : ℕ) (block one other : BlockState) → n + 1 < length blocks → one ≡ get_or blocks n one → other ≡ get_or blocks (n + 1) other
    → block.entries ≡ one.entries ++ other.entries → entries_in wider ≡ entries_in (take n blocks) → entries_in (wider ++ block ∷ []) ≡ entries_in (take (n + 2) blocks)
joined_more blocks wider n block one other within first second pair same =
    flat_map-append (λ (b : BlockState). b.entries) wider (block ∷ [])
    ∙ ((λ i. same i ++ (append-nil block.entries ∙ pair) i)
    ∙ ((λ i. entries_in (take n blocks) ++ ((first i).entries ++ (second i).entries))
    ∙ sym (two_more blocks n one other within)))

-- a full block is a list of full ones
pub full_one : (w : ℕ) (block : BlockState) → IsFull w block → All (IsFull w) (block ∷ [])
full_one w block is zero d within = is
full_one w block is (suc k) d within = absurd (omega (arith, within))

-- the only block, which is full, gets room for as many
pub widened : (w half : ℕ) (blocks : List BlockState) (d new : BlockState) → length blocks ≡ 1 → half + half ≡ w → 0 < w → IsFull half (get_or blocks 0 d)
    → new.entries ≡ (get_or blocks 0 d).entries → new.width ≡ w
    → IsBlocks w (slice_set blocks 0 new) × (0 < room_in (slice_set blocks 0 new)) × (length (slice_set blocks 0 new) ≡ 1)
widened w half [] d new alone twice some full same wide = absurd (omega (arith, alone))
widened w half (q ∷ []) d new alone twice some full same wide =
    let long : length new.entries ≡ half = ap length same ∙ full.full in
    ((wide, omega (arith, long, twice)), omega (arith, wide, long, twice, some), refl)
widened w half (q ∷ r ∷ rest) d new alone twice some full same wide = absurd (omega (arith, alone))

-- where blocks are as many as they may be, and more than one, they can be joined by twos
pub even_many : (w n : ℕ) → IsWidth w → AreFew w n → w < 2 ^ 20 → w / 16 ≤ n → (n ≡ 1 → ⊥) → n % 2 ≡ 0
even_many w n is few less many apart = elim few [
  | inl some ↦ elim (cases_lt is.0 5) [
    | inl small ↦
        let at : is.0 ≡ 4 = omega (arith, small, is.1.0) in
        let wide : w ≡ 16 = is.2 ∙ ap (λ k. 2 ^ k) at in
        absurd (apart (omega (arith, wide, some, many)))
    | inr large ↦
        let parts : is.0 ≡ is.0 - 5 + 5 = omega (arith, large) in
        let wide : w ≡ 2 ^ (is.0 - 5) * 32 = is.2 ∙ (ap (λ k. 2 ^ k) parts ∙ pow-add 2 (is.0 - 5) 5) in
        omega (arith, wide, some, many)
  ]
  | inr greatest ↦ absurd (omega (arith, less, greatest))
]

-- and then there may be one more
pub few_joined : (w n m : ℕ) → IsWidth w → AreFew w n → w < 2 ^ 20 → m + m ≡ n → 16 * (m + 1) ≤ w + w
few_joined w n m is few less half = elim few [
  | inl some ↦ omega (arith, some, half, width_least w is)
  | inr greatest ↦ absurd (omega (arith, less, greatest))
]
