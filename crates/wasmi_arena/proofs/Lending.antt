-- Opened slots lend their items as one `&mut [T]`, or one item as a `&mut T`, and are slots again once it has ended. Assumes `Logic`.
use mathlib.Core.Path.{◌≡◌, refl, sym, ap, subst, ◌∙◌}
use Prim.Native.Nat.{ℕ, ◌+◌, ◌*◌, ◌<◌, ◌^◌}
use Rattle.wasmi_arena.proofs.Steps.{zero-mul, arith, length, get_or, set, length-set, Ura, full_share, SProp, ent, sep, Lft, GName, Share, Fml, fsep, fobor, fobs, fauth, named, Val, Logic, sem, ⋆, ‵, raw, ◌⊛◌, some, later, ◌$◌, ◌∵◌, !, qed, by, done, move, use1, use2, split, group, rewrite, fsplit, fsplit3, fjoin, fjoin3, fpack, flt_i, Body, cells, Part, lends_Part, row, others, takes, puts, place_is, nth, mem, cell_at, part_at, shares, Ptr, block_ptr}
use mathlib.Core.List.{List, [], ◌∷◌}
use lib.ListN.{drop as rest_of}
use lib.Seq.{take_at as front_of}
use denote.FollowSlice.{Elements, lends_Elements}
use denote.Memory.{part_of}
use denote.Slice.{Room}
use Rattle.core.proofs.mem.Param.{El, R, el_x}
use Rattle.core.proofs.ptr.Rows.{times_below}
use Rattle.std.specs.List.{refill}
use Rattle.wasmi_arena.specs.inner.Block.{runs, slots_own, empty}
use Rattle.wasmi_arena.specs.inner.Slots.{with_items}
use Rattle.wasmi_arena.proofs.Frame.{SlotsRow, Marker, bytes}
use Rattle.wasmi_arena.proofs.SlotRuns.{sz, to_cells, of_cells}

-- slots s at the place (rb, ro), whose block begins at (b, o) and none of which was emptied
module _ (E : El) {M : Type 1} {𝓤 : Ura M} (𝓛 : Logic 𝓤) (s : (SlotsRow E).Denot) (vs : List Val) (rb ro b o : ℕ) (at : s.block ≡ block_ptr b o) (none_taken : s.taken ≡ 0) (small : bytes E s < 2 ^ 63) (few : length s.items < 2 ^ 64) where
  open 𝓛 use {H, A}

  -- what the slots are once ws was written to their items
  abbrev pub written : List (el_x E) → (SlotsRow E).Denot
  written ws = with_items s (refill (length s.items) s.items ws)

  -- the slots without items, and the value without bytes
  abbrev pub beside_items : Fml
  beside_items = fsep (fsep (empty (R E) s.taken b o) (empty (R E) s.free b ((s.taken + length s.items) * sz E + o))) (fsep ((Marker E).own_val (tt, tt) vs) (cell_at full_share (SlotsRow E).mir vs rb ro))

  pub from_start : s.taken * sz E + o ≡ o
  from_start = ap (λ n. n * sz E + o) none_taken ∙ omega (arith, zero-mul (sz E))

  pub room_for_items : Room (R E) (length s.items)
  room_for_items =
      (few, times_below (length s.items) (s.taken + length s.items + s.free) (sz E) (2 ^ 63) (omega arith) small)

  -- the items are put back among the slots
  pub items_back : (ws : List (el_x E)) → length ws ≡ length s.items → ent 𝓤 (sep 𝓤 (sem 𝓛 (cells (mem (R E)) ws b o)) (sem 𝓛 beside_items)) (sem 𝓛 ((mem (SlotsRow E)).own_at (written ws) rb ro))
  unfolding part_of
  items_back ws same =
      let size = sz E in
      let last : ws ≡ refill (length s.items) s.items ws = sym (front_of ws (rest_of (length ws) s.items) (length s.items) same) in
      let past : (s.taken + length s.items) * size + o ≡ (s.taken + length ws) * size + o = ap (λ n. (s.taken + n) * size + o) (sym same) in
      let fits : (s.taken + length ws + s.free) * size < 2 ^ 63 = subst (λ n. (s.taken + n + s.free) * size < 2 ^ 63) (sym same) small in
      qed 𝓛 (‵ (cells (mem (R E)) ws b o) ∷ ‵ beside_items ∷ []) ∵ use1 𝓛 (‵ (row (R E) full_share ws b o)) (of_cells E 𝓛 b o ws o) $
      rewrite ! 0 (λ (from : ℕ). ‵ (row (R E) full_share ws b from)) (sym from_start) refl $ move ! (1 ∷ []) $ fsplit3 ! $ fsplit ! $ move ! (1 ∷ []) $
      rewrite ! 0 (λ (from : ℕ). ‵ (empty (R E) s.free b from)) past refl $ move ! (4 ∷ 1 ∷ 0 ∷ []) $ fjoin3 ! $
      flt_i ! ((s.taken + length ws + s.free) * size) (2 ^ 63) fits $ fjoin ! $
      rewrite ! 0 (λ (p : Ptr). ‵ (slots_own (R E) p s.taken ws s.free)) (sym at) refl $ rewrite ! 0 (λ (xs : List (el_x E)). ‵ (slots_own (R E) s.block s.taken xs s.free)) last refl $
      move ! (1 ∷ 0 ∷ []) $ fjoin ! $ move ! (1 ∷ 0 ∷ []) $ fjoin ! $
      fpack ! (List Val) (λ us. fsep (cell_at full_share (SlotsRow E).mir us rb ro) ((SlotsRow E).own_val (written ws) us)) vs $ done !

  module _ (κ : Lft) (q : Share) (γ : GName) where
    -- the items as a slice lent for κ, whose name is δ, and what the slots are afterwards
    abbrev pub Lent : GName → SProp 𝓤
    Lent = Elements 𝓛 (SlotsRow E) (R E) written (named 0) κ q rb ro b o γ s.items room_for_items (sem 𝓛 beside_items) items_back

    pub lends_all : ent 𝓤 (⋆ 𝓛 (‵ (runs (R E) b o s.taken s.items s.free) ∷ ‵ ((Marker E).own_val (tt, tt) vs) ∷ ‵ (cell_at full_share (SlotsRow E).mir vs rb ro)
        ∷ ‵ (fobor κ q (Body (mem (SlotsRow E)) rb ro γ)) ∷ ‵ (fobs γ ((SlotsRow E).coded.code s)) ∷ ‵ (fauth γ ((SlotsRow E).coded.code s)) ∷ [])) (⋆ 𝓛 (later (some (λ (δ : GName). raw (Lent δ))) ∷ []))
    lends_all =
        let code = (SlotsRow E).coded.code s in
        qed 𝓛 (‵ (runs (R E) b o s.taken s.items s.free) ∷ ‵ ((Marker E).own_val (tt, tt) vs) ∷ ‵ (cell_at full_share (SlotsRow E).mir vs rb ro)
        ∷ ‵ (fobor κ q (Body (mem (SlotsRow E)) rb ro γ)) ∷ ‵ (fobs γ code) ∷ ‵ (fauth γ code) ∷ []) ∵
        fsplit ! $ rewrite ! 0 (λ (from : ℕ). ‵ (row (R E) full_share s.items b from)) from_start refl $ use1 𝓛 (‵ (cells (mem (R E)) s.items b o)) (to_cells E 𝓛 b o s.items o) $
        move ! (1 ∷ 2 ∷ 3 ∷ []) $ fjoin3 ! $ move ! (2 ∷ 3 ∷ 4 ∷ 1 ∷ 0 ∷ []) $ group ! 5 $
        by ! (lends_Elements 𝓛 (SlotsRow E) (R E) written (named 0) κ q rb ro b o γ s.items room_for_items (sem 𝓛 beside_items) items_back code code)

-- slots s at the place (rb, ro), whose block begins at (b, o) and none of which was emptied, and slot i of them, which is filled
module _ (E : El) {M : Type 1} {𝓤 : Ura M} (𝓛 : Logic 𝓤) (s : (SlotsRow E).Denot) (vs : List Val) (rb ro b o : ℕ) (at : s.block ≡ block_ptr b o) (none_taken : s.taken ≡ 0) (small : bytes E s < 2 ^ 63)
    (i : ℕ) (inside : i < length s.items) (x : el_x E) where
  open 𝓛 use {H, A}

  -- what the slots are once w was written there
  abbrev pub written_at : el_x E → (SlotsRow E).Denot
  written_at w = with_items s (set s.items i w)

  -- all but that item
  abbrev pub beside_item : Fml
  beside_item = fsep (fsep (others (shares (R E)) full_share s.items i b o) (fsep (empty (R E) s.taken b o) (empty (R E) s.free b ((s.taken + length s.items) * sz E + o))))
      (fsep ((Marker E).own_val (tt, tt) vs) (cell_at full_share (SlotsRow E).mir vs rb ro))

  start : s.taken * sz E + o ≡ o
  start = ap (λ n. n * sz E + o) none_taken ∙ omega (arith, zero-mul (sz E))

  pub item_back : (w : el_x E) → ent 𝓤 (sep 𝓤 (sem 𝓛 (part_at (R E) full_share w b (i * sz E + o))) (sem 𝓛 beside_item)) (sem 𝓛 ((mem (SlotsRow E)).own_at (written_at w) rb ro))
  unfolding part_of
  item_back w =
      let size = sz E in let ws = set s.items i w in let same : length ws ≡ length s.items = length-set s.items i w in
      let past : (s.taken + length s.items) * size + o ≡ (s.taken + length ws) * size + o = ap (λ n. (s.taken + n) * size + o) (sym same) in
      let fits : (s.taken + length ws + s.free) * size < 2 ^ 63 = subst (λ n. (s.taken + n + s.free) * size < 2 ^ 63) (sym same) small in
      qed 𝓛 (‵ (part_at (R E) full_share w b (i * size + o)) ∷ ‵ beside_item ∷ []) ∵ rewrite ! 0 (λ (k : ℕ). ‵ (part_at (R E) full_share w b k)) (sym (place_is size o i)) refl $
      move ! (1 ∷ []) $ fsplit3 ! $ fsplit3 ! $ move ! (5 ∷ 0 ∷ []) $ use2 𝓛 (‵ (row (R E) full_share ws b o)) (puts (shares (R E)) full_share 𝓛 s.items i w b o inside) $
      rewrite ! 0 (λ (from : ℕ). ‵ (row (R E) full_share ws b from)) (sym start) refl $ move ! (2 ∷ []) $ rewrite ! 0 (λ (from : ℕ). ‵ (empty (R E) s.free b from)) past refl $
      move ! (1 ∷ 2 ∷ 0 ∷ []) $ fjoin3 ! $ flt_i ! ((s.taken + length ws + s.free) * size) (2 ^ 63) fits $ fjoin ! $
      rewrite ! 0 (λ (p : Ptr). ‵ (slots_own (R E) p s.taken ws s.free)) (sym at) refl $ move ! (1 ∷ 0 ∷ []) $ fjoin ! $ move ! (1 ∷ 0 ∷ []) $ fjoin ! $
      fpack ! (List Val) (λ us. fsep (cell_at full_share (SlotsRow E).mir us rb ro) ((SlotsRow E).own_val (written_at w) us)) vs $ done !

  module _ (κ : Lft) (q : Share) (γ : GName) where
    -- the item as a `&mut` for κ, whose name is δ, and what the slots are afterwards
    abbrev pub LentItem : GName → SProp 𝓤
    LentItem = Part 𝓛 (SlotsRow E) (R E) written_at (named 0) κ q rb ro b (i * sz E + o) γ (sem 𝓛 beside_item) item_back (get_or s.items i x)

    pub lends_one : ent 𝓤 (⋆ 𝓛 (‵ (runs (R E) b o s.taken s.items s.free) ∷ ‵ ((Marker E).own_val (tt, tt) vs) ∷ ‵ (cell_at full_share (SlotsRow E).mir vs rb ro)
        ∷ ‵ (fobor κ q (Body (mem (SlotsRow E)) rb ro γ)) ∷ ‵ (fobs γ ((SlotsRow E).coded.code s)) ∷ ‵ (fauth γ ((SlotsRow E).coded.code s)) ∷ [])) (⋆ 𝓛 (later (some (λ (δ : GName). raw (LentItem δ))) ∷ []))
    lends_one =
        let code = (SlotsRow E).coded.code s in let item = get_or s.items i x in
        qed 𝓛 (‵ (runs (R E) b o s.taken s.items s.free) ∷ ‵ ((Marker E).own_val (tt, tt) vs) ∷ ‵ (cell_at full_share (SlotsRow E).mir vs rb ro)
        ∷ ‵ (fobor κ q (Body (mem (SlotsRow E)) rb ro γ)) ∷ ‵ (fobs γ code) ∷ ‵ (fauth γ code) ∷ []) ∵
        fsplit ! $ rewrite ! 0 (λ (from : ℕ). ‵ (row (R E) full_share s.items b from)) start refl $
        use1 𝓛 (‵ (part_at (R E) full_share item b (nth (sz E) o i)) ⊛ ‵ (others (shares (R E)) full_share s.items i b o)) (takes (shares (R E)) full_share 𝓛 s.items i x b o inside) $ split ! $
        rewrite ! 0 (λ (k : ℕ). ‵ (part_at (R E) full_share item b k)) (place_is (sz E) o i) refl $
        move ! (1 ∷ 2 ∷ []) $ fjoin ! $ move ! (0 ∷ 2 ∷ 3 ∷ []) $ fjoin3 ! $ move ! (2 ∷ 3 ∷ 4 ∷ 1 ∷ 0 ∷ []) $ group ! 5 $
        by ! (lends_Part 𝓛 (SlotsRow E) (R E) written_at (named 0) κ q rb ro b (i * sz E + o) γ (sem 𝓛 beside_item) item_back code code item)
