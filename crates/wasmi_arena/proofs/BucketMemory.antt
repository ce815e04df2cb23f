-- An open bucket in memory is a pointer to its block, the items there, and the rest. Assumes `Logic`.
--     Cell      the pointer, in a bucket's place at `at`
--     bucket_out      the place is opened to the pointer and the items, and closed at as many other items
use mathlib.Core.Path.{◌≡◌, refl, sym, ap, subst, ◌∙◌}
use Prim.Native.Nat.{ℕ, zero, ◌+◌, ◌*◌, ◌<◌, ◌^◌}
use Rattle.wasmi_arena.proofs.Steps.{zero-mul, arith, length, Ura, full_share, SProp, ent, sep, wand, ex, all, all_e, apply∗, never, id⊢, Share, Fml, fsep, fat, w64, Ty, Val, align, size, up, ‵, raw, ◌⊛◌, some, ◌$◌, ◌∵◌, !, qed, by, move, use1, use2, split, fsplit, fjoin, fpick, fpack, flt_l, flt_i, rewrite, pick, show, frame, each, assume, Logic, sem, usize, row, Is, Lawfuls, shows, part_at, cell_at, lone, view_owns, view_made, plain_out, Plain-in, Laws, param_laws, uint_Lawful, RattleType, Denots, Ptr, block_ptr, in_a_block, peeks, only, Member, rows_of, PartsBack, shape_of, Struct}
use mathlib.Core.List.{List, [], ◌∷◌}
use borrow.Table.OneValue.{part_out, part_in}
use denote.Memory.{part_of}
use denote.Struct.Members.{parts_at}
use denote.Struct.Parts.{Struct-parts}
use Rattle.core.proofs.alloc.Calls.{Al}
use Rattle.core.proofs.mem.Param.{El, R}
use Rattle.core.proofs.ptr.Rows.{times_below}
use Rattle.core.proofs.slots.Leases.{P}
use Rattle.core.specs.declared.option.Option.TheVariants.{Some}
use Rattle.std_alloc.proofs.RcSteps.{word}
use Rattle.std.specs.Mem.{type_size}
use Rattle.wasmi_arena.specs.inner.Block.{empty, slots_own}
use Rattle.wasmi_arena.specs.Bucket.{Bucket, bucket}
use Rattle.wasmi_arena.specs.inner.Slots.{with_items}
use Rattle.wasmi_arena.specs.contracts.bucket.Bucket as BucketType
use Rattle.wasmi_arena.specs.contracts.bucket.Bucket.TheInside as InsideType
use Rattle.wasmi_arena.proofs.raw.block.BlockPtr.TheLaws as PtrLaws
use Rattle.wasmi_arena.proofs.raw.block.DeallocRight.TheLaws as RightLaws
use Rattle.wasmi_arena.proofs.raw.block.Slots.TheLaws as SlotsLaws
use Rattle.wasmi_arena.proofs.bucket.Bucket.TheLaws as BucketLaws
use Rattle.wasmi_arena.proofs.Frame.{SlotsRow, PtrRow, ptr_tells}
use Rattle.wasmi_arena.proofs.NewBlock.{RightRow}
use Rattle.wasmi_arena.proofs.SomeMemory.{value_at, Rest, some_out, some_back}
use Rattle.wasmi_arena.proofs.TableMemory.{MaybeBucket}

module _ (E : El) (Z : Al) where
  abbrev pub X : Type 0
  X = E.row.Denot

  abbrev pub BucketRow : RattleType
  BucketRow = BucketType.the_row (R E) (P E Z) Z.g

  pub open_laws : Laws BucketRow
  open_laws = BucketLaws.the_row_laws (R E) (P E Z) Z.g (param_laws 0 E.row E.laws) (param_laws 1 Z.row Z.laws)

  abbrev Inside : RattleType
  Inside = InsideType.the_row (R E) (P E Z) Z.g

  abbrev view : (Inside).Denot → Bucket X
  view = BucketType.the_view (R E) (P E Z) Z.g

  abbrev holds : (Inside).Denot → Type 0
  holds = BucketType.the_invariant (R E) (P E Z) Z.g

  -- a bucket's fields, at which it is seen as this one
  abbrev Seen : Bucket X → Type 0
  Seen held = (v : (Inside).Denot) × ((view v ≡ held) × holds v)

  abbrev fields : List Member
  fields =
      record { row = PtrRow E; ty = lone (PtrRow E).mir } ∷ record { row = usize; ty = lone usize.mir } ∷ record { row = usize; ty = lone usize.mir }
      ∷ record { row = SlotsRow E; ty = lone (SlotsRow E).mir } ∷ record { row = RightRow E Z; ty = lone (RightRow E Z).mir } ∷ record { row = P E Z; ty = lone (P E Z).mir } ∷ []

  abbrev values : (Inside).Denot → Denots (rows_of fields)
  values v = (v.ptr, (v.len, (v.capacity, (v.slots, (v.right, (v.alloc, tt))))))

  -- where the fields of the bucket in a place at o lie, of which the pointer is the first
  abbrev pub fields_at : ℕ → ℕ
  fields_at o = value_at BucketRow open_laws o

  abbrev pub pointer_at : ℕ → ℕ
  pointer_at o = fields_at o + up (align (lone (PtrRow E).mir)) zero

  abbrev past : Ty → ℕ → ℕ
  past τ e = up (align τ) e + size τ

  abbrev slots_at : ℕ → ℕ
  slots_at o = fields_at o + up (align (lone (SlotsRow E).mir)) (past (lone usize.mir) (past (lone usize.mir) (past (lone (PtrRow E).mir) zero)))

  -- where the items of a bucket lie
  abbrev pub Block : Bucket X → Type 0
  Block held = (b : ℕ) × ((o : ℕ) × (length held.items * type_size (R E) < 2 ^ 63))

  module _ {M : Type 1} {𝓤 : Ura M} (𝓛 : Logic 𝓤) (b o : ℕ) where
    abbrev pub Cell : Share → ℕ × ℕ → Fml
    Cell q at = fat q (lone (PtrRow E).mir) b (pointer_at o) (word (block_ptr at.0 at.1))

    abbrev pub Items : ℕ × ℕ → List X → Fml
    Items at items = row (R E) full_share items at.0 at.1

    -- so many items
    abbrev pub Alike : Bucket X → Type 0
    Alike held = (items : List X) × (length items ≡ length held.items)

    abbrev pub Shut : Bucket X → ℕ × ℕ → List X → SProp 𝓤
    Shut held at items = wand 𝓤 (sem 𝓛 (fsep (Cell full_share at) (Items at items))) (sem 𝓛 (part_at (MaybeBucket E Z 27) full_share (Some (bucket items held.capacity)) b o))

    abbrev pub Open : (held : Bucket X) → Block held → SProp 𝓤
    Open held at = sep 𝓤 (sem 𝓛 (Cell full_share (at.0, at.1.0))) (sep 𝓤 (sem 𝓛 (Items (at.0, at.1.0) held.items)) (all 𝓤 (λ (z : Alike held). Shut held (at.0, at.1.0) z.0)))

    lawful : Lawfuls 𝓛 (rows_of fields)
    lawful =
        let word' = uint_Lawful 𝓛 w64 in let t = param_laws 0 E.row E.laws in let a = param_laws 1 Z.row Z.laws in
        ((PtrLaws.the_row_laws (R E) t).lawful 𝓛, (word', (word', ((SlotsLaws.the_row_laws (R E) t).lawful 𝓛, ((RightLaws.the_row_laws (R E) (P E Z) Z.g t a).lawful 𝓛, (a.lawful 𝓛, tt))))))

    pub bucket_out : (held : Bucket X) → ent 𝓤 (sem 𝓛 (part_at (MaybeBucket E Z 27) full_share (Some held) b o)) (ex 𝓤 (Open held))
    unfolding part_of
    bucket_out held =
        let at = fields_at o in let s = type_size (R E) in
        qed 𝓛 (‵ (part_at (MaybeBucket E Z 27) full_share (Some held) b o) ∷ []) ∵
        use1 𝓛 (‵ (part_at BucketRow full_share held b at) ⊛ raw (Rest BucketRow open_laws 𝓛 held b o)) (some_out BucketRow open_laws 𝓛 held b o) $ split ! $
        use1 𝓛 (some (λ (x : Seen held). ‵ (part_at Inside full_share x.0 b at))) (plain_out BucketRow Inside (view_owns Inside (Bucket X) (BucketRow).coded view holds) 𝓛 full_share held b at) $ pick ! (λ x.
        let v = x.0 in let good = x.1.1 in
        use1 𝓛 (‵ (parts_at full_share fields zero (values v) b at) ⊛ raw (PartsBack 𝓛 full_share [] fields b at)) (Struct-parts 𝓛 full_share [] fields lawful (values v) b at) $ split ! $ fsplit ! $
        use1 𝓛 (some (λ (c : Val). ‵ (fat full_share (lone (PtrRow E).mir) b (pointer_at o) c) ⊛ ‵ ((PtrRow E).own_val v.ptr (c ∷ [])))) (part_out 𝓛 (PtrRow E) refl full_share v.ptr b (pointer_at o)) $ pick ! (λ c. split ! $ move ! (1 ∷ []) $
        peeks ! (PtrRow E) (Is (PtrRow E)) (shows 𝓛 (PtrRow E)) v.ptr (c ∷ []) (λ is. let c-is : c ≡ word v.ptr.start = ap only (ptr_tells E v.ptr (c ∷ []) is) in
        rewrite ! 0 (λ (w : Val). ‵ ((PtrRow E).own_val v.ptr (w ∷ []))) c-is refl $
        -- [the pointer's own; the pointer; the other fields; the two ways back]
        move ! (2 ∷ []) $ fsplit ! $ move ! (1 ∷ []) $ fsplit ! $ move ! (1 ∷ []) $ fsplit ! $
        fpick ! (λ vs. fsplit ! $ move ! (1 ∷ []) $ fsplit ! $ move ! (1 ∷ []) $
        in_a_block ! v.slots.block (λ p. slots_own (R E) p v.slots.taken v.slots.items v.slots.free) (id⊢ 𝓤 (never 𝓤)) (λ pb po block-is. fsplit ! $ flt_l ! (λ small. fsplit ! $
        -- [the items; the other slots; the marker; the slots' bytes; the right and the allocator; the capacity; the length; the pointer's own; the pointer; the two ways back]
        let items-are : v.slots.items ≡ held.items = ap (λ (h : Bucket X). h.items) x.1.0 in
        let first : v.slots.taken * s + po ≡ po = ap (λ n. n * s + po) good.none_taken ∙ omega (arith, zero-mul s) in
        let start-is : v.ptr.start ≡ block_ptr pb po = sym good.one.block ∙ block-is in
        let few : length held.items * s < 2 ^ 63 = subst (λ (xs : List X). length xs * s < 2 ^ 63) items-are (times_below (length v.slots.items) (v.slots.taken + length v.slots.items + v.slots.free) s (2 ^ 63) (omega arith) small) in
        rewrite ! 0 (λ (n : ℕ). ‵ (row (R E) full_share v.slots.items pb n)) first refl $ rewrite ! 0 (λ (xs : List X). ‵ (row (R E) full_share xs pb po)) items-are refl $
        rewrite ! 8 (λ (w : Val). ‵ (fat full_share (lone (PtrRow E).mir) b (pointer_at o) w)) (c-is ∙ ap word start-is) refl $
        move ! (8 ∷ 0 ∷ []) $ show ! (Open held) (pb, (po, few)) $ frame ! $ frame ! $ each ! (λ (z : Alike held). Shut held (pb, po) z.0) (λ z.
        let slots = with_items v.slots z.0 in let new = bucket z.0 held.capacity in
        let v' : (Inside).Denot = record { ptr = v.ptr; len = v.len; capacity = v.capacity; slots = slots; right = v.right; alloc = v.alloc } in
        let counted : length v.slots.items ≡ length z.0 = ap length items-are ∙ sym z.1 in
        let good' : holds v' = record {
          one = record { block = good.one.block; right_block = good.one.right_block; right_slots = good.one.right_slots; right_alloc = good.one.right_alloc };
          none_taken = good.none_taken;
          items_counted = good.items_counted ∙ counted;
          rest_free = good.rest_free;
        } in
        let small' = subst (λ (n : ℕ). (v.slots.taken + n + v.slots.free) * s < 2 ^ 63) counted small in
        assume ! (‵ (fsep (Cell full_share (pb, po)) (Items (pb, po) z.0))) $ fsplit ! $ rewrite ! 0 (λ (w : Val). ‵ (fat full_share (lone (PtrRow E).mir) b (pointer_at o) w)) (sym (ap word start-is)) refl $
        move ! (0 ∷ 8 ∷ []) $ use2 𝓛 (‵ (part_at (PtrRow E) full_share v.ptr b (pointer_at o))) (part_in 𝓛 (PtrRow E) refl full_share v.ptr b (pointer_at o) (word v.ptr.start)) $
        -- [the pointer; the items; the other slots; the marker; the slots' bytes; the right and the allocator; the capacity; the length; the two ways back]
        move ! (1 ∷ []) $ rewrite ! 0 (λ (n : ℕ). ‵ (row (R E) full_share z.0 pb n)) (sym first) refl $
        rewrite ! 2 (λ (n : ℕ). ‵ (fsep (empty (R E) v.slots.taken pb po) (empty (R E) v.slots.free pb ((v.slots.taken + n) * s + po)))) counted refl $ move ! (0 ∷ 2 ∷ []) $ fjoin ! $
        flt_i ! ((slots.taken + length slots.items + slots.free) * s) (2 ^ 63) small' $ fjoin ! $ rewrite ! 0 (λ (p : Ptr). ‵ (slots_own (R E) p slots.taken slots.items slots.free)) (sym block-is) refl $
        move ! (2 ∷ 0 ∷ []) $ fjoin ! $ move ! (2 ∷ 0 ∷ []) $ fjoin ! $ fpack ! (List Val) (λ us. fsep (cell_at full_share (SlotsRow E).mir us b (slots_at o)) ((SlotsRow E).own_val slots us)) vs $
        -- [the slots; the pointer; the right and the allocator; the capacity; the length; the two ways back]
        move ! (0 ∷ 2 ∷ []) $ fjoin ! $ move ! (2 ∷ 0 ∷ []) $ fjoin ! $ move ! (2 ∷ 0 ∷ []) $ fjoin ! $ move ! (1 ∷ 0 ∷ []) $ fjoin ! $ move ! (1 ∷ []) $
        use1 𝓛 (raw (wand 𝓤 (sem 𝓛 (parts_at full_share fields zero (values v') b at)) (sem 𝓛 (part_at Inside full_share v' b at))))
        (all_e 𝓤 (λ (u : Denots (rows_of fields)). wand 𝓤 (sem 𝓛 (parts_at full_share fields zero u b at)) (sem 𝓛 (part_at (Struct (shape_of [] fields)) full_share u b at))) (values v')) $ move ! (1 ∷ 0 ∷ []) $
        use2 𝓛 (‵ (part_at Inside full_share v' b at)) (apply∗ 𝓤 (sem 𝓛 (parts_at full_share fields zero (values v') b at)) (sem 𝓛 (part_at Inside full_share v' b at))) $
        use1 𝓛 (‵ (part_at BucketRow full_share new b at)) (Plain-in BucketRow Inside (view_owns Inside (Bucket X) (BucketRow).coded view holds) 𝓛 full_share new v'
        (view_made Inside (Bucket X) (BucketRow).coded view holds 𝓛 new v' (ap (λ (h : Bucket X). bucket z.0 h.capacity) x.1.0, good')) b at) $
        by ! (some_back BucketRow open_laws 𝓛 held new b o))))))))

    pub bucket_back : (held : Bucket X) (at : Block held) (z : Alike held)
        → ent 𝓤 (sep 𝓤 (all 𝓤 (λ (z : Alike held). Shut held (at.0, at.1.0) z.0)) (sep 𝓤 (sem 𝓛 (Cell full_share (at.0, at.1.0))) (sem 𝓛 (Items (at.0, at.1.0) z.0)))) (sem 𝓛 (part_at (MaybeBucket E Z 27) full_share (Some (bucket z.0 held.capacity)) b o))
    bucket_back held at z =
        let p : ℕ × ℕ = (at.0, at.1.0) in let both = fsep (Cell full_share p) (Items p z.0) in
        qed 𝓛 (raw (all 𝓤 (λ (z : Alike held). Shut held p z.0)) ∷ ‵ (Cell full_share p) ∷ ‵ (Items p z.0) ∷ []) ∵
        use1 𝓛 (raw (Shut held p z.0)) (all_e 𝓤 (λ (z : Alike held). Shut held p z.0) z) $ move ! (1 ∷ 2 ∷ []) $ fjoin ! $
        by ! (apply∗ 𝓤 (sem 𝓛 both) (sem 𝓛 (part_at (MaybeBucket E Z 27) full_share (Some (bucket z.0 held.capacity)) b o)))
