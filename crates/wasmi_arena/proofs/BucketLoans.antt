-- A bucket in what a loan holds is lent to a call, and the loan is closed by what the call says of it. Assumes `Logic`.
--     opens, closes      the loan is opened, and the bucket lent;  the bucket follows what was lent of it, so the loan does
--     one_out, one_back      a run of buckets is one of them and the others, also once its items were written
use mathlib.Core.Path.{refl, sym}
use Prim.Native.Nat.{ℕ, ◌+◌, ◌*◌, ◌<◌}
use mathlib.Core.List.{List, [], ◌∷◌}
use Rattle.wasmi_arena.proofs.Steps.{length, get_or, Ura, full_share, SProp, ent, sep, ex, Lft, GName, Share, Fml, fsep, flft, fobs, fauth, fbor, named, Val, vptr, ‵, raw, ◌⊛◌, later, ◌$◌, ◌∵◌, !, qed, done, move, keep, use1, use2, split, split3, fjoin, fjoin3, fpack, feq_i, rewrite, group, await, now, show, updating, Logic, sem, open_ref, SemTy, Body, follows, row, others, takes, puts, nth, place_is, mem, part_at, shares, RattleType, MutBor, MutRef, mut_vals}
use base.Share
use base.Fml.{flent}
use ghost.Rules.{aged}
use types.Follow.{after, closes_following}
use types.Late.{deep, ages, bor_new_deep}
use types.Tokens.{name_new}
use Rattle.core.proofs.alloc.Calls.{Al}
use Rattle.core.proofs.mem.Param.{El, R}
use Rattle.core.proofs.slots.Leases.{P}
use Rattle.core.specs.declared.option.Option.{Option}
use Rattle.core.specs.declared.option.Option.TheVariants.{None}
use Rattle.std.specs.Mem.{type_size}
use Rattle.wasmi_arena.specs.Bucket.{Bucket}
use Rattle.wasmi_arena.specs.inner.Loan.{SameBuckets}
use Rattle.wasmi_arena.specs.inner.Table.{items_of, refilled, with_items, write_all}
use Rattle.wasmi_arena.proofs.Refilled.{refilled-own}
use Rattle.wasmi_arena.proofs.Rewritten.{refilled-write_all}
use Rattle.wasmi_arena.proofs.TableMemory.{MaybeBucket}

module _ (E : El) (Z : Al) {M : Type 1} {𝓤 : Ura M} (𝓛 : Logic 𝓤) where
  open 𝓛 use {H, A}

  abbrev Item : RattleType
  Item = MaybeBucket E Z 27

  -- the loan of x for κ lies at (b, o), the bucket at (b, at)
  module _ (Lent : SemTy) (κ : Lft) (q : Share) (γ : GName) (b o at : ℕ) (held : Item.Denot) (Rest : SProp 𝓤) (x : Lent.rep) where
    abbrev pub lent : GName → MutBor Item.Denot
    lent δ = record { ref_ptr = (b, at); ghost_name = δ; now = held }

    -- what closes the loan again
    abbrev pub Kept : ℕ × GName → SProp 𝓤
    Kept k = sep 𝓤 (aged 𝓤 H A k.0 κ (Share.left q) (Body Lent b o γ))
        (sep 𝓤 (A.obs γ (Lent.coded.code x)) (sep 𝓤 (A.auth γ (Lent.coded.code x)) (sep 𝓤 (A.lent (deep k.0 κ) (Body (mem Item) b at k.1)) Rest)))

    abbrev pub Opened : ℕ × GName → SProp 𝓤
    Opened k = sep 𝓤 (sem 𝓛 ((MutRef (named 0) κ Item).own_val (lent k.1) (mut_vals (lent k.1)))) (sep 𝓤 (A.lft κ (Share.right q)) (Kept k))

    pub opens : ent 𝓤 (sem 𝓛 (Lent.own_at x b o)) (sep 𝓤 (sem 𝓛 (part_at Item full_share held b at)) Rest)
        → ent 𝓤 (sep 𝓤 (A.obs γ (Lent.coded.code x)) (sep 𝓤 (A.bor κ (Body Lent b o γ)) (A.lft κ q))) (H.⇛ (ex 𝓤 Opened))
    opens apart =
        qed 𝓛 (‵ (fobs γ (Lent.coded.code x)) ∷ ‵ (fbor κ (Body Lent b o γ)) ∷ ‵ (flft κ q) ∷ []) ∵ updating ! $ move ! (2 ∷ []) $
        use1 𝓛 (‵ (flft κ (Share.left q)) ⊛ ‵ (flft κ (Share.right q))) (𝓛.lfts.lft_split κ q) $ split ! $ move ! (2 ∷ 3 ∷ 0 ∷ []) $
        open_ref ! tt Lent {x = x} {b = b} {o = o} $ use1 𝓛 (‵ (part_at Item full_share held b at) ⊛ raw Rest) apart $ split ! $
        -- [the bucket; the rest; the open borrow, in three entries; half of the token]
        name_new ! tt (Item.coded.code held) (λ δ. move ! (2 ∷ 1 ∷ []) $ fjoin ! $ fpack ! Item.Denot (λ z. fsep (part_at Item full_share z b at) (fauth δ (Item.coded.code z))) held $
        move ! (3 ∷ []) $ ages ! (λ age. move ! (1 ∷ []) $ bor_new_deep ! tt age κ $
        -- [the bucket's borrow, and its lender's right; the open borrow; the bucket's name; the rest; the loan's name, in two entries; half of the token]
        move ! (3 ∷ 0 ∷ []) $ feq_i ! (List Val) (vptr b at ∷ []) (vptr b at ∷ []) refl $ fjoin3 ! $
        now ! $ show ! Opened (age, δ) $ keep ! (0 ∷ 6 ∷ 2 ∷ 4 ∷ 5 ∷ 1 ∷ 3 ∷ []) $ done !))

    pub closes : (U : RattleType) (G : U.Denot → Item.Denot) (F : U.Denot → Lent.rep)
        → ((w : U.Denot) → ent 𝓤 (sep 𝓤 (sem 𝓛 (part_at Item full_share (G w) b at)) Rest) (sem 𝓛 (Lent.own_at (F w) b o))) → (k : ℕ × GName) (δ : GName)
        → ent 𝓤 (sep 𝓤 (Kept k) (sem 𝓛 (follows Item U k.1 δ G))) (H.⇛ (sep 𝓤 (A.lft κ (Share.left q)) (sem 𝓛 (after Lent (mem U) γ δ F))))
    closes U G F back k δ =
        let code = Lent.coded.code x in
        qed 𝓛 ((raw (aged 𝓤 H A k.0 κ (Share.left q) (Body Lent b o γ)) ⊛ ‵ (fobs γ code) ⊛ ‵ (fauth γ code) ⊛ ‵ (flent (deep k.0 κ) (Body (mem Item) b at k.1)) ⊛ raw Rest) ∷ ‵ (follows Item U k.1 δ G) ∷ []) ∵
        updating ! $ split3 ! $ move ! (2 ∷ []) $ split3 ! $ move ! (3 ∷ 4 ∷ 0 ∷ 1 ∷ 5 ∷ 2 ∷ []) $ group ! 6 $
        use1 𝓛 (later (‵ (flft κ (Share.left q)) ⊛ ‵ (after Lent (mem U) γ δ F))) (closes_following 𝓛 Lent (mem Item) (mem U) G F κ (Share.left q) b o b at γ k.1 δ Rest back k.0 code code) $
        await ! tt $ split ! $ now ! $ done !

  -- bucket k of a run from (b, o) on
  module _ (buckets : List (Option (Bucket E.row.Denot))) (b o k : ℕ) (inside : k < length buckets) where
    abbrev pub here : Item.Denot
    here = get_or buckets k None

    abbrev pub here_at : ℕ
    here_at = k * type_size Item + o

    abbrev pub others_of : Fml
    others_of = others (shares Item) full_share buckets k b o

    abbrev Lent : SemTy
    Lent = SameBuckets (R E) (P E Z) Z.g buckets

    pub one_out : ent 𝓤 (sem 𝓛 (Lent.own_at (items_of buckets) b o)) (sep 𝓤 (sem 𝓛 (part_at Item full_share here b here_at)) (sem 𝓛 others_of))
    one_out =
        qed 𝓛 (‵ (row Item full_share (refilled buckets (items_of buckets)) b o) ∷ []) ∵
        rewrite ! 0 (λ (bs : List (Option (Bucket E.row.Denot))). ‵ (row Item full_share bs b o)) (refilled-own buckets) refl $
        use1 𝓛 (‵ (part_at Item full_share here b (nth (type_size Item) o k)) ⊛ ‵ others_of) (takes (shares Item) full_share 𝓛 buckets k None b o inside) $ split ! $
        rewrite ! 0 (λ (at : ℕ). ‵ (part_at Item full_share here b at)) (place_is (type_size Item) o k) refl $ done !

    pub one_back : (ws : List E.row.Denot) → ent 𝓤 (sep 𝓤 (sem 𝓛 (part_at Item full_share (with_items here ws) b here_at)) (sem 𝓛 others_of)) (sem 𝓛 (Lent.own_at (items_of (write_all buckets k ws)) b o))
    one_back ws =
        qed 𝓛 (‵ (part_at Item full_share (with_items here ws) b here_at) ∷ ‵ others_of ∷ []) ∵
        rewrite ! 0 (λ (at : ℕ). ‵ (part_at Item full_share (with_items here ws) b at)) (sym (place_is (type_size Item) o k)) refl $
        use2 𝓛 (‵ (row Item full_share (write_all buckets k ws) b o)) (puts (shares Item) full_share 𝓛 buckets k (with_items here ws) b o inside) $
        rewrite ! 0 (λ (bs : List (Option (Bucket E.row.Denot))). ‵ (row Item full_share bs b o)) (sym (refilled-write_all buckets k ws)) refl $ done !
