-- A map lends its tree for a call that writes values alone, and follows what the call says of it. Assumes `Logic`.
-- for src/map.rt
--     lends_tree      the tree, lent to the call with half of the token
--     tree_comes      what is left of the map is closed over it, and the map has other values in the end, of a new name
use Rattle.wasmi_arena.proofs.Steps.{Ura, SProp, ent, sep, wand, all, ex, all_e, apply∗, Fml, Lft, GName, Share, fsep, flft, fobs, fauth, fbor, named, Val, ‵, raw, ◌⊛◌, some, later, ◌$◌, ◌∵◌, !, qed, by, done, move, keep, drop, split, join, fsplit, fjoin, fjoin3, feq_i, fpick, fpack, rewrite, use0, use1, use2, pick, await, group, assume, now, show, updating, Logic, sem, open_ref, Body, follows, mem, Laws, RattleType, MutBor, MutRef, mut_vals}
use Prim.Native.Nat.{ℕ}
use mathlib.Core.List.{List, [], ◌∷◌}
use mathlib.Core.Path.{refl, subst}
use base.Logic.{via, upd, upd_mono, upd_frame}
use base.Fml.{feq, fex, fseps, fwand, fupd, fdead, flent}
use base.Share
use base.Stored.{Gv}
use ghost.Rules.{aged}
use types.Kit.{feq_l}
use types.Follow.{follows_anew}
use types.Late.{deep, ages, bor_new_deep, close_deep}
use types.Tokens.{name_new}
use denote.Follow.{came}
use Rattle.std.specs.BTreeMap.{values}
use Rattle.std.specs.Map.{values_of}
use Rattle.std.specs.declared.alloc.Allocator as alloc
use Rattle.std.specs.declared.cmp.Ord as ord
use Rattle.std.specs.declared.cmp.PartialEq as eq
use Rattle.std.specs.declared.cmp.PartialOrd as partial
use Rattle.std.specs.declared.hash.Hash as hash
use Rattle.std_collections.specs.Layout.BTreeMapValues.{with_values as tree_with_values}
use Rattle.wasmi_map_specs.specs.Values.{with_values}
use Rattle.wasmi_ordered.proofs.MapMemory.{Map, Tree, Seen, tree_at, bare, tree_out, tree_back}
use Rattle.wasmi_ordered.proofs.Values.{entries-tree_with_values}

module _ (X Y Z : RattleType) (h : hash.Ghosts X.Denot) (p : eq.Ghosts X.Denot) (o : ord.Ghosts X.Denot) (q : partial.Ghosts X.Denot) (g : alloc.Ghosts Z.Denot)
    {M : Type 1} {𝓤 : Ura M} (𝓛 : Logic 𝓤) (κ : Lft) (share : Share) (b from : ℕ) (γ : GName) (entries : List (X.Denot × Y.Denot)) where
  open 𝓛 use {H, A}

  abbrev Self : RattleType
  Self = Map X Y Z h p o q g

  abbrev Inner : RattleType
  Inner = Tree X Y Z h p o q g

  abbrev code : List (X.Denot × Y.Denot) → Gv
  code = Self.coded.code

  abbrev at : ℕ
  at = tree_at X Y Z h p o q g from

  -- the map with its tree apart, the tree's name, and how old the open borrow is
  abbrev pub Opened : Type 0
  Opened = Seen X Y Z h p o q g entries × GName × ℕ

  abbrev pub tree : Opened → Inner.Denot
  tree t = t.0.0.inner

  abbrev pub lent : Opened → MutBor Inner.Denot
  lent t = record { ref_ptr = (b, at); ghost_name = t.1; now = tree t }

  abbrev Whole : Fml
  Whole = Body (mem Self) b from γ

  abbrev Part : Opened → Fml
  Part t = Body (mem Inner) b at t.1

  -- the open borrow, and what is left of the map
  abbrev Open : Opened → SProp 𝓤
  Open t = aged 𝓤 H A t.2 κ (Share.left share) Whole

  abbrev Bare : Opened → SProp 𝓤
  Bare t = bare X Y Z h p o q g 𝓛 b from t.0.0

  -- what stays here while the call has the tree
  abbrev pub Stays : Opened → SProp 𝓤
  Stays t = sep 𝓤 (Open t) (sep 𝓤 (A.obs γ (code entries)) (sep 𝓤 (A.auth γ (code entries)) (sep 𝓤 (A.lent (deep t.2 κ) (Part t)) (Bare t))))

  abbrev pub Lends : Opened → SProp 𝓤
  Lends t = sep 𝓤 (sem 𝓛 ((MutRef (named 0) κ Inner).own_val (lent t) (mut_vals (lent t)))) (sep 𝓤 (A.lft κ (Share.right share)) (Stays t))

  pub lends_tree : (LX : Laws X) (LY : Laws Y) (LZ : Laws Z)
      → ent 𝓤 (sep 𝓤 (A.obs γ (code entries)) (sep 𝓤 (A.bor κ Whole) (A.lft κ share))) (H.⇛ (ex 𝓤 Lends))
  lends_tree LX LY LZ =
      qed 𝓛 (‵ (fobs γ (code entries)) ∷ ‵ (fbor κ Whole) ∷ ‵ (flft κ share) ∷ []) ∵ updating ! $ move ! (2 ∷ []) $
      use1 𝓛 (‵ (flft κ (Share.left share)) ⊛ ‵ (flft κ (Share.right share))) (𝓛.lfts.lft_split κ share) $ split ! $ move ! (2 ∷ 3 ∷ 0 ∷ []) $
      open_ref ! tt (mem Self) {b = b} {o = from} $
      use1 𝓛 (some (λ (x : Seen X Y Z h p o q g entries). ‵ ((mem Inner).own_at x.0.inner b at) ⊛ raw (bare X Y Z h p o q g 𝓛 b from x.0))) (tree_out X Y Z h p o q g 𝓛 b from LX LY LZ entries) $ pick ! (λ x. split ! $
      -- [the tree; what is left of the map; the open borrow; the map's name, twice; half of the token]
      name_new ! tt (Inner.coded.code x.0.inner) (λ δ. move ! (4 ∷ []) $ ages ! (λ n. let t : Opened = (x, δ, n) in move ! (3 ∷ 2 ∷ []) $ fjoin ! $
      fpack ! Inner.Denot (λ z. fsep ((mem Inner).own_at z b at) (fauth δ (Inner.coded.code z))) (tree t) $ bor_new_deep ! tt n κ $
      move ! (3 ∷ 0 ∷ []) $ feq_i ! (List Val) (mut_vals (lent t)) (mut_vals (lent t)) refl $ fjoin3 ! $
      -- [the tree, lent; the lender's right; the open borrow; what is left of the map; its name, twice; half of the token]
      now ! $ show ! Lends t $ move ! (0 ∷ 6 ∷ 2 ∷ 4 ∷ 5 ∷ 1 ∷ 3 ∷ []) $ done !)))

  -- the tree with other values, and the map with them
  abbrev pub rewritten : Opened → Inner.Denot → Inner.Denot
  rewritten t last = tree_with_values (tree t) 0 (values last)

  abbrev pub refilled : Self.Denot → Self.Denot
  refilled last = with_values entries (values_of last)

  -- what the call says of the tree
  abbrev Said : Opened → GName → SProp 𝓤
  Said t γ' = sem 𝓛 (follows Inner Inner t.1 γ' (rewritten t))

  -- the map is put together around its tree
  filled : (t : Opened) (last : Inner.Denot) → ent 𝓤 (sep 𝓤 (sem 𝓛 ((mem Inner).own_at (rewritten t last) b at)) (Bare t)) (sem 𝓛 ((mem Self).own_at (refilled last.entries) b from))
  filled t last = subst (λ (es : Self.Denot). ent 𝓤 (sep 𝓤 (sem 𝓛 ((mem Inner).own_at (rewritten t last) b at)) (Bare t)) (sem 𝓛 ((mem Self).own_at es b from)))
      (entries-tree_with_values (tree t) entries t.0.1.0 (values last)) (tree_back X Y Z h p o q g 𝓛 b from t.0.0 (rewritten t last))

  -- the map's name under one that knows a map by its last entries
  module _ (μ : GName) where
    abbrev Turn : Self.Denot → SProp 𝓤
    Turn es = wand 𝓤 (A.auth μ (code es)) (A.auth γ (code (refilled es)))

    abbrev Known : Self.Denot → SProp 𝓤
    Known es = sep 𝓤 (A.obs μ (code es)) (A.auth μ (code es))

    abbrev There : Self.Denot → SProp 𝓤
    There es = sep 𝓤 (all 𝓤 Turn) (sem 𝓛 ((mem Self).own_at (refilled es) b from))

    there_again : (es : Self.Denot) → ent 𝓤 (sep 𝓤 (Known es) (There es)) (sem 𝓛 Whole)
    there_again es =
        qed 𝓛 ((‵ (fobs μ (code es)) ⊛ ‵ (fauth μ (code es))) ∷ raw (all 𝓤 Turn) ∷ ‵ ((mem Self).own_at (refilled es) b from) ∷ []) ∵
        split ! $ move ! (2 ∷ []) $ use1 𝓛 (raw (Turn es)) (all_e 𝓤 Turn es) $ move ! (2 ∷ 0 ∷ 3 ∷ []) $ use2 𝓛 (‵ (fauth γ (code (refilled es)))) (apply∗ 𝓤 (A.auth μ (code es)) (A.auth γ (code (refilled es)))) $
        move ! (1 ∷ 0 ∷ []) $ fjoin ! $ fpack ! Self.Denot (λ z. fsep ((mem Self).own_at z b from) (fauth γ (code z))) (refilled es) $ keep ! (0 ∷ []) $ done !

    comes_again : (t : Opened) (γ' : GName) → ent 𝓤 (sep 𝓤 (all 𝓤 Turn) (sep 𝓤 (Known entries) (sep 𝓤 (Said t γ') (Bare t)))) (sem 𝓛 (fwand (fsep (fdead κ) (fseps (Part t ∷ []))) (fupd Whole)))
    unfolding fseps
    comes_again t γ' =
        qed 𝓛 (raw (all 𝓤 Turn) ∷ raw (Known entries) ∷ ‵ (follows Inner Inner t.1 γ' (rewritten t)) ∷ raw (Bare t) ∷ []) ∵ assume ! (‵ (fsep (fdead κ) (fseps (Part t ∷ [])))) $
        fsplit ! $ drop ! $ fsplit ! $ fpick ! (λ now_is. fsplit ! $ move ! (1 ∷ 5 ∷ []) $
        -- [the tree's name; what it follows; the tree; nothing; how the names turn; the new name; what is left of the map]
        use2 𝓛 (‵ (fex Inner.Denot (λ w. fsep (feq Inner.Denot now_is (rewritten t w)) (fauth γ' (Inner.coded.code w))))) (came 𝓛 Inner Inner (rewritten t) t.1 γ' now_is) $ fpick ! (λ last. fsplit ! $ feq_l ! (λ is. drop ! $
        rewrite ! 0 (λ (w : Inner.Denot). ‵ ((mem Inner).own_at w b at)) is refl $ move ! (0 ∷ 4 ∷ []) $ use2 𝓛 (‵ ((mem Self).own_at (refilled last.entries) b from)) (filled t last) $
        move ! (2 ∷ 0 ∷ []) $ join ! $ move ! (2 ∷ 0 ∷ []) $ use1 𝓛 (raw (upd 𝓤 (Known last.entries))) (𝓛.names.name_set_upd μ (code entries) (code entries) (code last.entries)) $ keep ! (0 ∷ 1 ∷ []) $
        by ! (via 𝓤 (upd 𝓤 (sep 𝓤 (Known last.entries) (There last.entries))) (upd_frame 𝓤 (Known last.entries) (There last.entries)) (upd_mono 𝓤 (there_again last.entries))))))

  abbrev pub Comes : GName → SProp 𝓤
  Comes μ = sep 𝓤 (A.lft κ share) (sem 𝓛 (follows Self Self γ μ refilled))

  pub tree_comes : (t : Opened) (γ' : GName) → ent 𝓤 (sep 𝓤 (Said t γ') (sep 𝓤 (A.lft κ (Share.right share)) (Stays t))) (H.⇛ (ex 𝓤 Comes))
  tree_comes t γ' =
      let Ends : SProp 𝓤 = wand 𝓤 (A.dead κ) (A.dead κ) in
      qed 𝓛 (‵ (follows Inner Inner t.1 γ' (rewritten t)) ∷ ‵ (flft κ (Share.right share)) ∷ raw (Open t) ∷ ‵ (fobs γ (code entries)) ∷ ‵ (fauth γ (code entries)) ∷ ‵ (flent (deep t.2 κ) (Part t)) ∷ raw (Bare t) ∷ []) ∵ updating ! $
      move ! (3 ∷ 4 ∷ []) $ name_new ! tt (code entries) (λ μ. move ! (2 ∷ 3 ∷ 0 ∷ 1 ∷ []) $
      use2 𝓛 (later (‵ (follows Self Self γ μ refilled) ⊛ raw (all 𝓤 (Turn μ)))) (follows_anew 𝓛 (mem Self) (mem Self) refilled γ μ (code entries) (code entries)) $ await ! tt $ split ! $
      -- [what the map follows; how the names turn; the new name, twice; what the tree follows; half of the token; the open borrow; the lender's right; what is left of the map]
      move ! (2 ∷ 3 ∷ []) $ join ! $ move ! (2 ∷ 0 ∷ 3 ∷ 7 ∷ []) $ group ! 4 $ use1 𝓛 (‵ (fwand (fsep (fdead κ) (fseps (Part t ∷ []))) (fupd Whole))) (comes_again μ t γ') $
      use0 𝓛 (raw Ends) (qed 𝓛 [] ∵ assume ! (‵ (fdead κ)) $ done !) $ move ! (4 ∷ 5 ∷ 1 ∷ 0 ∷ []) $ group ! 4 $
      use1 𝓛 (later (‵ (flft κ (Share.left share)) ⊛ raw (wand 𝓤 (A.dead κ) (A.bor κ Whole)))) (close_deep 𝓛 t.2 κ κ (Share.left share) Whole (Part t)) $ await ! tt $ split ! $
      move ! (0 ∷ 3 ∷ 2 ∷ []) $ use2 𝓛 (‵ (flft κ share)) (𝓛.lfts.lft_join κ share) $ keep ! (0 ∷ 1 ∷ []) $ now ! $ show ! Comes μ $ done !)
