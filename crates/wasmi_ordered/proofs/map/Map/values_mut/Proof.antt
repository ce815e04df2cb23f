-- `values_mut` lends the tree to the standard library's call. Assumes `Logic`.
use Rattle.wasmi_arena.proofs.Steps.{shows, peeks}
use Rattle.std.proofs.Common.{◌<◌, ◌^◌, List, length}
use Rattle.std.proofs.collections.BTreeMap.values_mut.Met as Lent
use Rattle.std.proofs.collections.btree_map.ValuesMut.TheLaws as AnswerLaws
use Rattle.std.specs.BTreeMap.{values, btree_map_len, IsOrdered}
use Rattle.std.specs.BTreeMap.IterMut.{values_mut_rest, values_mut_name, values_mut_steps, values_mut_steps_back}
use Rattle.std.specs.BTreeMap.Lent.{KeepsKeys as TreeKeepsKeys}
use Rattle.std.specs.Iterator.Runs.{YieldsMutRefsInOrder, YieldsMutRefsInReverse}
use Rattle.std.specs.Map.{values_of}
use Rattle.std.specs.contracts.collections.BTreeMap.values_mut as Lends
use Rattle.std.specs.contracts.collections.btree_map.ValuesMut as AnswerType
use base.Share
use lib.ListN.{length-map}
use Rattle.wasmi_map_specs.proofs.Values.{keeps_keys}
use Rattle.wasmi_map_specs.proofs.Walk.{◌≡◌, ◌∙◌, [], ◌∷◌, refl, ap, subst, leaves, GName, ftrue, flft, emp, id⊢, toks, fact, fact_i, tables, no, follows, bounded, param, param_laws, MutRef, mut_vals, plain, named_lft, nothing, heard, lasts, Lasts, framed, Stays, walk_of, stay_dropped, Goes-spent_ref, inst_fn, Args, a_type, dcons, dnil, named, alloc_all, pass_all, free_all, look_at, get, through, sets, lands_as, ‵, raw, ◌⊛◌, some, later, ◌$◌, ◌∵◌, !, qed, by, move, keep, drop, split, split3, fsplit3, frame, group, pick, await, use0, use1, use2, suffices, enter, addr, fld, stop, and_then, no_more, returns, let_go, gone, also, calls_on, proved_by, typed_of, ref_of, facts, twice}
use Rattle.wasmi_ordered.specs.contracts.map.Map.values_mut as F
use Rattle.wasmi_ordered.proofs.Rows.{alive_in}
use Rattle.wasmi_ordered.proofs.LentTree as LentTree
use Rattle.wasmi_ordered.proofs.LentTree.{rewritten, refilled, lends_tree, tree_comes}
use Rattle.wasmi_ordered.proofs.MapMemory.{Map, Tree}
use Rattle.wasmi_ordered.proofs.Renamed.{under, values_under}
use Rattle.wasmi_ordered.proofs.map.Map.values_mut.Code as code
use Rattle.wasmi_ordered.proofs.map.Map.values_mut.Statement.{statement}

pub values_mut_spec : {M : Type 1} → statement M
values_mut_spec 𝓤 𝓛 𝓜 𝓡 wired X Y Z LX LY LZ h dh e de p dp o dt q dq g dg dd mh me mp mo mq mg md =
    let args : Args = bounded (a_type ∷ a_type ∷ a_type ∷ []) (X, (Y, (Z, tt))) (dcons dh (dcons de (dcons dp (dcons dt (dcons dq (dcons dg (dcons dd dnil))))))) in let K = param 0 X in let V = param 1 Y in
    let call = F.ended X Y Z h dh e de p dp o dt q dq g dg dd in let c = F.clauses X Y Z h dh e de p dp o dt q dq g dg dd 𝓛 𝓜.mem 𝓡.returns in let inner = Lends.ended X Y Z o dt e de p dp q dq g dg dd in
    let stayed : Stays call.signature.params call.kept = (stay_dropped _ no, tt) in let W = walk_of 𝓛 call stayed c in let 𝓣 = tables 𝓤 𝓛.H 𝓜 𝓡 𝓡.env in
    let Self = Map X Y Z h p o q g in let Inner = Tree X Y Z h p o q g in
    proved_by 𝓛 call stayed c 𝓜 𝓡 (Goes-spent_ref 𝓛 4 (0 ∷ []) tt (plain (λ _. Self)), tt)
    (F.Key.name args) (inst_fn args code.function) (code.unfolded 𝓤 𝓛.H 𝓜 𝓡 wired (X, (Y, (Z, tt))) dh de dp dt dq dg dd)
    (λ κs. (ref_of (named 0) κs.0 Self, tt)) (λ κs qs bounds a _ us good.
    let ℓ = named_lft 4 0 tt κs in let Answer = AnswerType.the_row ℓ K V in let answer_laws = AnswerLaws.the_row_laws ℓ K V (param_laws 0 X LX) (param_laws 1 Y LY) in let known = alive_in X Y Z κs in
    let entries = a.0.now in let b = a.0.ref_ptr.0 in let from = a.0.ref_ptr.1 in let κ = κs.0 in let half = Share.right qs.0 in let γ = a.0.ghost_name in
    let y : W.Ghost = ((κs, qs, bounds, a, (mut_vals a.0, tt)), tt) in
    let Opened = LentTree.Opened X Y Z h p o q g 𝓛 κ qs.0 b from γ entries in let there = LentTree.lent X Y Z h p o q g 𝓛 κ qs.0 b from γ entries in let Stay = LentTree.Stays X Y Z h p o q g 𝓛 κ qs.0 b from γ entries in
    qed 𝓛 (((‵ (flft κ qs.0) ⊛ raw (toks 𝓛 3 κs.1 qs.1)) ⊛ ‵ ((MutRef (named 0) κ Self).own_val a.0 (mut_vals a.0)) ⊛ ‵ ftrue) ∷ raw (facts 𝓤 known (emp 𝓤)) ∷ []) ∵
    split ! $ split ! $ move ! (2 ∷ []) $ split ! $ fsplit3 ! $ keep ! (1 ∷ 2 ∷ 4 ∷ 5 ∷ 6 ∷ []) $
    enter ! _ _ _ _ _ $ alloc_all ! (λ l. pass_all ! refl ((tt, tt), tt) $ sets ! (addr ! (through ! refl (fld ! refl (stop !)))) refl (tt, tt) $
    group ! 3 $ use1 𝓛 (later (some (λ (t : Opened). ‵ ((MutRef (named 0) κ Inner).own_val (there t) (mut_vals (there t))) ⊛ ‵ (flft κ half) ⊛ raw (Stay t))))
    (lends_tree X Y Z h p o q g 𝓛 κ qs.0 b from γ entries LX LY LZ) $ await ! tt $ pick ! (λ t. split3 ! $
    -- [the tree, lent; half of the token; what stays; the other tokens; the facts]
    let tree = (there t).now in let as_map : tree.entries ≡ entries = t.0.1.0 in
    move ! (1 ∷ 3 ∷ []) $ use2 𝓛 (raw (toks 𝓛 4 κs (half, qs.1))) (id⊢ 𝓤 _) $ nothing ! $ move ! (1 ∷ 2 ∷ 0 ∷ 4 ∷ []) $
    calls_on 𝓛 ! (framed 𝓤 𝓛.H 𝓜 𝓣) (twice 𝓤 known) (MutRef (named 0) κ Inner) Answer ftrue (there t) (mut_vals (there t)) (mut_vals (there t)) {W = Lasts inner κs (there t, tt)}
    (λ r ws. ‵ (lasts inner κs (there t, tt) ws) ⊛ ‵ (follows Inner Inner (there t).ghost_name (values_mut_name r) (rewritten X Y Z h p o q g 𝓛 κ qs.0 b from γ entries t)) ⊛ raw (fact 𝓤 (TreeKeepsKeys tree 0))
    ⊛ raw (fact 𝓤 (values_mut_rest r ≡ values tree)) ⊛ raw (fact 𝓤 (length (values_mut_rest r) ≡ btree_map_len tree)) ⊛ raw (fact 𝓤 (YieldsMutRefsInOrder (values_mut_steps {K = X.Denot} {X = Y.Denot}) values_mut_rest))
    ⊛ raw (fact 𝓤 (btree_map_len tree < 2 ^ 63)) ⊛ raw (fact 𝓤 (IsOrdered o.cmp tree)) ⊛ raw (fact 𝓤 (YieldsMutRefsInReverse (values_mut_steps_back {K = X.Denot} {X = Y.Denot}) values_mut_rest)))
    (Lent.met 𝓤 𝓛 𝓜 𝓡 (code.calls-std::collections::BTreeMap::values_mut 𝓡.env wired) X Y Z LX LY LZ o dt e de p dp q dq g dg dd mo me mp mq mg md ((κs, (half, qs.1), bounds, (there t, tt), (mut_vals (there t), tt)), tt))
    (and_then ! (get ! refl) (no_more !)) (λ v r ws is_answer. split ! $ drop ! $ split ! $ move ! (1 ∷ []) $
    split ! $ drop ! $ split ! $ heard ! _ (λ rest_is. split ! $ drop ! $ split ! $ drop ! $ split ! $ heard ! _ (λ small. drop ! $
    -- [what the tree follows; the iterator; the tokens; the facts; what stays]
    move ! (2 ∷ []) $ use1 𝓛 (‵ (flft κ half) ⊛ raw (toks 𝓛 3 κs.1 qs.1)) (id⊢ 𝓤 _) $ split ! $ move ! (2 ∷ 0 ∷ 5 ∷ []) $ group ! 3 $
    use1 𝓛 (later (some (λ (μ : GName). ‵ (flft κ qs.0) ⊛ ‵ (follows Self Self γ μ (refilled X Y Z h p o q g 𝓛 κ qs.0 b from γ entries)))))
    (tree_comes X Y Z h p o q g 𝓛 κ qs.0 b from γ entries t (values_mut_name r)) $ await ! tt $ pick ! (λ μ. split ! $ move ! (0 ∷ 2 ∷ []) $ use2 𝓛 (raw (toks 𝓛 4 κs qs)) (id⊢ 𝓤 _) $
    -- [the tokens; what the map follows; the iterator; the facts]
    let its = under 𝓛 ℓ K V μ r in move ! (2 ∷ []) $ use1 𝓛 (‵ (Answer.own_val its (v ∷ []))) (values_under 𝓛 ℓ K V μ r (v ∷ [])) $
    peeks ! Answer _ (shows 𝓛 Answer) its (v ∷ []) (λ is_its. lands_as ! refl refl (typed_of 𝓛 answer_laws its (v ∷ []) is_its).0 $ returns ! (look_at ! 0 refl) $ free_all ! refl $
    suffices ! _ (leaves 𝓛 call stayed c y v its (tt, tt) (tt, tt)) $ let is : values_mut_rest r ≡ values_of entries = rest_is ∙ ap values_of as_map in
    use0 𝓛 (‵ (let_go 1)) (gone 𝓛 1) $ keep ! (2 ∷ 0 ∷ 1 ∷ 3 ∷ []) $ frame ! $ frame ! $ frame ! $ frame ! $
    also ! (keeps_keys entries) $ also ! is $ also ! (ap length is ∙ length-map entries (λ pair. pair.1)) $
    by ! (fact_i 𝓤 _ (emp 𝓤) (subst (λ (es : List (X.Denot × Y.Denot)). length es < 2 ^ 63) as_map small))))))))))
