-- `into_mut` hands on what the inner entry lends. Assumes `Logic`.
use Rattle.std.specs.contracts.collections.btree_map.OccupiedEntry.into_mut as Calls
use Rattle.std.proofs.collections.btree_map.OccupiedEntry.into_mut.Met as Called
use Rattle.wasmi_map_specs.proofs.Walk.{◌≡◌, [], ◌∷◌, leaves, Some, ftrue, toks, tables, no, rest, bounded, named_lft, lasts, framed, Stays, walk_of, stay_dropped, inst_fn, Args, a_type, dcons, dnil, raw, ◌$◌, ◌∵◌, !, qed, enter, lends_bare, spent, proved_by, one_of, all_of}
use Rattle.wasmi_ordered.specs.contracts.map.entry.OccupiedEntry.into_inner as Opens
use Rattle.wasmi_ordered.specs.contracts.map.entry.OccupiedEntry.into_mut as F
use Rattle.wasmi_ordered.proofs.Rows.{entry_value, Occupied, occupied, alive_in}
use Rattle.wasmi_ordered.proofs.map.entry.OccupiedEntry.into_inner.Met as Opened
use Rattle.wasmi_ordered.proofs.map.entry.OccupiedEntry.into_mut.Code as code
use Rattle.wasmi_ordered.proofs.map.entry.OccupiedEntry.into_mut.Statement.{statement}

pub into_mut_spec : {M : Type 1} → statement M
into_mut_spec 𝓤 𝓛 𝓜 𝓡 wired X Y Z LX LY LZ h dh e de p dp o dt q dq g dg dd mh me mp mo mq mg md =
    let args : Args = bounded (a_type ∷ a_type ∷ a_type ∷ []) (X, (Y, (Z, tt))) (dcons dh (dcons de (dcons dp (dcons dt (dcons dq (dcons dg (dcons dd dnil))))))) in
    let call = F.ended X Y Z h dh e de p dp o dt q dq g dg dd in let c = F.clauses X Y Z h dh e de p dp o dt q dq g dg dd 𝓛 𝓜.mem 𝓡.returns in
    let opens = Opens.ended X Y Z h dh e de p dp o dt q dq g dg dd in let calls = Calls.ended X Y Z o dt e de p dp q dq g dg dd in
    let stayed : Stays call.signature.params call.kept = (stay_dropped _ no, tt) in let W = walk_of 𝓛 call stayed c in let 𝓣 = tables 𝓤 𝓛.H 𝓜 𝓡 𝓡.env in let P = occupied X Y Z p o q g LX LY LZ in
    proved_by 𝓛 call stayed c 𝓜 𝓡 (spent 𝓛 P 4 (named_lft 4 0 tt), tt)
    (F.Key.name args) (inst_fn args code.function) (code.unfolded 𝓤 𝓛.H 𝓜 𝓡 wired (X, (Y, (Z, tt))) dh de dp dt dq dg dd)
    (λ κs. (one_of 𝓛 (P.here_laws (named_lft 4 0 tt κs)), tt)) (λ κs qs bounds a _ us good.
    let y : W.Ghost = ((κs, qs, bounds, a, (us.0 ∷ [], tt)), tt) in let ℓ = named_lft 4 0 tt κs in let there = P.inner ℓ a.0 in
    qed 𝓛 (raw (W.pre y) ∷ []) ∵ enter ! _ _ _ _ _ $
    lends_bare 𝓛 𝓣.C (framed 𝓤 𝓛.H 𝓜 𝓣) 𝓣.Λ P ℓ a.0 us.0
    (all_of 𝓤 (toks 𝓛 4 κs qs) (alive_in X Y Z κs))
    (lasts opens κs (a.0, tt)) (Opened.met 𝓤 𝓛 𝓜 𝓡 (code.calls-wasmi_ordered::map::entry::OccupiedEntry::into_inner 𝓡.env wired) X Y Z LX LY LZ h dh e de p dp o dt q dq g dg dd mh me mp mo mq mg md ((κs, qs, bounds, (a.0, tt), (us.0 ∷ [], tt)), tt))
    ftrue 1 κs.0 (λ t. entry_value (Occupied there) ≡ Some t.now) (lasts calls κs (there, tt)) ! good.0 good.0 (λ v ok. ok) (λ k o. (tt, tt))
    (λ v. Called.met 𝓤 𝓛 𝓜 𝓡 (code.calls-std::collections::btree_map::OccupiedEntry::into_mut 𝓡.env wired) X Y Z LX LY LZ o dt e de p dp q dq g dg dd mo me mp mq mg md ((κs, qs, bounds, (there, a.1), (v ∷ [], tt)), tt))
    (λ u t. leaves 𝓛 call stayed c y u t (rest ((P.Here ℓ).exit no) a.0, tt) (tt, tt)))
