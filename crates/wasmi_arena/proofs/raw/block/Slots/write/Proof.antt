-- `write` moves an item into the slot behind the others. Assumes `Logic`.
use Rattle.std.proofs.Common.{◌≡◌, ℕ, ◌+◌, ◌*◌, ◌<◌, ◌^◌, List, [], ◌∷◌, length, length-append, refl, sym, ◌∙◌, subst, arith, w64}
use Rattle.wasmi_arena.proofs.Steps.{full_share, ftrue, fsep, fat, froom, named, inst_fn, Val, vunit, ent, ◌⊑◌, tables, use3, feq_i, ‵, ◌⊛◌, at_ret, ◌$◌, ◌∵◌, !, qed, by, move, keep, use1, split, fsplit, rewrite, suffices, whole, sub, unit_lit, assigns_last, enter, of_opd, size_lit, bin, stop, fld, first, blocks, exec, returns, alloc_all, pass_all, free_all, look_at, get, get_in, through, sets, take_at, give_at, env, usize, unit, yes, no, layout, uint_vals, Ptr, mut_vals, mut_Tells, plain, says, Stays, walk_of, stay_dropped, Goes-dropped, stay_ref, Goes-ref, ends_at}
use Rattle.std.proofs.raw_atomic.Walks.{proved_at}
use prog.Wp.{WpFn}
use types.Run.{init}
use Rattle.core.proofs.mem.Param.{El, R, args, elτ, one, lawful}
use Rattle.std_alloc.proofs.RcSteps.{word, word-Good}
use Rattle.std_alloc.proofs.VecSteps.Shapes.{after}
use Rattle.wasmi_arena.specs.inner.Block.{runs}
use Rattle.wasmi_arena.specs.inner.Slots.{with_last}
use Rattle.wasmi_arena.proofs.SlotRuns.{offset_fits, sz, Before, fill_out, fill_in}
use Rattle.wasmi_arena.specs.contracts.raw.block.Slots.write as F
use Rattle.wasmi_arena.proofs.raw.block.Slots.write.Statement.{statement}
use Rattle.wasmi_arena.proofs.raw.block.Slots.write.Code as code
use Rattle.wasmi_arena.proofs.Frame.{SlotsRow, PtrRow, ptr_vals, ptr_tells, referred, enters_slots, leaves_slots, opens_slots, closes_slots}

pub write_spec : {M : Type 1} → statement M
write_spec 𝓤 𝓛 𝓜 𝓡 wired X LX =
    let E : El = record { row = X; laws = LX } in
    let c = F.clauses X 𝓛 𝓜.mem 𝓡.returns in
    let stayed : Stays (F.ended X).signature.params (F.ended X).kept = (stay_ref (0 ∷ []) tt (plain (λ _. SlotsRow E)), (stay_dropped _ no, (stay_dropped _ yes, (stay_dropped _ no, tt)))) in
    let function = inst_fn (args E) code.function in
    let W = walk_of 𝓛 (F.ended X) stayed c in
    let 𝓣 = tables 𝓤 𝓛.H 𝓜 𝓡 𝓡.env in
    proved_at 𝓛 (F.ended X) stayed c 𝓜 𝓡 (Goes-ref 𝓛 2 0 tt (plain (λ _. SlotsRow E)), (Goes-dropped 𝓛 2 (plain (λ _. PtrRow E)) no (λ κs x w. refl), (Goes-dropped 𝓛 2 (plain (λ _. usize)) yes (λ κs x w. refl), (Goes-dropped 𝓛 2 (plain (λ _. R E)) no (λ κs x w. refl), tt))))
    (F.Key.name (args E)) function (code.unfolded 𝓤 𝓛.H 𝓜 𝓡 wired (X, tt))
    (λ given are.
    let κs = given.0.0 in let qs = given.0.1 in let a = given.0.3 in
    let s = a.0.now in let ptr = a.1.0 in let slot = a.1.1.0 in let item = a.1.1.1.0 in let b' = a.0.ref_ptr.0 in let o' = a.0.ref_ptr.1 in
    let held = one E given.0.4.1.1.1.0 ((lawful E 𝓛).typed item given.0.4.1.1.1.0 are.1.1.1.0) in let v = held.0 in let good = held.2 in
    let vals : List Val × (List Val × (List Val × (List Val × Unit {0}))) = (mut_vals a.0, (ptr_vals E ptr, (uint_vals w64 slot, (v ∷ [], tt)))) in
    let known : given.0.4 ≡ vals = λ j. (mut_Tells (named 0) κs.0 (SlotsRow E) a.0 given.0.4.0 are.0 j, (ptr_tells E ptr given.0.4.1.0 are.1.0 j, (are.1.1.0.0 j, (held.1 j, tt)))) in
    subst (λ (us : List Val × (List Val × (List Val × (List Val × Unit {0})))). ent 𝓤 (W.pre ((κs, qs, given.0.2, a, us), tt)) (WpFn 𝓤 𝓛.H 𝓣.C 𝓣.Λ function (W.args ((κs, qs, given.0.2, a, us), tt)) (W.post ((κs, qs, given.0.2, a, us), tt)))) (sym known) (
    let y : W.Ghost = ((κs, qs, given.0.2, a, vals), tt) in
    enters_slots E 𝓛 κs.0 κs.1.0 qs.0 qs.1.0 a.0 ptr slot (fsep (X.own_val item (v ∷ [])) ftrue) (κs.1.0 ⊑ X.lives) (ptr.start ≡ s.block) (slot ≡ s.taken + length s.items) (0 < s.free) _ (λ same_block is_next more.
    let new = with_last s item in let size = sz E in
    let count : s.taken + length s.items + s.free ≡ new.taken + length new.items + new.free = omega (arith, length-append s.items (item ∷ [])) in
    qed 𝓛 (referred E 𝓛 κs.0 κs.1.0 qs.0 qs.1.0 a.0 s (‵ (fsep (X.own_val item (v ∷ [])) ftrue) ∷ [])) ∵ move ! (4 ∷ []) $ fsplit ! $ keep ! (2 ∷ 3 ∷ 4 ∷ 5 ∷ 0 ∷ []) $
    enter ! _ _ _ _ (W.post y) $ alloc_all ! (λ l. pass_all ! refl ((tt, tt), (word-Good [] ptr.start, ((tt, record { fits = are.1.1.0.1 }), (good, tt)))) $
    opens_slots E ! tt s b' o' (λ vs b o at small.
    let fits = offset_fits slot (s.taken + length s.items + s.free) size (omega arith) small in
    take_at ! 2 $ rewrite ! 0 (λ (p : Ptr). ‵ (fat full_share (layout (PtrRow E)) (l 2) 0 (word p))) (same_block ∙ at) refl $ give_at ! 2 $ first ! $ blocks ! $
    sets ! (bin ! (get ! refl) (size_lit ! (record { fits = fits.0 })) (record { fits = fits.1 })) refl (tt, record { fits = fits.1 }) $
    sets ! (bin ! (get_in ! (fld ! refl (stop !)) (sub ! 0 refl (whole !))) (get ! refl) tt) refl (tt, tt) $
    use1 𝓛 (‵ (froom (elτ E) b (slot * size + o)) ⊛ ‵ (Before E 𝓛 b o s.taken s.items new.free)) (fill_out E 𝓛 b o slot s.taken s.items s.free is_next more) $ split ! $
    -- [the empty slot; the other slots; the opened slots; a token; what the item owns]
    sets ! (of_opd ! (get ! refl)) refl good $ assigns_last ! (of_opd ! (get ! refl)) (through ! refl (stop !)) (init ! 0 refl good) $
    exec ! 𝓣.C 𝓣.Λ (env function.locals l) (after 1 function.body) (at_ret _ (W.post y)) $ sets ! (of_opd ! (unit_lit !)) refl (tt, tt) $
    move ! (0 ∷ 8 ∷ 1 ∷ []) $ use3 𝓛 (‵ (runs (R E) b o new.taken new.items new.free)) (fill_in E 𝓛 b o slot s.taken s.items new.free item v is_next) $
    closes_slots E ! tt new vs b' o' b o at (subst (λ (n : ℕ). n * size < 2 ^ 63) count small) $
    returns ! (look_at ! 0 refl) $ free_all ! refl $
    suffices ! _ (ends_at 𝓛 (F.ended X) stayed c y vunit tt (new, (tt, (tt, (tt, tt)))) (tt, (tt, (tt, (tt, tt))))) $ says ! refl $
    feq_i ! (List Val) (vunit ∷ []) (vunit ∷ []) refl $ move ! (1 ∷ 2 ∷ 3 ∷ 4 ∷ 0 ∷ []) $
    by ! (leaves_slots E 𝓛 κs.0 κs.1.0 qs.0 qs.1.0 a.0 new 3 unit tt vunit))))))
