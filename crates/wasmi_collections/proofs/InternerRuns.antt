-- What an interner replies to two texts in a run.
-- for src/laws/interner.rt
use Rattle.std.proofs.Common.{◌≡◌, ℕ, zero, suc, List, [], ◌∷◌, map, Some, slice_get, sym, ap, ◌∙◌, ◌↔◌}
use Rattle.std.proofs.lemmas.Option.{none-some, same_Some}
use Rattle.wasmi_interner.specs.Interner.{symbol_of}
use Rattle.wasmi_collections.specs.InternerSteps.{InternStep, text_to_intern}
use Rattle.wasmi_collections.specs.Runs.{IsRun}
use Rattle.wasmi_interner.proofs.Interning.{kept_by_interning, symbol_of-Interns}
use Rattle.wasmi_interner.proofs.Symbols.{symbol_of-Some}
use Rattle.wasmi_collections.specs.declared.run.interner.InternCommand.{InternCommand}
use Rattle.wasmi_collections.specs.declared.run.interner.InternCommand.TheVariants.{Intern, Find, Len}
use Rattle.wasmi_collections.specs.declared.run.interner.InternReply.{InternReply}
use Rattle.wasmi_collections.specs.declared.run.interner.InternReply.TheVariants.{Sym, Found, Len as LenReply, Refused}

kept_by_step : (old : List (List ℕ)) (command : InternCommand) (reply : InternReply) (new : List (List ℕ)) → InternStep old command reply new → (text : List ℕ) (s : ℕ) → symbol_of old text ≡ Some s → symbol_of new text ≡ Some s
kept_by_step old (Intern text hint) (Sym symbol) new step other s is = kept_by_interning old _ symbol new step other s is
kept_by_step old (Intern text hint) (Refused error) new step other s is = rw step.1 is
kept_by_step old (Find text) (Found symbol) new step other s is = rw step.1 is
kept_by_step old Len (LenReply len) new step other s is = rw step.1 is
kept_by_step old command reply new step other s is = absurd step

pub kept_by_run : (old : List (List ℕ)) (commands : List InternCommand) (replies : List InternReply) (new : List (List ℕ)) → IsRun InternStep (λ texts. texts) old commands replies new → (text : List ℕ) (s : ℕ) → symbol_of old text ≡ Some s → symbol_of new text ≡ Some s
kept_by_run old [] [] new run text s is = rw run is
kept_by_run old (c ∷ cs) (r ∷ rs) new run text s is = kept_by_run run.0 cs rs new run.2 text s (kept_by_step old c r run.0 run.1 text s is)
kept_by_run old [] (r ∷ rs) new run text s is = absurd run
kept_by_run old (c ∷ cs) [] new run text s is = absurd run

given_by_step : (old : List (List ℕ)) (command : InternCommand) (reply : InternReply) (new : List (List ℕ)) → InternStep old command reply new → (text : List ℕ) (s : ℕ) → text_to_intern command ≡ Some text → reply ≡ Sym s → symbol_of new text ≡ Some s
given_by_step old (Intern text hint) (Sym symbol) new step other s asks says =
    let same : symbol ≡ s = cc in
    rw (← same_Some _ other asks, ← same) (symbol_of-Interns old _ symbol new step)
given_by_step old (Intern text hint) (Refused error) new step other s asks says = absurd (cc)
given_by_step old (Find text) reply new step other s asks says = absurd (none-some other asks)
given_by_step old Len reply new step other s asks says = absurd (none-some other asks)
given_by_step old command reply new step other s asks says = absurd step

-- where a command to intern a text was replied to with a symbol, that is the text's symbol in the end
pub given_by_run : (old : List (List ℕ)) (commands : List InternCommand) (replies : List InternReply) (new : List (List ℕ)) → IsRun InternStep (λ texts. texts) old commands replies new
    → (i : ℕ) (text : List ℕ) (s : ℕ) → slice_get (map text_to_intern commands) i ≡ Some (Some text) → slice_get replies i ≡ Some (Sym s) → symbol_of new text ≡ Some s
given_by_run old [] replies new run i text s asks says = absurd (none-some (Some text) asks)
given_by_run old (c ∷ cs) [] new run i text s asks says = absurd run
given_by_run old (c ∷ cs) (r ∷ rs) new run zero text s asks says =
    kept_by_run run.0 cs rs new run.2 text s (given_by_step old c r run.0 run.1 text s (same_Some _ _ asks) (same_Some _ _ says))
given_by_run old (c ∷ cs) (r ∷ rs) new run (suc i) text s asks says = given_by_run run.0 cs rs new run.2 i text s asks says

pub equal_symbols : (old : List (List ℕ)) (commands : List InternCommand) (replies : List InternReply) (new : List (List ℕ)) → IsRun InternStep (λ texts. texts) old commands replies new
    → (i j : ℕ) (one other : List ℕ) (s t : ℕ) → slice_get (map text_to_intern commands) i ≡ Some (Some one) → slice_get (map text_to_intern commands) j ≡ Some (Some other) → slice_get replies i ≡ Some (Sym s) → slice_get replies j ≡ Some (Sym t)
    → (s ≡ t) ↔ (one ≡ other)
equal_symbols old commands replies new run i j one other s t asks asks' says says' =
    let first = given_by_run old commands replies new run i one s asks says in
    let second = given_by_run old commands replies new run j other t asks' says' in (
      λ same. same_Some one other (sym (symbol_of-Some one new s first) ∙ (ap (slice_get new) same ∙ symbol_of-Some other new t second)),
      λ same. same_Some s t (sym first ∙ (ap (symbol_of new) same ∙ second)),
    )
