-- Nothing is lent by a `&` to a loan. Assumes `Logic`.
use Rattle.wasmi_arena.proofs.Steps.{RattleType, NamedLft, MutRef, nothing_shr_laws, Laws, copy_shared, field_copy, of_Lends, Lends-nothing}
use denote.Struct.Field.{RawPtr-field}
use denote.Struct.Laws.{RawPtr-copy}
use Rattle.core.specs.contracts.marker.PhantomData as marker
use Rattle.core.specs.contracts.option.Option as Option
use Rattle.core.specs.declared.alloc.Allocator.{Ghosts}
use Rattle.wasmi_arena.specs.contracts.bucket.Bucket as Bucket
use Rattle.wasmi_arena.specs.contracts.raw.loan.ItemsLoan as Loan
use Rattle.wasmi_arena.proofs.raw.loan.ItemsLoan.TheLaw.Statement.{statement}

pub shares : (κ : NamedLft) (T A : RattleType) (alloc : Ghosts A.Denot) (laws : Laws T) (alloc_laws : Laws A) → statement κ T A alloc laws alloc_laws
shares κ T A alloc laws alloc_laws =
    let bucket = Bucket.the_row T A alloc in let Lent : RattleType = MutRef κ.mir κ.lft (Option.the_row bucket) in
    let codes = Loan.the_codes T.Denot A.Denot T.coded A.coded (marker.the_row Lent).coded (Option.the_row bucket).coded bucket.coded in
    of_Lends (Loan.struct κ T A alloc) codes (Loan.the_heap κ.lft T A alloc) (Loan.the_lent κ.lft T A alloc)
    (λ l p. nothing_shr_laws) (copy_shared RawPtr-field RawPtr-copy, (copy_shared (marker.the_field Lent) (field_copy (marker.the_type Lent) tt), tt))
    (λ M 𝓤 𝓛 l p. Lends-nothing 𝓛 (Loan.the_heap κ.lft T A alloc l) (Loan.the_row κ T A alloc).lives)
