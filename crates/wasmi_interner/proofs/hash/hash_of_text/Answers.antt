use Rattle.std.proofs.Common.{◌∙◌, ◌/◌, ap}
use Rattle.core.specs.Hash.FoldHasher.{finish, write}
use Rattle.wasmi_interner.specs.inner.Hash.{hash_of}
use Rattle.wasmi_interner.proofs.hash.hash_of_text.Goals as goal

pub returns : goal.returns
unfolding hash_of
returns c =
    ap (λ n. n / 4294967296) (c.finish.ensures ∙ ap finish (c.write.ensures ∙ λ i. write (c.default-hasher.ensures i) (c.as_bytes.ensures.value i)))
