use Rattle.std.proofs.Common.{rules}
use Rattle.std.proofs.lemmas.Bool.Decides.{Decides-eqb}
use Rattle.std.proofs.lemmas.Slice.Eq.{slice_eq-Decides}
use Rattle.identity.proofs.SameBytes.{decided}
use Rattle.identity.proofs.packed.same_bytes.Goals as goal

pub returns : goal.returns
returns c = decided _ _ c.eq.result (λ i. search rules) (λ i. search rules) (slice_eq-Decides Decides-eqb _ _ _ c.eq.ensures)
