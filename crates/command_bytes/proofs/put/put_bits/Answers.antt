use Rattle.std.proofs.Common.{ℕ, List, ◌++◌, ◌∙◌, ap, append_assoc, length}
use Rattle.command_bytes.specs.Fields.{big}
use Rattle.command_bytes.proofs.Putting.{packed_left}
use Rattle.command_bytes.proofs.put.put_bits.Goals as goal

pub returns-clause-held : goal.returns-clause-held
returns-clause-held g c =
    let out = g.R.ByteSink.held c.args.out.now in
    let bytes = packed_left c.as_bytes.result.now c.args.bits.now c.put.ensures.are c.as_bytes.ensures.packed c.as_bytes.ensures.bits in
    (rw c.len.ensures at (c.put.ensures.held ∙ ap (λ (l : List ℕ). l ++ c.as_bytes.result.now) c.put_number.ensures.held))
    ∙ append_assoc out (big 2 (length c.args.bits.now)) c.as_bytes.result.now
    ∙ ap (λ (l : List ℕ). out ++ (big 2 (length c.args.bits.now) ++ l)) bytes.0
