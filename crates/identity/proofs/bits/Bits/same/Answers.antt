use Rattle.std.proofs.Common.{length, sym, ◌∙◌}
use Rattle.identity.specs.Inside.PathLaws.{same_test}
use Rattle.identity.proofs.Kept.{is_len}
use Rattle.identity.proofs.SameBytes.{by_bytes, by_lengths}
use Rattle.identity.proofs.bits.Bits.same.Goals as goal

pub returns-then-self-other-clause-equal : goal.returns-then-self-other-clause-equal
returns-then-self-other-clause-equal g c =
    let x = c.args.self.now in let y = c.args.other.now in
    let one = is_len c.self.inside.len c.self.inside.short c.self.inside.bytes.items x c.self.invariant c.self.view_is in
    let other = is_len c.other.inside.len c.other.inside.short c.other.inside.bytes.items y c.other.invariant c.other.view_is in
    by_bytes c.as_bytes.result.now c.as_bytes-then-self-other.result.now (length x) (length y) x y c.as_bytes.ensures.packed
    c.as_bytes-then-self-other.ensures.packed c.as_bytes.ensures.bits c.as_bytes-then-self-other.ensures.bits
    c.same_bytes.result (sym one ∙ c.if-self-other.true ∙ other) c.same_bytes.ensures

pub returns-then-self-other-clause-test : goal.returns-then-self-other-clause-test
returns-then-self-other-clause-test g c = let d = returns-then-self-other-clause-equal g c in same_test _ _ _ d.0 d.1

pub returns-else-self-other-clause-equal : goal.returns-else-self-other-clause-equal
returns-else-self-other-clause-equal g c =
    let one = is_len c.self.inside.len c.self.inside.short c.self.inside.bytes.items c.args.self.now c.self.invariant c.self.view_is in
    let other = is_len c.other.inside.len c.other.inside.short c.other.inside.bytes.items c.args.other.now c.other.invariant c.other.view_is in
    by_lengths c.self.inside.len c.other.inside.len c.args.self.now c.args.other.now one other c.if-self-other.false

pub returns-else-self-other-clause-test : goal.returns-else-self-other-clause-test
returns-else-self-other-clause-test g c = let d = returns-else-self-other-clause-equal g c in same_test _ _ _ d.0 d.1
