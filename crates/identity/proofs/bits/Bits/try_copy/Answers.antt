use Rattle.std.proofs.Common.{List, ℕ, take, sym, ap, ◌∙◌, arith}
use Rattle.base.proofs.Results.{on_err}
use Rattle.identity.specs.Packed.{bits_of}
use Rattle.identity.proofs.Kept.{is_len, short_same, long_same}
use Rattle.identity.proofs.bits.Bits.try_copy.Goals as goal

pub returns-then-self-le-IN_PLACE-clause-ok : goal.returns-then-self-le-IN_PLACE-clause-ok
returns-then-self-le-IN_PLACE-clause-ok g c =
    let b = c.self.inside in
    c.short.ensures ∙ sym (short_same b.len b.short b.bytes.items c.if-self-le-IN_PLACE.true) ∙ c.self.view_is

pub returns-clause-ok : goal.returns-clause-ok
returns-clause-ok g c =
    let b = c.self.inside in
    c.packed.ensures ∙ ap (λ (l : List ℕ). take b.len (bits_of l)) (c.in_ok-bytes.ensures.items ∙ c.deref.ensures.value) ∙
    sym (long_same b.len b.short b.bytes.items c.if-self-le-IN_PLACE.false) ∙ c.self.view_is

pub returns-in_err-bytes-clause-memory : goal.returns-in_err-bytes-clause-memory
returns-in_err-bytes-clause-memory g c =
    let b = c.self.inside in
    let e = is_len b.len b.short b.bytes.items c.args.self.now c.self.invariant c.self.view_is in
    on_err c.from_residual.result (omega (arith, e, c.if-self-le-IN_PLACE.false))
