use Rattle.std.proofs.Common.{rules, ◌≡◌, ◌+◌, ◌<◌, arith}
use Rattle.identity.proofs.Kept.{is_len, spilt_same, appended_same, unasked}
use Rattle.identity.proofs.bits.Bits.append_long.Goals.{then-self-le-IN_PLACE+in_ok-spill, else-self-le-IN_PLACE+in_ok-append_bits}
use Rattle.identity.proofs.bits.Bits.append_long.Goals as goal

pub returns-in_err-spill-clause-err : goal.returns-in_err-spill-clause-err
returns-in_err-spill-clause-err g c =
    let b = c.self.inside in
    let same = unasked b.len b.short b.bytes.items c.spill.new.bytes.items c.if-self-le-IN_PLACE.true in
    search (rules, same)

pub returns-clause-ok : goal.returns-clause-ok
returns-clause-ok g c =
    let b = c.self.inside in
    let sum : c.in-Some.len ≡ b.len + c.args.width = search rules in
    let whole = is_len b.len b.short b.bytes.items c.args.self.now c.self.invariant c.self.view_is in
    let more : 64 < b.len + c.args.width = omega (arith, whole, c.requires.long) in
    elim c.if-self-le-IN_PLACE.branch [
      | then-self-le-IN_PLACE+in_ok-spill w ↦ rw (w.self-inside-is, sum)
          (spilt_same b.len c.args.width c.args.value b.short b.bytes.items w.spill.new.bytes.items c.args.self.now c.self.view_is w.if-self-le-IN_PLACE.true more w.in_ok-spill.ensures.bits)
      | else-self-le-IN_PLACE+in_ok-append_bits w ↦ rw (w.self-inside-is, sum)
          (appended_same b.len c.args.width c.args.value b.short b.bytes.items w.append_bits.new.bytes.items c.args.self.now c.self.view_is
          w.if-self-le-IN_PLACE.false w.in_ok-append_bits.ensures.bits)
    ]
