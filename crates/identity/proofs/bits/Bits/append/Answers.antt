use Rattle.std.proofs.Common.{rules, ◌≡◌, ◌+◌, ◌≤◌, length, arith}
use Rattle.identity.proofs.Kept.{is_len, put_kept, put_same}
use Rattle.identity.proofs.bits.Bits.append.Goals as goal

pub invariant_of-self : goal.invariant_of-self
invariant_of-self g c =
    let b = c.self.inside in
    let room : b.len + c.args.width ≤ 64 = omega (arith, c.if-self-width.true, c.requires.width) in
    let eight : length c.with_number-self-inside.result ≡ 8 = search rules in
    put_kept b.len c.args.width c.args.value b.short c.with_number-self-inside.result b.bytes.items c.args.self.now c.self.invariant c.self.view_is room eight c.with_number-self-inside.ensures

pub append_long-requires-clause-long : goal.append_long-requires-clause-long
append_long-requires-clause-long g c =
    let b = c.self.inside in
    let e = is_len b.len b.short b.bytes.items c.args.self.now c.self.invariant c.self.view_is in
    omega (arith, e, c.if-self-width.false, c.requires.width)

pub returns-then-self-width-clause-ok : goal.returns-then-self-width-clause-ok
returns-then-self-width-clause-ok g c =
    let b = c.self.inside in
    let room : b.len + c.args.width ≤ 64 = omega (arith, c.if-self-width.true, c.requires.width) in
    let eight : length c.with_number-self-inside.result ≡ 8 = search rules in
    put_same b.len c.args.width c.args.value b.short c.with_number-self-inside.result b.bytes.items c.args.self.now c.self.invariant c.self.view_is room eight c.with_number-self-inside.ensures
