use Rattle.std.proofs.Common.{◌≡◌, ◌≤◌, ◌∙◌, false, true, length, drop, arith, sym}
use Rattle.std.specs.Prelude.{not}
use Rattle.std.specs.List.{list_all}
use Rattle.identity.specs.Packed.{bits_of}
use Rattle.command_bytes.specs.Fields.{bytes_for}
use Rattle.command_bytes.proofs.Packed.{are_packed, left_short, left_unfilled, left_found}
use Rattle.command_bytes.proofs.bits.left.Goals as goal

pub returns-then-bytes-width : goal.returns-then-bytes-width
returns-then-bytes-width c = sym (left_short (bytes_for c.args.len) c.args.len c.args.bytes.now (omega (arith, c.if-bytes-width.true)))

pub returns-then-not-ends_in_zeros : goal.returns-then-not-ends_in_zeros
returns-then-not-ends_in_zeros c =
    let long : bytes_for c.args.len ≤ length c.args.bytes.now = omega (arith, c.if-bytes-width.false) in
    let no : list_all not (drop c.args.len (bits_of c.split_at.result.0.now)) ≡ false = sym c.ends_in_zeros.ensures ∙ c.if-not-ends_in_zeros.true in
    sym (left_unfilled (bytes_for c.args.len) c.args.len c.args.bytes.now (λ i. omega (arith, c.type_inv.bytes i)) long (rw c.split_at.ensures.front at no))

pub invariant_of-result : goal.invariant_of-result
invariant_of-result c =
    let yes : list_all not (drop c.args.len (bits_of c.split_at.result.0.now)) ≡ true = sym c.ends_in_zeros.ensures ∙ c.if-not-ends_in_zeros.false in
    (c.requires, are_packed c.split_at.result.0.now c.args.len (omega (arith, c.split_at.ensures.front_len)) (omega (arith, c.split_at.ensures.front_len)) yes)

pub returns : goal.returns
returns c =
    let long : bytes_for c.args.len ≤ length c.args.bytes.now = omega (arith, c.if-bytes-width.false) in
    let yes : list_all not (drop c.args.len (bits_of c.split_at.result.0.now)) ≡ true = sym c.ends_in_zeros.ensures ∙ c.if-not-ends_in_zeros.false in
    rw (c.split_at.ensures.front, c.split_at.ensures.back)
    (sym (left_found (bytes_for c.args.len) c.args.len c.args.bytes.now (λ i. omega (arith, c.type_inv.bytes i)) long
    (rw c.split_at.ensures.front at yes)))
