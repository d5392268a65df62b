use Rattle.std.proofs.Common.{◌≡◌, ◌≤◌, ◌<◌, false, length, ◌∙◌, arith}
use Rattle.std.proofs.lemmas.Bool.Decides.{nat_tests}
use lib.Dec.{leb}
use Rattle.prefix_tree.proofs.Numbers.{begins_numbers, too_long}
use Rattle.prefix_tree.proofs.path.begins.Goals as goal

pub returns-then-len : goal.returns-then-len
returns-then-len c =
    let le : length c.args.short.now ≤ length c.args.long.now = omega (arith, c.if-len.true, c.len.ensures.value, c.len-2.ensures.value) in
    rw (c.len-then-len.ensures.value, c.len-then-len-2.ensures.value)
    (begins_numbers c.args.short.now c.args.long.now _ _ c.number-then-len.ensures.fits c.number.ensures.fits c.number-then-len.ensures.value
    c.number.ensures.value le)

pub returns-else-len : goal.returns-else-len
returns-else-len c =
    let lt : length c.args.long.now < length c.args.short.now = omega (arith, c.if-len.false, c.len.ensures.value, c.len-2.ensures.value) in
    let no : leb c.len.result c.len-2.result ≡ false = grind (arith, nat_tests, c.if-len.false) in
    no ∙ too_long c.args.short.now c.args.long.now lt
