use Rattle.std.proofs.Common.{arith, inl, inr}
use Rattle.recovery_tests.proofs.checks.damages.Goals as goal

pub damage_of-found_a-requires-clause-on_disk : goal.damage_of-found_a-requires-clause-on_disk
damage_of-found_a-requires-clause-on_disk c at damaged =
    let low = c.in-Ok.ensures.on_disk at (inl damaged) in
    omega (arith, low, c.check.ensures.keeps.sectors)

pub damage_of-found_b-requires-clause-on_disk : goal.damage_of-found_b-requires-clause-on_disk
damage_of-found_b-requires-clause-on_disk c at damaged =
    let low = c.in-Ok.ensures.on_disk at (inr damaged) in
    omega (arith, low, c.check.ensures.keeps.sectors, c.damage_of-found_a.ensures.reads.sectors)
