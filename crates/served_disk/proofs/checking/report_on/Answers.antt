use Rattle.std.proofs.Common.{arith, inl, inr}
use Rattle.served_disk.proofs.checking.report_on.Goals as goal

pub damage_of-requires-clause-on_disk : goal.damage_of-requires-clause-on_disk
damage_of-requires-clause-on_disk g c at damaged = c.requires.on_disk at (inl damaged)

pub damage_of-requires-2-clause-on_disk : goal.damage_of-requires-2-clause-on_disk
damage_of-requires-2-clause-on_disk g c at damaged =
    let low = c.requires.on_disk at (inr damaged) in
    omega (arith, low, c.damage_of.ensures.reads.sectors)
