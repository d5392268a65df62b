use Rattle.std.proofs.Common.{rules, subst, sym}
use Rattle.sector_disk.proofs.Calls.{sectors_put}
use Rattle.sector_disk.specs.Disk.{AreSectors, IsSector}
use Rattle.sector_disk.proofs.memory.put.Goals as goal

pub returns-clause-written : goal.returns-clause-written
returns-clause-written c = search rules

pub returns-clause-whole : goal.returns-clause-whole
returns-clause-whole c all =
    let whole : IsSector c.args.bytes.now = record { size = c.told-bytes; bytes = c.fits-bytes } in
    subst AreSectors (sym (returns-clause-written c)) (sectors_put c.args.sectors.now c.args.at c.args.bytes.now c.requires whole all)
