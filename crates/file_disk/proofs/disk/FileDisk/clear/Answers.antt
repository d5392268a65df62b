use Rattle.std.proofs.Common.{refl}
use Rattle.file_disk.proofs.Blank.{blanked}
use Rattle.file_disk.proofs.disk.FileDisk.clear.Goals as goal

pub returns-clause-blank : goal.returns-clause-blank
returns-clause-blank g c honest count =
    blanked g.F.SectorFile.view c.args.self.now c.fill.new.self c.sync.new.self c.args.self.now.file honest refl count
    c.fill.ensures.sectors c.sync.ensures.cause.sectors c.in_ok-fill.ensures.effect c.in_ok-sync.ensures.effect
