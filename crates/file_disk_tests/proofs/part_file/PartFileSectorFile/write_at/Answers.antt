use Rattle.std.proofs.Common.{◌≡◌, ◌+◌, ◌*◌, arith}
use Rattle.file_disk_tests.proofs.Moved.{sectors_in_part, written_as_file}
use Rattle.file_disk_tests.specs.PartFile.{part_sound, part_view}
use Rattle.file_disk_tests.proofs.part_file.PartFileSectorFile.write_at.Goals as goal

pub returns-clause-effect : goal.returns-clause-effect
returns-clause-effect g c at from is small fits within honest =
    written_as_file g.D.Disk.view c.args.self.now c.count.new.self at from c.args.bytes.now _ (rw c.count.ensures.disk (c.write_part-answer.ensures.effect at from is small within honest))

pub returns-clause-sectors : goal.returns-clause-sectors
returns-clause-sectors g c at count is many long within honest =
    let start : c.args.offset ≡ 512 * at + 0 = omega (arith, is) in
    let part = written_as_file g.D.Disk.view c.args.self.now c.count.new.self at 0 c.args.bytes.now _
    (rw c.count.ensures.disk (c.write_part-answer.ensures.effect at 0 start (omega arith) (omega (arith, many, within)) honest)) in
    sectors_in_part (part_view g.D.Disk.view c.args.self.now) (part_view g.D.Disk.view c.count.new.self) at count c.args.bytes.now _ honest
    (part_sound g.D.Disk.view c.args.self.now (g.met.D.Disk.sound c.args.self.now.disk honest)) many within c.write_part-answer.ensures.small part
