use Rattle.file_disk_tests.proofs.Moved.{read_as_file}
use Rattle.file_disk_tests.proofs.part_file.PartFileSectorFile.read_at.Goals as goal

pub returns-clause-effect : goal.returns-clause-effect
returns-clause-effect g c at from is small fits within honest =
    read_as_file g.D.Disk.view c.args.self.now c.count.new.self at from c.read_part-answer.new.bytes _ (rw c.count.ensures.disk (c.read_part-answer.ensures.effect at from is small within honest))
