use Rattle.std.proofs.Common.{inl, inr, rules}
use Rattle.file_disk.specs.File.{IsGivenUp}
use Rattle.file_disk.proofs.GivenUp.{on_error}
use Rattle.file_disk.proofs.disk.FileDisk.create.Goals as goal

pub returns-then-is_err-clause-reason : goal.returns-then-is_err-clause-reason
returns-then-is_err-clause-reason g c =
    let given : IsGivenUp g.F.SectorFile.view g.F.SectorFile.turns c.in_ok-disk.disk.file c.clear.new.self.file =
    on_error c.clear.result c.clear.ensures.given_up (search rules) in
    let up : IsGivenUp g.F.SectorFile.view g.F.SectorFile.turns c.in_ok-file.file c.clear.new.self.file = rw (← c.in_ok-disk.ensures.file) given in
    inr (inl (record {
      file = c.in_ok-file.file;
      opened = c.in_ok-file.ensures.opened;
      so = inr (inl (record { left = c.clear.new.self.file; given_up = up; reported = search rules }));
    }))

pub returns-then-sectors-clause-reason : goal.returns-then-sectors-clause-reason
returns-then-sectors-clause-reason g c =
    inr (inl (record {
      file = c.in_ok-file.file;
      opened = c.in_ok-file.ensures.opened;
      so = inr (inr (record { found = c.in_ok-disk.disk.sectors; measured_so = c.in_ok-disk.ensures.measured; other = search rules; reported = search rules }));
    }))
