use Rattle.std.proofs.Common.{◌≡◌, ◌∙◌, ◌++◌, Err, ap, refl, sym, arith}
use Rattle.sector_disk.specs.Filling.{part_of, sectors_in}
use Rattle.sector_disk.specs.Run.{writes}
use Rattle.sector_disk.proofs.Filled.{fill_wider}
use Rattle.sector_disk.proofs.Made.{whole_made}
use Rattle.file_disk.proofs.Runs.{failed_once, of_file}
use Rattle.file_disk.specs.Disk.{calls_of, file_view}
use Rattle.file_disk.proofs.disk.FileDiskDisk.write_run.Goals as goal

pub returns-in-Ok-clause-effect : goal.returns-in-Ok-clause-effect
returns-in-Ok-clause-effect g c honest =
    let written = rw c.note_run.ensures.file.0 at c.in-Ok.ensures.effect in
    let count = rw c.note_run.ensures.file.0 at c.write_sectors.ensures.sectors in
    let filled = written (omega (arith, c.requires.room, honest.1)) honest.0 in
    record {
      honest = (filled.honest, count ∙ honest.1 ∙ sym c.note_run.ensures.file.1);
      crash = record { later = filled.crash.later; each = filled.crash.each; before = filled.crash.before };
      now = filled.now;
      count = filled.count;
      others = filled.others;
      written = filled.written;
    }

pub returns-in-Ok-clause-runs : goal.returns-in-Ok-clause-runs
returns-in-Ok-clause-runs g c = record {
  calls = c.note_run.ensures.calls;
  some_calls = whole_made (file_view g.F.SectorFile.view c.args.self.now) _ _ c.note_run.ensures.calls;
  keeps = record {
    fault = λ e. absurd cc;
    sectors = c.note_run.ensures.file.1;
    later = omega (arith, c.note_run.ensures.kept.1);
    honest = λ honest. (returns-in-Ok-clause-effect g c honest).honest;
  };
  in_range = λ out. absurd cc;
}

pub returns-in-Err-clause-effect : goal.returns-in-Err-clause-effect
returns-in-Err-clause-effect g c honest =
    let n = sectors_in c.args.bytes.now in
    let written = rw c.note_run.ensures.file.0 at c.in-Err.ensures.effect in
    let count = rw c.note_run.ensures.file.0 at c.write_sectors.ensures.sectors in
    let failed = written (omega (arith, c.requires.room, honest.1)) honest.0 in
    of_file g.F.SectorFile.view c.args.self.now c.fail-in-Err.new.self c.args.at n (part_of c.args.bytes.now) (Err c.fail-in-Err.result)
    (rw (c.fail-in-Err.ensures.file.0, c.fail-in-Err.ensures.file.1) (count ∙ honest.1 ∙ sym c.note_run.ensures.file.1))
    (rw c.fail-in-Err.ensures.file.0
    (fill_wider _ _ c.args.at n n (part_of c.args.bytes.now) _ (Err c.fail-in-Err.result) refl (omega arith) failed))

pub returns-in-Err-clause-runs : goal.returns-in-Err-clause-runs
returns-in-Err-clause-runs g c =
    let made : calls_of c.fail-in-Err.new.self ≡ calls_of c.args.self.now ++ writes c.args.at (sectors_in c.args.bytes.now) (part_of c.args.bytes.now) =
    ap (λ history. history.calls) c.fail-in-Err.ensures.kept.1 ∙ c.note_run.ensures.calls in
    record {
      calls = tt;
      some_calls = whole_made (file_view g.F.SectorFile.view c.args.self.now) _ _ made;
      keeps = record {
        fault = λ e. failed_once _ _ (rw (← c.note_run.ensures.kept.1) c.fail-in-Err.ensures.counted);
        sectors = c.fail-in-Err.ensures.file.1 ∙ c.note_run.ensures.file.1;
        later = omega (arith, c.fail-in-Err.ensures.counted, c.note_run.ensures.kept.1);
        honest = λ honest. (returns-in-Err-clause-effect g c honest).honest;
      };
      in_range = λ out. absurd cc;
    }
