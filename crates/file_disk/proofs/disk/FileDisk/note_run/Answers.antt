use Rattle.std.proofs.Common.{List, refl}
use Rattle.sector_disk.specs.Filling.{part_of}
use Rattle.sector_disk.specs.declared.record.Call.{Call}
use Rattle.sector_disk.proofs.Made.{no_write_yet, one_made}
use Rattle.file_disk.proofs.disk.FileDisk.note_run.Goals as goal

pub loop-k-init : goal.loop-k-init
loop-k-init g c = record { calls = no_write_yet c.args.self.now.history.calls c.args.at (part_of c.args.bytes.now); file = (refl, refl); kept = (refl, refl) }

pub loop-k-preserved : goal.loop-k-preserved
loop-k-preserved g c =
    let was : List Call = c.loop-k.self.history.calls in
    let new : List Call = c.then-self.result.calls in
    record {
      calls = one_made c.args.self.now.history.calls was new c.args.at c.loop-k.k (part_of c.args.bytes.now) c.sector_in.result.now c.sector_in.ensures
          c.loop-k.invariant.calls c.then-self.ensures;
      file = c.loop-k.invariant.file;
      kept = c.loop-k.invariant.kept;
    }
