use Rattle.std.proofs.Common.{◌≡◌, ◌-◌, ◌≤◌, ◌++◌}
use Rattle.sector_disk.specs.Disk.{View}
use Rattle.sector_disk.specs.Effects.{OnlyReads}
use Rattle.image_rows.specs.Image.{slot_of}
use Rattle.checkpoint.specs.OnSide.{sectors_from}
use Rattle.checkpoint.specs.Reading.{read_calls}
use Rattle.checkpoint.proofs.Readback.{HasTaken, rest_of}
use Rattle.checkpoint.proofs.reading.take_rows.Given as goal

abbrev pub invariant-loop-first : goal.invariant-loop-first
invariant-loop-first g l =
    let old : View = g.D.Disk.view l.initial.disk in
    let now : View = g.D.Disk.view l.disk in
    record {
      few : l.read ≤ l.sectors;
      reads : OnlyReads old now ⊥;
      limits : l.loader.state.registered.limits ≡ l.layout.limits;
      calls : now.calls ≡ old.calls ++ read_calls l.first l.read;
      rest : old.honest → rest_of old.reads l.first l.sectors l.read l.loader ≡ slot_of l.layout.limits (sectors_from old.reads l.first l.sectors);
      taken : old.honest → HasTaken l.layout.limits l.read l.loader;
    }

abbrev pub decreases-loop-first : goal.decreases-loop-first
decreases-loop-first g l = l.sectors - l.read
