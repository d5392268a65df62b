use Rattle.std.proofs.Common.{◌<◌}
use Rattle.sector_disk.specs.Disk.{View, sector}
use Rattle.sector_disk.specs.Run.{HasOnlyRead}
use Rattle.file_disk.proofs.Parts.{HasGoneOn, IsPrefix}
use Rattle.file_disk.proofs.whole.read_sector.Given as goal

abbrev pub invariant-loop-call : goal.invariant-loop-call
invariant-loop-call g l =
    let old : View = g.F.SectorFile.view l.initial.file in
    let now : View = g.F.SectorFile.view l.file in
    record {
      less : l.done < 512;
      gone : HasGoneOn old now (g.F.SectorFile.turns l.initial.file) (g.F.SectorFile.turns l.file) l._call;
      read : l.at < old.sectors → old.honest → HasOnlyRead old now × IsPrefix l.bytes (sector old.reads l.at) l.done;
    }
