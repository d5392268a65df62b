use Rattle.std.proofs.Common.{◌+◌, ◌<◌, ◌≤◌, ◌∙◌, refl, sym, arith}
use Rattle.sector_disk.specs.Disk.{View}
use Rattle.sector_disk.specs.Filling.{part_of, sectors_in}
use Rattle.sector_disk.proofs.Filled.{fill_wider}
use Rattle.file_disk.proofs.Runs.{again, run_done}
use Rattle.file_disk.proofs.run.write_sectors.Goals as goal

pub returns-in_err-written-clause-effect : goal.returns-in_err-written-clause-effect
returns-in_err-written-clause-effect g c within honest =
    let n = sectors_in c.args.bytes.now in
    let several : 1 < n = omega (arith, c.if-bytes-le512.false, c.requires.whole) in
    fill_wider (g.F.SectorFile.view c.args.file.now) (g.F.SectorFile.view c.write_at.new.self) c.args.at n n (part_of c.args.bytes.now) _ c.from_residual.result
    c.from_residual.ensures.0 (omega arith) (c.write_at.ensures.sectors c.args.at n refl several c.requires.whole within honest)

pub returns-then-written-bytes-clause-effect : goal.returns-then-written-bytes-clause-effect
returns-then-written-bytes-clause-effect g c within honest =
    let n = sectors_in c.args.bytes.now in
    let several : 1 < n = omega (arith, c.if-bytes-le512.false, c.requires.whole) in
    run_done (g.F.SectorFile.view c.args.file.now) (g.F.SectorFile.view c.write_at.new.self) c.args.at n c.args.bytes.now _ c.in_ok-written.written
    (c.write_at.ensures.sectors c.args.at n refl several c.requires.whole within honest) (sym c.bytes_moved.ensures ∙ c.in_ok-written.was)
    (c.if-written-bytes.true ∙ c.requires.whole)

pub returns-clause-effect : goal.returns-clause-effect
returns-clause-effect g c within honest =
    let old : View = g.F.SectorFile.view c.args.file.now in
    let mid : View = g.F.SectorFile.view c.write_at.new.self in
    let n = sectors_in c.args.bytes.now in
    let several : 1 < n = omega (arith, c.if-bytes-le512.false, c.requires.whole) in
    let left = c.write_at.ensures.sectors c.args.at n refl several c.requires.whole within honest in
    let still : c.args.at + n ≤ mid.sectors = omega (arith, within, c.write_at.ensures.cause.sectors) in
    again old mid (g.F.SectorFile.view c.write_each-2.new.file) c.args.at n _ _ _ c.write_each-2.result left (c.write_each-2.ensures.effect still left.honest)
