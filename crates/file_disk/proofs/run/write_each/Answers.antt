use Rattle.std.proofs.Common.{◌+◌, ◌<◌, ◌∙◌, Ok, arith, refl}
use Rattle.sector_disk.specs.Disk.{View}
use Rattle.sector_disk.specs.Filling.{part_of, sectors_in}
use Rattle.sector_disk.proofs.Filled.{fill_more, fill_none, fill_wider}
use Rattle.file_disk.proofs.GivenUp.{given_up_at}
use Rattle.file_disk.proofs.run.write_each.Goals as goal

pub loop-k-init : goal.loop-k-init
loop-k-init g c =
    let old : View = g.F.SectorFile.view c.args.file.now in
    record {
      sectors = refl;
      later = omega arith;
      filled = λ within honest. fill_none old c.args.at (part_of c.args.bytes.now) honest (g.met.F.SectorFile.sound c.args.file.now honest);
    }

pub returns-in_err-write_sector-clause-effect : goal.returns-in_err-write_sector-clause-effect
returns-in_err-write_sector-clause-effect g c within honest =
    let old : View = g.F.SectorFile.view c.args.file.now in
    let mid : View = g.F.SectorFile.view c.loop-k.file in
    let new : View = g.F.SectorFile.view c.write_sector.new.file in
    let was = c.loop-k.invariant.filled within honest in
    let inside : c.args.at + c.loop-k.k < mid.sectors = omega (arith, c.loop-k.invariant.sectors, within) in
    fill_wider old new c.args.at (c.loop-k.k + 1) (sectors_in c.args.bytes.now) (part_of c.args.bytes.now) c.write_sector.result c.from_residual.result
    c.from_residual.ensures.0 (omega arith)
    (fill_more old mid new c.args.at c.loop-k.k (part_of c.args.bytes.now) c.sector_in.result.now c.write_sector.result was
    (c.write_sector.ensures.effect inside was.honest) c.sector_in.ensures (g.met.F.SectorFile.sound c.loop-k.file was.honest) inside)

pub returns-in_err-write_sector-clause-sectors : goal.returns-in_err-write_sector-clause-sectors
returns-in_err-write_sector-clause-sectors g c = c.write_sector.ensures.sectors ∙ c.loop-k.invariant.sectors

pub loop-k-preserved : goal.loop-k-preserved
loop-k-preserved g c =
    let old : View = g.F.SectorFile.view c.args.file.now in
    let mid : View = g.F.SectorFile.view c.loop-k.file in
    let new : View = g.F.SectorFile.view c.write_sector.new.file in
    record {
      sectors = c.write_sector.ensures.sectors ∙ c.loop-k.invariant.sectors;
      later = omega (arith, c.loop-k.invariant.later, c.write_sector.ensures.later);
      filled = λ within honest.
          let was = c.loop-k.invariant.filled within honest in
          let inside : c.args.at + c.loop-k.k < mid.sectors = omega (arith, c.loop-k.invariant.sectors, within) in
          fill_more old mid new c.args.at c.loop-k.k (part_of c.args.bytes.now) c.sector_in.result.now (Ok tt) was
          (c.in_ok-write_sector.ensures.effect inside was.honest) c.sector_in.ensures (g.met.F.SectorFile.sound c.loop-k.file was.honest) inside;
    }

pub returns-in_err-write_sector-clause-later : goal.returns-in_err-write_sector-clause-later
returns-in_err-write_sector-clause-later g c = omega (arith, c.loop-k.invariant.later, c.write_sector.ensures.later)

pub returns-in_err-write_sector-clause-given_up : goal.returns-in_err-write_sector-clause-given_up
returns-in_err-write_sector-clause-given_up g c =
    given_up_at g.F.SectorFile.view g.F.SectorFile.turns c.args.file.now c.loop-k.file c.write_sector.new.file c.from_residual.result
    c.loop-k.invariant.later c.in_err-write_sector.ensures.given_up.1

pub returns-clause-later : goal.returns-clause-later
returns-clause-later g c = c.loop-k.invariant.later
