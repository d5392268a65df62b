use Rattle.std.proofs.Common.{rules, ◌≤◌, ◌∷◌, [], arith, refl}
use Rattle.sector_disk.specs.Disk.{View}
use Rattle.sector_disk.specs.declared.record.Call.TheVariants.{Sync, Write}
use Rattle.sector_disk.proofs.Made.{made_of_more}
use Rattle.centre_core.specs.State.{empty}
use Rattle.checkpoint.specs.declared.side.Side.TheVariants as side
use Rattle.checkpoint.specs.Layout.{disk_size, half_at, label_at}
use Rattle.recovery.specs.Calls.{label_sector, side_calls}
use Rattle.recovery.specs.Lives.{begins}
use Rattle.recovery.specs.Opens.{opening}
use Rattle.recovery.proofs.Called.{calls_in_last}
use Rattle.recovery.proofs.Formatted.{opens_so, image_opens, within}
use Rattle.recovery.proofs.formatting.format.Goals as goal

pub returns-then-sectors-clause-keeps : goal.returns-then-sectors-clause-keeps
returns-then-sectors-clause-keeps g c = record {
  fault = search rules;
  sectors = search rules;
  later = search rules;
  honest = search rules;
}

pub returns-in_err-write_sides-clause-keeps : goal.returns-in_err-write_sides-clause-keeps
returns-in_err-write_sides-clause-keeps g c = record {
  fault = search rules;
  sectors = search rules;
  later = search rules;
  honest = search rules;
}

pub returns-in_err-write-clause-keeps : goal.returns-in_err-write-clause-keeps
returns-in_err-write-clause-keeps g c = record {
  fault = search rules;
  sectors = search rules;
  later = search rules;
  honest = search rules;
}

pub returns-in_err-sync-clause-keeps : goal.returns-in_err-sync-clause-keeps
returns-in_err-sync-clause-keeps g c = record {
  fault = search rules;
  sectors = search rules;
  later = search rules;
  honest = search rules;
}

pub returns-clause-keeps : goal.returns-clause-keeps
returns-clause-keeps g c = record {
  fault = search rules;
  sectors = search rules;
  later = search rules;
  honest = search rules;
}

pub returns-in_err-write_sides-clause-some_calls : goal.returns-in_err-write_sides-clause-some_calls
returns-in_err-write_sides-clause-some_calls g c room =
    made_of_more (g.D.Disk.view c.args.disk.now) (g.D.Disk.view c.write_sides.new.disk) (side_calls c.args.layout.now)
    (Write label_at (label_sector c.args.layout.now) ∷ Sync ∷ []) c.write_sides.ensures.some_calls

pub returns-in_err-sync-clause-some_calls : goal.returns-in_err-sync-clause-some_calls
returns-in_err-sync-clause-some_calls g c room =
    calls_in_last c.args.layout.now (g.D.Disk.view c.args.disk.now) (g.D.Disk.view c.write_sides.new.disk) c.in_ok-write_sides.ensures.calls
    (g.D.Disk.view c.write.new.self) (rw c.label_sector.ensures at c.in_ok-write.ensures.called.made) _ c.sync.result c.sync.ensures.called

pub returns-clause-some_calls : goal.returns-clause-some_calls
returns-clause-some_calls g c room =
    calls_in_last c.args.layout.now (g.D.Disk.view c.args.disk.now) (g.D.Disk.view c.write_sides.new.disk) c.in_ok-write_sides.ensures.calls
    (g.D.Disk.view c.write.new.self) (rw c.label_sector.ensures at c.in_ok-write.ensures.called.made) _ c.sync.result c.sync.ensures.called

pub returns-clause-on_side : goal.returns-clause-on_side
returns-clause-on_side g c honest =
    let layout = c.args.layout.now in
    let sides : View = g.D.Disk.view c.write_sides.new.disk in
    let labelled : View = g.D.Disk.view c.write.new.self in
    let last : View = g.D.Disk.view c.sync.new.self in
    let at_sides : disk_size layout ≤ sides.sectors = omega (arith, c.if-sectors.false, c.sectors.ensures, c.sectors-2.ensures, c.write_sides.ensures.cause.sectors) in
    let at_last : disk_size layout ≤ last.sectors = omega (arith, at_sides, c.in_ok-write.ensures.cause.sectors, c.in_ok-sync.ensures.cause.sectors) in
    let wrote = rw c.label_sector.ensures at (c.in_ok-write.ensures.effect (within layout sides.sectors at_sides).label (c.write_sides.ensures.honest honest)) in
    let syncs = c.in_ok-sync.ensures.effect wrote.honest in
    image_opens layout sides labelled last (c.in_ok-write_sides.ensures.ready honest) wrote syncs (g.met.D.Disk.sound c.sync.new.self syncs.honest) at_last

pub returns-clause-opens : goal.returns-clause-opens
returns-clause-opens g c honest =
    let layout = c.args.layout.now in
    let sides : View = g.D.Disk.view c.write_sides.new.disk in
    let labelled : View = g.D.Disk.view c.write.new.self in
    let last : View = g.D.Disk.view c.sync.new.self in
    let at_sides : disk_size layout ≤ sides.sectors = omega (arith, c.if-sectors.false, c.sectors.ensures, c.sectors-2.ensures, c.write_sides.ensures.cause.sectors) in
    let at_last : disk_size layout ≤ last.sectors = omega (arith, at_sides, c.in_ok-write.ensures.cause.sectors, c.in_ok-sync.ensures.cause.sectors) in
    let wrote = rw c.label_sector.ensures at (c.in_ok-write.ensures.effect (within layout sides.sectors at_sides).label (c.write_sides.ensures.honest honest)) in
    let syncs = c.in_ok-sync.ensures.effect wrote.honest in
    opens_so g.row.A.Denot layout sides labelled last (c.in_ok-write_sides.ensures.ready honest) wrote syncs (g.met.D.Disk.sound c.sync.new.self syncs.honest) at_last

pub returns-clause-begins : goal.returns-clause-begins
returns-clause-begins g c honest =
    let layout = c.args.layout.now in
    let sides : View = g.D.Disk.view c.write_sides.new.disk in
    let at_sides : disk_size layout ≤ sides.sectors = omega (arith, c.if-sectors.false, c.sectors.ensures, c.sectors-2.ensures, c.write_sides.ensures.cause.sectors) in
    let wrote = rw c.label_sector.ensures at (c.in_ok-write.ensures.effect (within layout sides.sectors at_sides).label (c.write_sides.ensures.honest honest)) in
    let syncs = c.in_ok-sync.ensures.effect wrote.honest in
    begins _ syncs.honest (λ image here. record { opening = opening layout side.A 1 (half_at layout side.A) (empty layout.limits); opens = returns-clause-opens g c honest image here; same = refl })
