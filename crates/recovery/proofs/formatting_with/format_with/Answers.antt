use Rattle.std.proofs.Common.{rules, ◌≤◌, ◌∷◌, [], arith, refl}
use Rattle.sector_disk.specs.Disk.{View}
use Rattle.sector_disk.specs.declared.record.Call.TheVariants.{Sync, Write}
use Rattle.sector_disk.proofs.Made.{made_of_more}
use Rattle.checkpoint.specs.declared.side.Side.TheVariants as side
use Rattle.checkpoint.specs.Layout.{disk_size, half_at, label_at}
use Rattle.checkpoint.proofs.Called.{calls_at_sync, calls_in_call, calls_in_sync}
use Rattle.recovery.specs.Calls.{label_sector}
use Rattle.recovery.specs.FormatWith.{filled_calls}
use Rattle.recovery.specs.Lives.{begins}
use Rattle.recovery.specs.Opens.{opening}
use Rattle.recovery.proofs.Formatted.{within}
use Rattle.recovery.proofs.FormattedWith.{filled_opens, filled_opens_to}
use Rattle.recovery.proofs.formatting_with.format_with.Goals as goal

pub returns-then-sectors-clause-keeps : goal.returns-then-sectors-clause-keeps
returns-then-sectors-clause-keeps g c = record {
  fault = search rules;
  sectors = search rules;
  later = search rules;
  honest = search rules;
}

pub returns-in_err-fill_sides-clause-keeps : goal.returns-in_err-fill_sides-clause-keeps
returns-in_err-fill_sides-clause-keeps g c = record {
  fault = search rules;
  sectors = search rules;
  later = search rules;
  honest = search rules;
}

pub returns-in_err-write-clause-keeps : goal.returns-in_err-write-clause-keeps
returns-in_err-write-clause-keeps g c = record {
  fault = search rules;
  sectors = search rules;
  later = search rules;
  honest = search rules;
}

pub returns-in_err-sync-clause-keeps : goal.returns-in_err-sync-clause-keeps
returns-in_err-sync-clause-keeps g c = record {
  fault = search rules;
  sectors = search rules;
  later = search rules;
  honest = search rules;
}

pub returns-clause-keeps : goal.returns-clause-keeps
returns-clause-keeps g c = record {
  fault = search rules;
  sectors = search rules;
  later = search rules;
  honest = search rules;
}

pub returns-in_err-fill_sides-clause-some_calls : goal.returns-in_err-fill_sides-clause-some_calls
returns-in_err-fill_sides-clause-some_calls g c room =
    made_of_more (g.D.Disk.view c.args.disk.now) (g.D.Disk.view c.fill_sides.new.disk) (filled_calls c.args.layout.now c.args.register.now)
    (Write label_at (label_sector c.args.layout.now) ∷ Sync ∷ []) c.fill_sides.ensures.some_calls

pub returns-in_err-write-clause-some_calls : goal.returns-in_err-write-clause-some_calls
returns-in_err-write-clause-some_calls g c room =
    calls_in_call (g.D.Disk.view c.args.disk.now) (g.D.Disk.view c.fill_sides.new.disk) (filled_calls c.args.layout.now c.args.register.now)
    (Write label_at (label_sector c.args.layout.now)) c.in_ok-fill_sides.ensures.calls
    (g.D.Disk.view c.write.new.self) c.write.result (rw c.label_sector.ensures at c.write.ensures.called)

pub returns-in_err-sync-clause-some_calls : goal.returns-in_err-sync-clause-some_calls
returns-in_err-sync-clause-some_calls g c room =
    calls_in_sync (g.D.Disk.view c.args.disk.now) (g.D.Disk.view c.fill_sides.new.disk) (filled_calls c.args.layout.now c.args.register.now)
    (Write label_at (label_sector c.args.layout.now)) c.in_ok-fill_sides.ensures.calls
    (g.D.Disk.view c.write.new.self) (rw c.label_sector.ensures at c.in_ok-write.ensures.called.made) (g.D.Disk.view c.sync.new.self) c.sync.result c.sync.ensures.called

pub returns-clause-some_calls : goal.returns-clause-some_calls
returns-clause-some_calls g c room =
    calls_in_sync (g.D.Disk.view c.args.disk.now) (g.D.Disk.view c.fill_sides.new.disk) (filled_calls c.args.layout.now c.args.register.now)
    (Write label_at (label_sector c.args.layout.now)) c.in_ok-fill_sides.ensures.calls
    (g.D.Disk.view c.write.new.self) (rw c.label_sector.ensures at c.in_ok-write.ensures.called.made) (g.D.Disk.view c.sync.new.self) c.sync.result c.sync.ensures.called

pub returns-clause-calls : goal.returns-clause-calls
returns-clause-calls g c =
    calls_at_sync (g.D.Disk.view c.args.disk.now) (g.D.Disk.view c.fill_sides.new.disk) (filled_calls c.args.layout.now c.args.register.now)
    (Write label_at (label_sector c.args.layout.now)) c.in_ok-fill_sides.ensures.calls
    (g.D.Disk.view c.write.new.self) (rw c.label_sector.ensures at c.in_ok-write.ensures.called.made) (g.D.Disk.view c.sync.new.self) c.in_ok-sync.ensures.called.made

pub returns-clause-on_side : goal.returns-clause-on_side
returns-clause-on_side g c honest =
    let layout = c.args.layout.now in
    let sides : View = g.D.Disk.view c.fill_sides.new.disk in
    let labelled : View = g.D.Disk.view c.write.new.self in
    let last : View = g.D.Disk.view c.sync.new.self in
    let at_sides : disk_size layout ≤ sides.sectors = omega (arith, c.if-sectors.false, c.sectors.ensures, c.sectors-2.ensures, c.fill_sides.ensures.keeps.sectors) in
    let at_last : disk_size layout ≤ last.sectors = omega (arith, at_sides, c.in_ok-write.ensures.cause.sectors, c.in_ok-sync.ensures.cause.sectors) in
    let wrote = rw c.label_sector.ensures at (c.in_ok-write.ensures.effect (within layout sides.sectors at_sides).label (c.fill_sides.ensures.keeps.honest honest)) in
    let syncs = c.in_ok-sync.ensures.effect wrote.honest in
    filled_opens g.row.A.Denot layout c.args.register.now sides labelled last c.registers.ensures.state c.registers.ensures.ranges c.requires.limits
    (c.in_ok-fill_sides.ensures.filled honest) wrote syncs (g.met.D.Disk.sound c.sync.new.self syncs.honest) at_last

pub returns-clause-opens : goal.returns-clause-opens
returns-clause-opens g c honest =
    let layout = c.args.layout.now in
    let sides : View = g.D.Disk.view c.fill_sides.new.disk in
    let labelled : View = g.D.Disk.view c.write.new.self in
    let last : View = g.D.Disk.view c.sync.new.self in
    let at_sides : disk_size layout ≤ sides.sectors = omega (arith, c.if-sectors.false, c.sectors.ensures, c.sectors-2.ensures, c.fill_sides.ensures.keeps.sectors) in
    let at_last : disk_size layout ≤ last.sectors = omega (arith, at_sides, c.in_ok-write.ensures.cause.sectors, c.in_ok-sync.ensures.cause.sectors) in
    let wrote = rw c.label_sector.ensures at (c.in_ok-write.ensures.effect (within layout sides.sectors at_sides).label (c.fill_sides.ensures.keeps.honest honest)) in
    let syncs = c.in_ok-sync.ensures.effect wrote.honest in
    filled_opens_to g.row.A.Denot layout c.args.register.now sides labelled last c.registers.ensures.state c.registers.ensures.ranges
    c.requires.limits (c.in_ok-fill_sides.ensures.filled honest) wrote syncs (g.met.D.Disk.sound c.sync.new.self syncs.honest) at_last

pub returns-clause-begins : goal.returns-clause-begins
returns-clause-begins g c honest =
    let layout = c.args.layout.now in
    let sides : View = g.D.Disk.view c.fill_sides.new.disk in
    let at_sides : disk_size layout ≤ sides.sectors = omega (arith, c.if-sectors.false, c.sectors.ensures, c.sectors-2.ensures, c.fill_sides.ensures.keeps.sectors) in
    let wrote = rw c.label_sector.ensures at (c.in_ok-write.ensures.effect (within layout sides.sectors at_sides).label (c.fill_sides.ensures.keeps.honest honest)) in
    let syncs = c.in_ok-sync.ensures.effect wrote.honest in
    begins _ syncs.honest (λ image here. record { opening = opening layout side.A 1 (half_at layout side.A) c.args.register.now; opens = returns-clause-opens g c honest image here; same = refl })
