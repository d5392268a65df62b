use Rattle.std.proofs.Common.{rules, ◌≤◌, arith}
use Rattle.sector_disk.specs.Disk.{View}
use Rattle.checkpoint.specs.declared.side.Side.TheVariants as side
use Rattle.checkpoint.specs.Calls.{row_calls}
use Rattle.checkpoint.specs.Layout.{disk_size, slot_at}
use Rattle.checkpoint.proofs.Apart.{lies}
use Rattle.checkpoint.proofs.Called.{calls_at_last, calls_in_close, calls_in_last, calls_in_rows}
use Rattle.checkpoint.proofs.Imaged.{rows_have_room}
use Rattle.recovery.specs.Calls.{side_calls}
use Rattle.recovery.proofs.FormattedWith.{are_filled}
use Rattle.recovery.proofs.formatting_with.fill_sides.Goals as goal

pub returns-in_err-write_sides-clause-keeps : goal.returns-in_err-write_sides-clause-keeps
returns-in_err-write_sides-clause-keeps g c = record {
  fault = search rules;
  sectors = search rules;
  later = search rules;
  honest = search rules;
}

pub returns-in_err-write_rows-clause-keeps : goal.returns-in_err-write_rows-clause-keeps
returns-in_err-write_rows-clause-keeps g c = record {
  fault = search rules;
  sectors = search rules;
  later = search rules;
  honest = search rules;
}

pub returns-in_err-sync-clause-keeps : goal.returns-in_err-sync-clause-keeps
returns-in_err-sync-clause-keeps g c = record {
  fault = search rules;
  sectors = search rules;
  later = search rules;
  honest = search rules;
}

pub returns-clause-keeps : goal.returns-clause-keeps
returns-clause-keeps g c = record {
  fault = search rules;
  sectors = search rules;
  later = search rules;
  honest = search rules;
}

pub write_rows-requires-clause-room : goal.write_rows-requires-clause-room
write_rows-requires-clause-room g c =
    let layout = c.args.layout.now in
    let places = lies layout side.A in
    let fit = rows_have_room layout 1 c.args.register.now c.registers.ensures.state c.requires.limits in
    let room : disk_size layout ≤ (g.D.Disk.view c.write_sides.new.disk).sectors = rw c.write_sides.ensures.cause.sectors c.requires.room in
    omega (arith, c.slot.ensures, fit, places.slot, places.half, room)

pub write_rows-requires-clause-fits : goal.write_rows-requires-clause-fits
write_rows-requires-clause-fits g c =
    let layout = c.args.layout.now in
    let places = lies layout side.A in
    let fit = rows_have_room layout 1 c.args.register.now c.registers.ensures.state c.requires.limits in
    omega (arith, c.slot.ensures, fit, places.slot, places.half, places.short)

pub returns-in_err-write_sides-clause-some_calls : goal.returns-in_err-write_sides-clause-some_calls
returns-in_err-write_sides-clause-some_calls g c =
    let layout = c.args.layout.now in
    calls_in_close (g.D.Disk.view c.args.disk.now) (g.D.Disk.view c.write_sides.new.disk) (side_calls layout)
    (row_calls (slot_at layout side.A) (1, c.args.register.now)) c.write_sides.ensures.some_calls

pub returns-in_err-write_rows-clause-some_calls : goal.returns-in_err-write_rows-clause-some_calls
returns-in_err-write_rows-clause-some_calls g c =
    let layout = c.args.layout.now in
    calls_in_rows (g.D.Disk.view c.args.disk.now) (g.D.Disk.view c.write_sides.new.disk) (side_calls layout)
    (row_calls (slot_at layout side.A) (1, c.args.register.now)) c.in_ok-write_sides.ensures.calls
    (g.D.Disk.view c.write_rows.new.disk) (rw c.slot.ensures at c.write_rows.ensures.rows.some_calls)

pub returns-in_err-sync-clause-some_calls : goal.returns-in_err-sync-clause-some_calls
returns-in_err-sync-clause-some_calls g c =
    let layout = c.args.layout.now in
    calls_in_last (g.D.Disk.view c.args.disk.now) (g.D.Disk.view c.write_sides.new.disk) (side_calls layout)
    (row_calls (slot_at layout side.A) (1, c.args.register.now)) c.in_ok-write_sides.ensures.calls
    (g.D.Disk.view c.write_rows.new.disk) (rw c.slot.ensures at c.in_ok-write_rows.ensures.rows.calls) (g.D.Disk.view c.sync.new.self) c.sync.result c.sync.ensures.called

pub returns-clause-some_calls : goal.returns-clause-some_calls
returns-clause-some_calls g c =
    let layout = c.args.layout.now in
    calls_in_last (g.D.Disk.view c.args.disk.now) (g.D.Disk.view c.write_sides.new.disk) (side_calls layout)
    (row_calls (slot_at layout side.A) (1, c.args.register.now)) c.in_ok-write_sides.ensures.calls
    (g.D.Disk.view c.write_rows.new.disk) (rw c.slot.ensures at c.in_ok-write_rows.ensures.rows.calls) (g.D.Disk.view c.sync.new.self) c.sync.result c.sync.ensures.called

pub returns-clause-calls : goal.returns-clause-calls
returns-clause-calls g c =
    let layout = c.args.layout.now in
    calls_at_last (g.D.Disk.view c.args.disk.now) (g.D.Disk.view c.write_sides.new.disk) (side_calls layout)
    (row_calls (slot_at layout side.A) (1, c.args.register.now)) c.in_ok-write_sides.ensures.calls
    (g.D.Disk.view c.write_rows.new.disk) (rw c.slot.ensures at c.in_ok-write_rows.ensures.rows.calls) (g.D.Disk.view c.sync.new.self) c.in_ok-sync.ensures.called.made

pub returns-clause-filled : goal.returns-clause-filled
returns-clause-filled g c honest =
    let sides : View = g.D.Disk.view c.write_sides.new.disk in
    let written : View = g.D.Disk.view c.write_rows.new.disk in
    let filled = rw c.slot.ensures at (c.in_ok-write_rows.ensures.rows.effect (c.write_sides.ensures.honest honest)) in
    are_filled c.args.layout.now c.args.register.now sides written (g.D.Disk.view c.sync.new.self) c.registers.ensures.state c.requires.limits
    (c.in_ok-write_sides.ensures.ready honest) filled (c.in_ok-sync.ensures.effect filled.honest)
