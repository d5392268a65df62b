use Rattle.std.proofs.Common.{◌≤◌}
use Rattle.sector_disk.specs.Disk.{View}
use Rattle.checkpoint.specs.Layout.{disk_size}
use Rattle.recovery.proofs.Called.{calls_at_sync, calls_in_gate, calls_in_other, calls_in_other_gate, calls_in_root, calls_in_sync}
use Rattle.recovery.proofs.Formatted.{HasFive, ready_if, within}
use Rattle.recovery.proofs.formatting.write_sides.Goals as goal

pub returns-in_err-write-2-clause-some_calls : goal.returns-in_err-write-2-clause-some_calls
returns-in_err-write-2-clause-some_calls g c =
    calls_in_root c.args.layout.now (g.D.Disk.view c.args.disk.now) (g.D.Disk.view c.write.new.self) (rw (c.slot.ensures, c.first_header.ensures) at c.in_ok-write.ensures.called.made)
    _ c.write-2.result (rw c.root.ensures at c.write-2.ensures.called)

pub returns-in_err-write-3-clause-some_calls : goal.returns-in_err-write-3-clause-some_calls
returns-in_err-write-3-clause-some_calls g c =
    calls_in_other c.args.layout.now (g.D.Disk.view c.args.disk.now) (g.D.Disk.view c.write.new.self) (rw (c.slot.ensures, c.first_header.ensures) at c.in_ok-write.ensures.called.made)
    (g.D.Disk.view c.write-2.new.self) (rw c.root.ensures at c.in_ok-write-2.ensures.called.made)
    _ c.write-3.result (rw c.root-2.ensures at c.write-3.ensures.called)

pub returns-in_err-write-4-clause-some_calls : goal.returns-in_err-write-4-clause-some_calls
returns-in_err-write-4-clause-some_calls g c =
    calls_in_gate c.args.layout.now (g.D.Disk.view c.args.disk.now) (g.D.Disk.view c.write.new.self) (rw (c.slot.ensures, c.first_header.ensures) at c.in_ok-write.ensures.called.made)
    (g.D.Disk.view c.write-2.new.self) (rw c.root.ensures at c.in_ok-write-2.ensures.called.made)
    (g.D.Disk.view c.write-3.new.self) (rw c.root-2.ensures at c.in_ok-write-3.ensures.called.made)
    _ c.write-4.result (rw c.half.ensures at c.write-4.ensures.called)

pub returns-in_err-write-5-clause-some_calls : goal.returns-in_err-write-5-clause-some_calls
returns-in_err-write-5-clause-some_calls g c =
    calls_in_other_gate c.args.layout.now (g.D.Disk.view c.args.disk.now) (g.D.Disk.view c.write.new.self) (rw (c.slot.ensures, c.first_header.ensures) at c.in_ok-write.ensures.called.made)
    (g.D.Disk.view c.write-2.new.self) (rw c.root.ensures at c.in_ok-write-2.ensures.called.made)
    (g.D.Disk.view c.write-3.new.self) (rw c.root-2.ensures at c.in_ok-write-3.ensures.called.made)
    (g.D.Disk.view c.write-4.new.self) (rw c.half.ensures at c.in_ok-write-4.ensures.called.made)
    _ c.write-5.result (rw c.half-2.ensures at c.write-5.ensures.called)

pub returns-clause-calls : goal.returns-clause-calls
returns-clause-calls g c =
    calls_at_sync c.args.layout.now (g.D.Disk.view c.args.disk.now) (g.D.Disk.view c.write.new.self) (rw (c.slot.ensures, c.first_header.ensures) at c.in_ok-write.ensures.called.made)
    (g.D.Disk.view c.write-2.new.self) (rw c.root.ensures at c.in_ok-write-2.ensures.called.made)
    (g.D.Disk.view c.write-3.new.self) (rw c.root-2.ensures at c.in_ok-write-3.ensures.called.made)
    (g.D.Disk.view c.write-4.new.self) (rw c.half.ensures at c.in_ok-write-4.ensures.called.made)
    (g.D.Disk.view c.write-5.new.self) (rw c.half-2.ensures at c.in_ok-write-5.ensures.called.made)
    _ c.sync.result c.sync.ensures.called

pub returns-clause-some_calls : goal.returns-clause-some_calls
returns-clause-some_calls g c =
    calls_in_sync c.args.layout.now (g.D.Disk.view c.args.disk.now) (g.D.Disk.view c.write.new.self) (rw (c.slot.ensures, c.first_header.ensures) at c.in_ok-write.ensures.called.made)
    (g.D.Disk.view c.write-2.new.self) (rw c.root.ensures at c.in_ok-write-2.ensures.called.made)
    (g.D.Disk.view c.write-3.new.self) (rw c.root-2.ensures at c.in_ok-write-3.ensures.called.made)
    (g.D.Disk.view c.write-4.new.self) (rw c.half.ensures at c.in_ok-write-4.ensures.called.made)
    (g.D.Disk.view c.write-5.new.self) (rw c.half-2.ensures at c.in_ok-write-5.ensures.called.made)
    _ c.sync.result c.sync.ensures.called

pub returns-clause-ready : goal.returns-clause-ready
returns-clause-ready g c =
    let layout = c.args.layout.now in
    let old : View = g.D.Disk.view c.args.disk.now in
    let one : View = g.D.Disk.view c.write.new.self in
    let two : View = g.D.Disk.view c.write-2.new.self in
    let three : View = g.D.Disk.view c.write-3.new.self in
    let four : View = g.D.Disk.view c.write-4.new.self in
    let five : View = g.D.Disk.view c.write-5.new.self in
    let at_one : disk_size layout ≤ one.sectors = rw c.in_ok-write.ensures.cause.sectors c.requires.room in
    let at_two : disk_size layout ≤ two.sectors = rw c.in_ok-write-2.ensures.cause.sectors at_one in
    let at_three : disk_size layout ≤ three.sectors = rw c.in_ok-write-3.ensures.cause.sectors at_two in
    let at_four : disk_size layout ≤ four.sectors = rw c.in_ok-write-4.ensures.cause.sectors at_three in
    let has : old.honest → HasFive layout old one two three four five = λ honest.
    let header = rw (c.slot.ensures, c.first_header.ensures) at (c.in_ok-write.ensures.effect (rw c.slot.ensures (within layout old.sectors c.requires.room).header) honest) in
    let root = rw c.root.ensures at (c.in_ok-write-2.ensures.effect (rw c.root.ensures (within layout one.sectors at_one).root) header.honest) in
    let other = rw c.root-2.ensures at (c.in_ok-write-3.ensures.effect (rw c.root-2.ensures (within layout two.sectors at_two).other) root.honest) in
    let gate = rw c.half.ensures at (c.in_ok-write-4.ensures.effect (rw c.half.ensures (within layout three.sectors at_three).gate) other.honest) in
    let other_gate = rw c.half-2.ensures at (c.in_ok-write-5.ensures.effect (rw c.half-2.ensures (within layout four.sectors at_four).other_gate) gate.honest) in
    record { header = header; root = root; other = other; gate = gate; other_gate = other_gate } in
    ready_if layout old one two three four five (g.D.Disk.view c.sync.new.self) c.sync.result has (λ honest. c.sync.ensures.effect (has honest).other_gate.honest)
