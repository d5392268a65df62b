use Rattle.std.proofs.Common.{◌≡◌, ℕ, ◌+◌, ◌<◌, Ok, Err, ap, subst, arith}
use Rattle.std.proofs.lemmas.Result.{err_from_is_err_and}
use Rattle.sector_disk.specs.Disk.{View}
use Rattle.gated_journal.specs.Half.{half_of}
use Rattle.recovery.proofs.Replayed.{is_no_memory, plays_closed, plays_fault, plays_none, plays_one, plays_record, plays_stop, short_in_record, short_of_record}
use Rattle.gated_journal.proofs.Kept.{reads_where}
use Rattle.recovery.specs.declared.fault.StoreFault.{StoreFault}
use Rattle.recovery.specs.declared.fault.StoreFault.TheVariants.{BadGeometry, Broken, Damaged, DiskFault, EpochsUsedUp, NoMemory, Unformatted, Unready}
use Rattle.recovery.specs.Inside.Reads.{IsOfRowsOrRecords, IsOfRecord}
use Rattle.recovery.specs.Opening.{HasReadAgain, fault_of}
use Rattle.recovery.specs.Opens.{run, taken}
use Rattle.recovery.proofs.records.play_next.Goals as goal

-- a record in a half is in so many sectors, and its commands are no matter of the device
of_reading : (at end : ℕ) (e : StoreFault) → at < end → IsOfRecord at e → IsOfRowsOrRecords end e
of_reading at end Unformatted lt is = is
of_reading at end BadGeometry lt is = is
of_reading at end (Damaged s) lt is = rw is lt
of_reading at end DiskFault lt is = absurd is
of_reading at end Broken lt is = is
of_reading at end NoMemory lt is = tt
of_reading at end EpochsUsedUp lt is = is
of_reading at end Unready lt is = is

no_device : (at : ℕ) (e : StoreFault) → IsOfRecord at e → e ≡ DiskFault → ⊥
no_device at e kinds is = subst (IsOfRecord at) is kinds

pub returns-in_err-play_record-clause-reads : goal.returns-in_err-play_record-clause-reads
returns-in_err-play_record-clause-reads g c =
    let p = err_from_is_err_and c.from_residual-in_err-play_record.result c.from_residual-in_err-play_record.ensures.1 in
    let at = rw c.in-Some.is at c.in_ok-at.ensures.moves.at in
    let kinds = c.in_err-play_record.ensures.kinds in
    let inside : c.in-Some.at < c.args.journal.now.end = omega (arith, at.1, c.read_next.ensures.moves.next) in
    rw (p.1, p.2) (record {
      kinds = of_reading c.in-Some.at c.args.journal.now.end c.in_err-play_record.field-0.0 inside kinds;
      disk = reads_where (g.D.Disk.view c.args.disk.now) (g.D.Disk.view c.read_next.new.disk) c.read_next.ensures.reads
          (λ e. let is : c.in_err-play_record.field-0.0 ≡ DiskFault = cc in absurd (no_device c.in-Some.at c.in_err-play_record.field-0.0 kinds is));
    })

pub returns-in_err-at-clause-exact : goal.returns-in_err-at-clause-exact
returns-in_err-at-clause-exact g c honest =
    let old : View = g.D.Disk.view c.args.disk.now in
    let p = err_from_is_err_and c.from_residual.result c.from_residual.ensures.1 in
    rw (p.1, p.2, c.in_err-at.ensures.same)
    (plays_fault g.row.A.Denot c.args.journal.now.form c.args.journal.now.count old.reads c.args.journal.now.next c.args.journal.now.end
    c.requires.readable.before c.args.register.now c.in_err-at.field-0.0 (c.in_err-at.ensures.exact honest))

pub returns-in_default-clause-exact : goal.returns-in_default-clause-exact
returns-in_default-clause-exact g c honest =
    let old : View = g.D.Disk.view c.args.disk.now in
    let same = rw c.in_default.is at c.in_ok-at.ensures.moves.closed in
    let read = rw c.in_default.is at (c.in_ok-at.ensures.exact honest) in
    rw same (plays_closed {A = g.row.A.Denot} c.args.journal.now.form c.args.journal.now.count old.reads c.args.journal.now.next c.args.journal.now.end
    c.requires.readable.before c.args.register.now read)

pub returns-clause-exact : goal.returns-clause-exact
returns-clause-exact g c honest =
    let old : View = g.D.Disk.view c.args.disk.now in
    let read = rw c.in-Some.is at (c.in_ok-at.ensures.exact honest) in
    let count = rw c.in-Some.is at c.in_ok-at.ensures.moves.count in
    let at = rw c.in-Some.is at c.in_ok-at.ensures.moves.at in
    let ran : taken (c.args.journal.now.next + 1) (run c.args.register.now c.in-Some.commands.items) ≡ Ok c.play_record.new.register =
    rw (at.0, c.deref.ensures.value) at c.in_ok-play_record.ensures.exact in
    rw (c.read_next.ensures.moves.form, count)
    (plays_record c.args.journal.now.form c.args.journal.now.count old.reads c.args.journal.now.next c.args.journal.now.end c.requires.readable.before
    c.args.register.now c.in-Some.commands.items c.read_next.new.self.next read c.play_record.new.register ran)

pub returns-in_err-play_record-clause-exact : goal.returns-in_err-play_record-clause-exact
returns-in_err-play_record-clause-exact g c honest =
    let old : View = g.D.Disk.view c.args.disk.now in
    let p = err_from_is_err_and c.from_residual-in_err-play_record.result c.from_residual-in_err-play_record.ensures.1 in
    let read = rw c.in-Some.is at (c.in_ok-at.ensures.exact honest) in
    let count = rw c.in-Some.is at c.in_ok-at.ensures.moves.count in
    let at = rw c.in-Some.is at c.in_ok-at.ensures.moves.at in
    let failed = rw (at.0, c.deref.ensures.value) at c.in_err-play_record.ensures.exact in
    rw (p.1, p.2, c.read_next.ensures.moves.form, count)
    (plays_stop c.args.journal.now.form c.args.journal.now.count old.reads c.args.journal.now.next c.args.journal.now.end c.requires.readable.before
    c.args.register.now c.in-Some.commands.items c.read_next.new.self.next read c.in_err-play_record.field-0.0 failed)

pub returns-clause-counts : goal.returns-clause-counts
returns-clause-counts g c = λ same.
    let count = rw c.in-Some.is at c.in_ok-at.ensures.moves.count in
    let more = rw c.deref.ensures.value at c.in_ok-play_record.ensures.count in
    omega (arith, count, more, same)

pub returns-in_default-clause-moved : goal.returns-in_default-clause-moved
returns-in_default-clause-moved g c honest =
    let old : View = g.D.Disk.view c.args.disk.now in
    let same = rw c.in_default.is at c.in_ok-at.ensures.moves.closed in
    rw same (plays_none c.args.register.now (half_of {A = g.row.A.Denot} c.args.journal.now.form c.args.journal.now.count old.reads c.args.journal.now.next c.args.journal.now.end))

pub returns-clause-moved : goal.returns-clause-moved
returns-clause-moved g c honest =
    let old : View = g.D.Disk.view c.args.disk.now in
    let read = rw c.in-Some.is at (c.in_ok-at.ensures.exact honest) in
    let count = rw c.in-Some.is at c.in_ok-at.ensures.moves.count in
    let at = rw c.in-Some.is at c.in_ok-at.ensures.moves.at in
    let ran : taken (c.args.journal.now.next + 1) (run c.args.register.now c.in-Some.commands.items) ≡ Ok c.play_record.new.register =
    rw (at.0, c.deref.ensures.value) at c.in_ok-play_record.ensures.exact in
    rw (c.read_next.ensures.moves.form, count)
    (plays_one c.args.journal.now.form c.args.journal.now.count old.reads c.args.journal.now.next c.args.journal.now.end c.requires.readable.before
    c.args.register.now c.in-Some.commands.items c.read_next.new.self.next read c.play_record.new.register ran)

pub returns-in_err-at-clause-memory : goal.returns-in_err-at-clause-memory
returns-in_err-at-clause-memory g c e honest =
    let old : View = g.D.Disk.view c.args.disk.now in
    let p = err_from_is_err_and c.from_residual.result c.from_residual.ensures.1 in
    let is : fault_of c.in_err-at.field-0.0 ≡ NoMemory = cc in
    let there = c.in_err-at.ensures.memory (ap Err (is_no_memory c.in_err-at.field-0.0 is)) honest in
    let tried = c.in_err-at.ensures.tried (ap Err (is_no_memory c.in_err-at.field-0.0 is)) in
    rw c.in_err-at.ensures.same
    (short_of_record c.args.journal.now.form c.args.journal.now.count old.reads c.args.journal.now.next c.args.journal.now.end c.requires.readable.before
    c.args.register.now there.0.0 there.0.1 there.1 (omega (arith, tried)))

pub returns-in_err-play_record-clause-memory : goal.returns-in_err-play_record-clause-memory
returns-in_err-play_record-clause-memory g c e honest =
    let old : View = g.D.Disk.view c.args.disk.now in
    let p = err_from_is_err_and c.from_residual-in_err-play_record.result c.from_residual-in_err-play_record.ensures.1 in
    let is : c.in_err-play_record.field-0.0 ≡ NoMemory = cc in
    let read = rw c.in-Some.is at (c.in_ok-at.ensures.exact honest) in
    let count = rw c.in-Some.is at c.in_ok-at.ensures.moves.count in
    let needs = rw c.deref.ensures.value at (c.in_err-play_record.ensures.memory (ap Err is)) in
    let Again : Type 0 = HasReadAgain old.calls (g.D.Disk.view c.read_next.new.disk).calls c.args.journal.now.next c.read_next.new.self.next in
    rw (c.read_next.ensures.moves.form, count)
    (short_in_record c.args.journal.now.form c.args.journal.now.count old.reads c.args.journal.now.next c.args.journal.now.end c.requires.readable.before
    c.args.register.now c.in-Some.commands.items c.read_next.new.self.next read {X = Again} c.play_record.new.register needs)

pub returns-clause-calls : goal.returns-clause-calls
returns-clause-calls g c more = rw c.in-Some.is at c.in_ok-at.ensures.calls
