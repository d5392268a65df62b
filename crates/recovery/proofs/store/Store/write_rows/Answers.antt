use Rattle.std.proofs.Common.{◌≡◌, ℕ, Ok, refl, rules, subst}
use Rattle.checkpoint.specs.Progress.{written_after}
use Rattle.recovery.specs.declared.ongoing.Ongoing.{Ongoing}
use Rattle.recovery.specs.AfterCommit.{HasWrittenRows}
use Rattle.recovery.specs.UnderWay.{BelongsTo, IsOngoing}
use Rattle.recovery.proofs.Stored.{nothing_done}
use Rattle.recovery.proofs.UnderWay.{kept_next, leaves_next}
use Rattle.recovery.proofs.store.Store.write_rows.Goals as goal

pub returns-in_default-clause-on_disk : goal.returns-in_default-clause-on_disk
returns-in_default-clause-on_disk g c = record {
  any_moment = λ honest kept. nothing_done g.row.A.Denot c.args.self.now.layout c.args.self.now.side c.args.self.now.epoch
      c.args.self.now.journal c.args.self.now.register (g.D.Disk.view c.args.self.now.disk) kept.stored (g.met.D.Disk.sound c.args.self.now.disk honest);
  kept = search rules;
}

pub returns-in_default-clause-steps : goal.returns-in_default-clause-steps
returns-in_default-clause-steps g c = record {
  same = search rules;
  in_call = search rules;
  fault = search rules;
  sectors = search rules;
  later = search rules;
  honest = search rules;
}

pub returns-then-is_err-clause-on_disk : goal.returns-then-is_err-clause-on_disk
returns-then-is_err-clause-on_disk g c = record {
  any_moment = λ honest kept.
      let self = c.args.self.now in
      let it = c.in-Some.ongoing in
      let other : BelongsTo self.layout self.side self.epoch self.journal self.register.count it = rw c.in-Some.is at self.other in
      let under : IsOngoing g.row.A.Denot self.layout self.side self.epoch it self.register (g.D.Disk.view self.disk) = rw c.in-Some.is at kept.under_way in
      leaves_next g.row.A.Denot self.layout self.side self.epoch self.journal self.register it (g.D.Disk.view self.disk) kept.stored under
      self.register.count other c.registers.ensures.state (g.D.Disk.view c.write_next_rows-written.new.disk) c.write_next_rows-written.result
      (c.write_next_rows-written.ensures.rows.effect honest);
  kept = search rules;
}

pub returns-then-is_err-clause-steps : goal.returns-then-is_err-clause-steps
returns-then-is_err-clause-steps g c = record {
  same = search rules;
  in_call = search rules;
  fault = search rules;
  sectors = search rules;
  later = search rules;
  honest = search rules;
}

pub returns-clause-on_disk : goal.returns-clause-on_disk
returns-clause-on_disk g c = record {
  any_moment = λ honest kept.
      let self = c.args.self.now in
      let it = c.in-Some.ongoing in
      let other : BelongsTo self.layout self.side self.epoch self.journal self.register.count it = rw c.in-Some.is at self.other in
      let under : IsOngoing g.row.A.Denot self.layout self.side self.epoch it self.register (g.D.Disk.view self.disk) = rw c.in-Some.is at kept.under_way in
      leaves_next g.row.A.Denot self.layout self.side self.epoch self.journal self.register it (g.D.Disk.view self.disk) kept.stored under
      self.register.count other c.registers.ensures.state (g.D.Disk.view c.write_next_rows-written.new.disk) c.write_next_rows-written.result
      (c.write_next_rows-written.ensures.rows.effect honest);
  kept = λ honest kept.
      let self = c.args.self.now in
      let it = c.in-Some.ongoing in
      let other : BelongsTo self.layout self.side self.epoch self.journal self.register.count it = rw c.in-Some.is at self.other in
      let under : IsOngoing g.row.A.Denot self.layout self.side self.epoch it self.register (g.D.Disk.view self.disk) = rw c.in-Some.is at kept.under_way in
      let done : c.write_next_rows-written.result ≡ Ok tt = search rules in
      let written : c.write_next_rows-written.new.progress.written ≡ written_after it.progress.epoch it.register it.progress.written = rw done at c.write_next_rows-written.ensures.written in
      kept_next g.row.A.Denot self.layout self.side self.epoch self.journal self.register it (g.D.Disk.view self.disk) kept.stored under
      self.register.count other c.registers.ensures.state (g.D.Disk.view c.write_next_rows-written.new.disk) c.write_next_rows-written.result done
      (c.write_next_rows-written.ensures.rows.effect honest)
      (record { register = it.register; progress = c.write_next_rows-written.new.progress; journal = it.journal }) refl refl written;
}

pub returns-clause-steps : goal.returns-clause-steps
returns-clause-steps g c = record {
  same = search rules;
  in_call = search rules;
  fault = search rules;
  sectors = search rules;
  later = search rules;
  honest = search rules;
}

pub returns-clause-gone : goal.returns-clause-gone
returns-clause-gone g c =
    let self = c.args.self.now in
    let it = c.in-Some.ongoing in
    let other : BelongsTo self.layout self.side self.epoch self.journal self.register.count it = rw c.in-Some.is at self.other in
    let done : c.write_next_rows-written.result ≡ Ok tt = search rules in
    let written : c.write_next_rows-written.new.progress.written ≡ written_after it.progress.epoch it.register it.progress.written = rw done at c.write_next_rows-written.ensures.written in
    let now : Ongoing g.row.A.Denot = record { register = it.register; progress = c.write_next_rows-written.new.progress; journal = it.journal } in
    let gone : HasWrittenRows self.epoch it now =
    record {
      register = refl;
      written = subst (λ (e : ℕ). now.progress.written ≡ written_after e it.register it.progress.written) other.epoch_is
          written;
      journal = refl;
    } in
    rw c.in-Some.is (now, refl, gone)

pub write_next_rows-written-requires-clause-fits : goal.write_next_rows-written-requires-clause-fits
write_next_rows-written-requires-clause-fits g c =
    let self = c.args.self.now in
    let other : BelongsTo self.layout self.side self.epoch self.journal self.register.count c.in-Some.ongoing = rw c.in-Some.is at self.other in
    record { room = self.room; limits = other.limits }
