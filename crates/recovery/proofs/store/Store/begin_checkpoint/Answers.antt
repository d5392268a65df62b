use Rattle.std.proofs.Common.{◌≡◌, Ok, Some, rules, true}
use Rattle.checkpoint.specs.Layout.{half_at, other_of}
use Rattle.checkpoint.specs.OnSide.{IsShut}
use Rattle.recovery.specs.declared.ongoing.Ongoing.{Ongoing}
use Rattle.recovery.specs.UnderWay.{IsKept, MayBegin}
use Rattle.recovery.proofs.Stored.{nothing_done}
use Rattle.recovery.proofs.UnderWay.{begins, in_begin, stored_begun}
use Rattle.recovery.proofs.store.Store.begin_checkpoint.Goals as goal

pub returns-then-not-may_begin-clause-on_disk : goal.returns-then-not-may_begin-clause-on_disk
returns-then-not-may_begin-clause-on_disk g c = record {
  any_moment = λ honest kept.
      nothing_done g.row.A.Denot c.args.self.now.layout c.args.self.now.side c.args.self.now.epoch c.args.self.now.journal c.args.self.now.register
      (g.D.Disk.view c.args.self.now.disk) kept.stored (g.met.D.Disk.sound c.args.self.now.disk honest);
  kept = search rules;
}

pub returns-then-not-may_begin-clause-calls : goal.returns-then-not-may_begin-clause-calls
returns-then-not-may_begin-clause-calls g c = record {
  calls = search rules;
  some_calls = search rules;
  calls_on_any_disk = search rules;
  some_calls_on_any_disk = search rules;
}

pub returns-then-not-may_begin-clause-steps : goal.returns-then-not-may_begin-clause-steps
returns-then-not-may_begin-clause-steps g c = record {
  same = search rules;
  in_call = search rules;
  fault = search rules;
  sectors = search rules;
  later = search rules;
  honest = search rules;
}

pub returns-in_default-clause-on_disk : goal.returns-in_default-clause-on_disk
returns-in_default-clause-on_disk g c = record {
  any_moment = λ honest kept. nothing_done g.row.A.Denot c.args.self.now.layout c.args.self.now.side c.args.self.now.epoch
      c.args.self.now.journal c.args.self.now.register (g.D.Disk.view c.args.self.now.disk) kept.stored (g.met.D.Disk.sound c.args.self.now.disk honest);
  kept = search rules;
}

pub returns-in_default-clause-calls : goal.returns-in_default-clause-calls
returns-in_default-clause-calls g c = record {
  calls = search rules;
  some_calls = search rules;
  calls_on_any_disk = search rules;
  some_calls_on_any_disk = search rules;
}

pub returns-in_default-clause-steps : goal.returns-in_default-clause-steps
returns-in_default-clause-steps g c = record {
  same = search rules;
  in_call = search rules;
  fault = search rules;
  sectors = search rules;
  later = search rules;
  honest = search rules;
}

pub returns-in_default-try_copy-clause-on_disk : goal.returns-in_default-try_copy-clause-on_disk
returns-in_default-try_copy-clause-on_disk g c = record {
  any_moment = λ honest kept.
      nothing_done g.row.A.Denot c.args.self.now.layout c.args.self.now.side c.args.self.now.epoch c.args.self.now.journal c.args.self.now.register
      (g.D.Disk.view c.args.self.now.disk) kept.stored (g.met.D.Disk.sound c.args.self.now.disk honest);
  kept = search rules;
}

pub returns-in_default-try_copy-clause-calls : goal.returns-in_default-try_copy-clause-calls
returns-in_default-try_copy-clause-calls g c = record {
  calls = search rules;
  some_calls = search rules;
  calls_on_any_disk = search rules;
  some_calls_on_any_disk = search rules;
}

pub returns-in_default-try_copy-clause-steps : goal.returns-in_default-try_copy-clause-steps
returns-in_default-try_copy-clause-steps g c = record {
  same = search rules;
  in_call = search rules;
  fault = search rules;
  sectors = search rules;
  later = search rules;
  honest = search rules;
}

pub returns-then-is_err-clause-on_disk : goal.returns-then-is_err-clause-on_disk
returns-then-is_err-clause-on_disk g c = record {
  any_moment = λ honest kept.
      let self = c.args.self.now in
      let stored = kept.stored in
      in_begin g.row.A.Denot self.layout self.side self.epoch self.journal self.register (g.D.Disk.view self.disk) (g.D.Disk.view c.begin.new.disk)
      stored (c.begin.ensures.any_moment self.journal.form (self.epoch, stored.base) (stored.entries, self.journal.next) honest stored.each);
  kept = search rules;
}

pub returns-then-is_err-clause-calls : goal.returns-then-is_err-clause-calls
returns-then-is_err-clause-calls g c =
    let may : MayBegin c.args.self.now.layout c.args.self.now.epoch c.args.self.now.journal = search rules in
    let some = c.begin.ensures.made.some_calls_on_any_disk in
    record {
      calls = tt;
      some_calls = λ honest. (true, λ begins. may, c.begin.ensures.made.some_calls honest);
      calls_on_any_disk = tt;
      some_calls_on_any_disk = (true, some.0, λ begins. may, some.1);
    }

pub returns-then-is_err-clause-steps : goal.returns-then-is_err-clause-steps
returns-then-is_err-clause-steps g c = record {
  same = search rules;
  in_call = search rules;
  fault = search rules;
  sectors = search rules;
  later = search rules;
  honest = search rules;
}

pub returns-clause-on_disk : goal.returns-clause-on_disk
returns-clause-on_disk g c = record {
  any_moment = λ honest kept.
      let self = c.args.self.now in
      let stored = kept.stored in
      in_begin g.row.A.Denot self.layout self.side self.epoch self.journal self.register (g.D.Disk.view self.disk) (g.D.Disk.view c.begin.new.disk)
      stored (c.begin.ensures.any_moment self.journal.form (self.epoch, stored.base) (stored.entries, self.journal.next) honest stored.each);
  kept =
      let self = c.args.self.now in
      let it : Ongoing g.row.A.Denot = record { register = c.in-Ok-try_copy.register; progress = c.begun-progress.result; journal = c.in-Ok.journal } in
      let here : c.replace.new.self ≡ Some it = search rules in
      let done : c.begin.result ≡ Ok tt = search rules in
      let register : it.register ≡ self.register = search rules in
      let next : it.journal.next ≡ half_at self.layout (other_of self.side) = search rules in
      let counts : it.journal.count ≡ self.register.count = search rules in
      let old = g.D.Disk.view self.disk in
      let new = g.D.Disk.view c.begin.new.disk in
      λ honest kept.
      let stored = kept.stored in
      let shut : IsShut self.layout (other_of self.side) new = (rw done at c.begin.ensures.shut) honest in
      let leaves = c.begin.ensures.any_moment self.journal.form (self.epoch, stored.base) (stored.entries, self.journal.next) honest stored.each in
      let is : IsKept g.row.A.Denot self.layout self.side self.epoch self.journal (Some it) self.register new = record {
        stored = stored_begun g.row.A.Denot self.layout self.side self.epoch self.journal self.register old new stored leaves (g.met.D.Disk.sound c.begin.new.disk (c.begin.ensures.honest honest));
        under_way = begins g.row.A.Denot self.layout self.side self.epoch self.journal self.register it new register c.begun-progress.ensures.none next counts shut;
      } in
      rw here is;
}

pub returns-clause-calls : goal.returns-clause-calls
returns-clause-calls g c = record {
  calls = λ honest.
      let self = c.args.self.now in
      let it : Ongoing g.row.A.Denot = record { register = c.in-Ok-try_copy.register; progress = c.begun-progress.result; journal = c.in-Ok.journal } in
      let here : c.replace.new.self ≡ Some it = search rules in
      let done : c.begin.result ≡ Ok tt = search rules in
      rw here ((rw done at c.begin.ensures.made.calls) honest);
  some_calls = λ honest.
      let may : MayBegin c.args.self.now.layout c.args.self.now.epoch c.args.self.now.journal = search rules in
      (true, λ begins. may, c.begin.ensures.made.some_calls honest);
  calls_on_any_disk =
      let self = c.args.self.now in
      let it : Ongoing g.row.A.Denot = record { register = c.in-Ok-try_copy.register; progress = c.begun-progress.result; journal = c.in-Ok.journal } in
      let here : c.replace.new.self ≡ Some it = search rules in
      let done : c.begin.result ≡ Ok tt = search rules in
      let all = rw done at c.begin.ensures.made.calls_on_any_disk in
      rw here (all.0, all.1);
  some_calls_on_any_disk =
      let may : MayBegin c.args.self.now.layout c.args.self.now.epoch c.args.self.now.journal = search rules in
      let some = c.begin.ensures.made.some_calls_on_any_disk in
      (true, some.0, λ begins. may, some.1);
}

pub returns-clause-steps : goal.returns-clause-steps
returns-clause-steps g c = record {
  same = search rules;
  in_call = search rules;
  fault = search rules;
  sectors = search rules;
  later = search rules;
  honest = search rules;
}
