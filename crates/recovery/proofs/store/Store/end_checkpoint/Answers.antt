use Rattle.std.proofs.Common.{◌≡◌, ◌+◌, None, Ok, Option, Some, rules, subst}
use Rattle.checkpoint.specs.Layout.{other_of}
use Rattle.recovery.specs.declared.ongoing.Ongoing.{Ongoing}
use Rattle.recovery.specs.Stored.{IsStored}
use Rattle.recovery.specs.UnderWay.{IsKept}
use Rattle.recovery.proofs.Stored.{nothing_done}
use Rattle.recovery.proofs.store.Store.end_checkpoint.Goals as goal

pub returns-in_default-clause-on_disk : goal.returns-in_default-clause-on_disk
returns-in_default-clause-on_disk g c = record {
  any_moment = λ honest kept. nothing_done g.row.A.Denot c.args.self.now.layout c.args.self.now.side c.args.self.now.epoch
      c.args.self.now.journal c.args.self.now.register (g.D.Disk.view c.args.self.now.disk) kept.stored (g.met.D.Disk.sound c.args.self.now.disk honest);
  kept = search rules;
}

pub returns-in_default-clause-steps : goal.returns-in_default-clause-steps
returns-in_default-clause-steps g c = record {
  same = search rules;
  in_call = search rules;
  fault = search rules;
  sectors = search rules;
  later = search rules;
  honest = search rules;
}

pub returns-then-is_err-clause-on_disk : goal.returns-then-is_err-clause-on_disk
returns-then-is_err-clause-on_disk g c = record {
  any_moment = λ honest kept.
      let self = c.args.self.now in
      let here : self.ongoing ≡ Some c.in-Some.ongoing = search rules in
      c.end_side-ended.ensures.any_moment self.journal self.register honest
      (subst (λ (o : Option (Ongoing g.row.A.Denot)). IsKept g.row.A.Denot self.layout self.side self.epoch self.journal o self.register
      (g.D.Disk.view self.disk)) here kept);
  kept = search rules;
}

pub returns-then-is_err-clause-steps : goal.returns-then-is_err-clause-steps
returns-then-is_err-clause-steps g c = record {
  same = search rules;
  in_call = search rules;
  fault = search rules;
  sectors = search rules;
  later = search rules;
  honest = search rules;
}

pub returns-clause-on_disk : goal.returns-clause-on_disk
returns-clause-on_disk g c = record {
  any_moment = λ honest kept.
      let self = c.args.self.now in
      let here : self.ongoing ≡ Some c.in-Some.ongoing = search rules in
      c.end_side-ended.ensures.any_moment self.journal self.register honest
      (subst (λ (o : Option (Ongoing g.row.A.Denot)). IsKept g.row.A.Denot self.layout self.side self.epoch self.journal o self.register
      (g.D.Disk.view self.disk)) here kept);
  kept = λ honest kept.
      let self = c.args.self.now in
      let it = c.in-Some.ongoing in
      let here : self.ongoing ≡ Some it = search rules in
      let side : c.other-self.result ≡ other_of self.side = search rules in
      let none : c.take.new.self ≡ None = search rules in
      let done : c.end_side-ended.result ≡ Ok tt = search rules in
      let stored : IsStored g.row.A.Denot self.layout (other_of self.side) (self.epoch + 1) it.journal self.register (g.D.Disk.view c.end_side-ended.new.disk) =
      (rw done at c.end_side-ended.ensures.ended) self.journal self.register honest
      (subst (λ (o : Option (Ongoing g.row.A.Denot)). IsKept g.row.A.Denot self.layout self.side self.epoch self.journal o self.register
      (g.D.Disk.view self.disk)) here kept) in
      rw (side, none) (record { stored = stored; under_way = tt });
}

pub returns-clause-steps : goal.returns-clause-steps
returns-clause-steps g c = record {
  same = search rules;
  in_call = search rules;
  fault = search rules;
  sectors = search rules;
  later = search rules;
  honest = search rules;
}
