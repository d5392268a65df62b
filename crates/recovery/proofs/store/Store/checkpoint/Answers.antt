use Rattle.std.proofs.Common.{◌≡◌, ◌+◌, [], true, false, refl, rules}
use Rattle.std.proofs.lemmas.Bool.{true≢false}
use mathlib.Core.Logic.{∥∥₁_map}
use Rattle.checkpoint.specs.Layout.{other_of}
use Rattle.sector_disk.proofs.Made.{made_none}
use Rattle.recovery.proofs.Stored.{in_checkpoint, stored_fresh, nothing_done}
use Rattle.recovery.specs.Stored.{fresh_place}
use Rattle.recovery.specs.Lives.{fails, view_of}
use Rattle.recovery.proofs.InCall.{in_call}
use Rattle.recovery.proofs.Events.{none_accepted, nothing_accepted}
use Rattle.recovery.proofs.store.Store.checkpoint.Goals as goal

pub returns-then-self-clause-on_disk : goal.returns-then-self-clause-on_disk
returns-then-self-clause-on_disk g c = record {
  any_moment = λ honest stored.
      nothing_done g.row.A.Denot c.args.self.now.layout c.args.self.now.side c.args.self.now.epoch c.args.self.now.journal c.args.self.now.register
      (g.D.Disk.view c.args.self.now.disk) stored.stored (g.met.D.Disk.sound c.args.self.now.disk honest);
  kept = search rules;
}

pub returns-then-self-clause-keeps : goal.returns-then-self-clause-keeps
returns-then-self-clause-keeps g c = record {
  fault = search rules;
  sectors = search rules;
  later = search rules;
  honest = search rules;
}

pub returns-then-self-clause-stays : goal.returns-then-self-clause-stays
returns-then-self-clause-stays g c = record {
  same = search rules;
  unmoved = search rules;
}

pub returns-then-self-clause-calls : goal.returns-then-self-clause-calls
returns-then-self-clause-calls g c = record {
  calls = search rules;
  some_calls = λ honest. made_none (g.D.Disk.view c.args.self.now.disk) _;
  calls_on_any_disk = search rules;
  some_calls_on_any_disk = (false, made_none (g.D.Disk.view c.args.self.now.disk) _);
}

pub returns-then-self-clause-fails : goal.returns-then-self-clause-fails
returns-then-self-clause-fails g c = record {
  only_broken = search rules;
  epochs = search rules;
  fault = search rules;
  kinds = search rules;
}

pub returns-in-Ok-clause-on_disk : goal.returns-in-Ok-clause-on_disk
returns-in-Ok-clause-on_disk g c = record {
  any_moment = λ honest stored.
      in_checkpoint g.row.A.Denot c.args.self.now.layout c.args.self.now.side c.args.self.now.epoch c.args.self.now.journal c.args.self.now.register
      (g.D.Disk.view c.args.self.now.disk) stored.stored (g.D.Disk.view c.write_side.new.disk)
      (c.write_side.ensures.any_moment c.args.self.now.journal.form (c.args.self.now.epoch, stored.stored.base) (stored.stored.entries, c.args.self.now.journal.next) refl honest stored.stored.each);
  kept = λ honest stored.
      let side : c.other-self.result ≡ other_of c.args.self.now.side = c.other-self.ensures in
      let journal : c.restart.new.self ≡ fresh_place c.args.self.now.layout (other_of c.args.self.now.side) c.args.self.now.register.count = search rules in
      record {
        stored = rw (journal, side)
            (stored_fresh g.row.A.Denot c.args.self.now.layout (other_of c.args.self.now.side) (c.args.self.now.epoch + 1) c.args.self.now.register
            (g.D.Disk.view c.write_side.new.disk)
            (c.in-Ok.ensures.switched c.args.self.now.journal.form (c.args.self.now.epoch, stored.stored.base) (stored.stored.entries, c.args.self.now.journal.next) refl honest stored.stored.each));
        under_way = tt;
      };
}

pub returns-in-Ok-clause-keeps : goal.returns-in-Ok-clause-keeps
returns-in-Ok-clause-keeps g c = record {
  fault = search rules;
  sectors = search rules;
  later = search rules;
  honest = search rules;
}

pub returns-in-Ok-clause-stays : goal.returns-in-Ok-clause-stays
returns-in-Ok-clause-stays g c = record {
  same = search rules;
  unmoved = search rules;
}

pub returns-in-Ok-clause-calls : goal.returns-in-Ok-clause-calls
returns-in-Ok-clause-calls g c = record {
  calls = search rules;
  some_calls = search rules;
  calls_on_any_disk = search rules;
  some_calls_on_any_disk = search rules;
}

pub returns-in-Ok-clause-fails : goal.returns-in-Ok-clause-fails
returns-in-Ok-clause-fails g c = record {
  only_broken = search rules;
  epochs = search rules;
  fault = search rules;
  kinds = search rules;
}

pub returns-in-Err-EpochsUsedUp-clause-on_disk : goal.returns-in-Err-EpochsUsedUp-clause-on_disk
returns-in-Err-EpochsUsedUp-clause-on_disk g c = record {
  any_moment = λ honest stored.
      in_checkpoint g.row.A.Denot c.args.self.now.layout c.args.self.now.side c.args.self.now.epoch c.args.self.now.journal c.args.self.now.register
      (g.D.Disk.view c.args.self.now.disk) stored.stored (g.D.Disk.view c.write_side.new.disk)
      (c.write_side.ensures.any_moment c.args.self.now.journal.form (c.args.self.now.epoch, stored.stored.base) (stored.stored.entries, c.args.self.now.journal.next) refl honest stored.stored.each);
  kept = search rules;
}

pub returns-in-Err-EpochsUsedUp-clause-keeps : goal.returns-in-Err-EpochsUsedUp-clause-keeps
returns-in-Err-EpochsUsedUp-clause-keeps g c = record {
  fault = search rules;
  sectors = search rules;
  later = search rules;
  honest = search rules;
}

pub returns-in-Err-EpochsUsedUp-clause-stays : goal.returns-in-Err-EpochsUsedUp-clause-stays
returns-in-Err-EpochsUsedUp-clause-stays g c = record {
  same = search rules;
  unmoved = search rules;
}

pub returns-in-Err-EpochsUsedUp-clause-calls : goal.returns-in-Err-EpochsUsedUp-clause-calls
returns-in-Err-EpochsUsedUp-clause-calls g c = record {
  calls = search rules;
  some_calls = search rules;
  calls_on_any_disk = search rules;
  some_calls_on_any_disk = search rules;
}

pub returns-in-Err-EpochsUsedUp-clause-fails : goal.returns-in-Err-EpochsUsedUp-clause-fails
returns-in-Err-EpochsUsedUp-clause-fails g c = record {
  only_broken = search rules;
  epochs = search rules;
  fault = search rules;
  kinds = search rules;
}

pub returns-in-Err-DiskFault-clause-on_disk : goal.returns-in-Err-DiskFault-clause-on_disk
returns-in-Err-DiskFault-clause-on_disk g c = record {
  any_moment = λ honest stored.
      in_checkpoint g.row.A.Denot c.args.self.now.layout c.args.self.now.side c.args.self.now.epoch c.args.self.now.journal c.args.self.now.register
      (g.D.Disk.view c.args.self.now.disk) stored.stored (g.D.Disk.view c.write_side.new.disk)
      (c.write_side.ensures.any_moment c.args.self.now.journal.form (c.args.self.now.epoch, stored.stored.base) (stored.stored.entries, c.args.self.now.journal.next) refl honest stored.stored.each);
  kept = search rules;
}

pub returns-in-Err-DiskFault-clause-keeps : goal.returns-in-Err-DiskFault-clause-keeps
returns-in-Err-DiskFault-clause-keeps g c = record {
  fault = search rules;
  sectors = search rules;
  later = search rules;
  honest = search rules;
}

pub returns-in-Err-DiskFault-clause-stays : goal.returns-in-Err-DiskFault-clause-stays
returns-in-Err-DiskFault-clause-stays g c = record {
  same = search rules;
  unmoved = search rules;
}

pub returns-in-Err-DiskFault-clause-calls : goal.returns-in-Err-DiskFault-clause-calls
returns-in-Err-DiskFault-clause-calls g c = record {
  calls = search rules;
  some_calls = search rules;
  calls_on_any_disk = search rules;
  some_calls_on_any_disk = search rules;
}

pub returns-in-Err-DiskFault-clause-fails : goal.returns-in-Err-DiskFault-clause-fails
returns-in-Err-DiskFault-clause-fails g c = record {
  only_broken = search rules;
  epochs = search rules;
  fault = search rules;
  kinds = search rules;
}

pub returns-in-Ok-clause-sides : goal.returns-in-Ok-clause-sides
returns-in-Ok-clause-sides g c = (record { side = search rules; epoch = search rules; journal = search rules }, search rules)

pub returns-in-Ok-clause-moved : goal.returns-in-Ok-clause-moved
returns-in-Ok-clause-moved g c = λ honest stored. c.in-Ok.ensures.switched c.args.self.now.journal.form (c.args.self.now.epoch, stored.stored.base)
    (stored.stored.entries, c.args.self.now.journal.next) refl honest stored.stored.each

pub invariant_of-self-clause-stored : goal.invariant_of-self-clause-stored
invariant_of-self-clause-stored g c = ∥∥₁_map c.args.self.now.stored (λ is whole found.
    let was = is c.if-self.false found in
    let stored = was.1.stored in
    let side : c.other-self.result ≡ other_of c.args.self.now.side = c.other-self.ensures in
    let journal : c.restart.new.self ≡ fresh_place c.args.self.now.layout (other_of c.args.self.now.side) c.args.self.now.register.count = search rules in (
      c.write_side.ensures.keeps.honest was.0,
      record {
        stored = rw (journal, side)
            (stored_fresh g.row.A.Denot c.args.self.now.layout (other_of c.args.self.now.side) (c.args.self.now.epoch + 1) c.args.self.now.register
            (g.D.Disk.view c.write_side.new.disk)
            (c.in-Ok.ensures.switched c.args.self.now.journal.form (c.args.self.now.epoch, stored.base) (stored.entries, c.args.self.now.journal.next) refl was.0 stored.each));
        under_way = tt;
      },
    ))

pub invariant_of-self-in-Err-EpochsUsedUp-clause-stored : goal.invariant_of-self-in-Err-EpochsUsedUp-clause-stored
invariant_of-self-in-Err-EpochsUsedUp-clause-stored g c = ∥∥₁_map c.args.self.now.stored (λ is whole found.
    let was = is c.if-self.false found in
    let same : c.write_side.new.disk ≡ c.args.self.now.disk = search rules in
    (c.write_side.ensures.keeps.honest was.0, record { stored = rw same was.1.stored; under_way = tt }))

pub invariant_of-self-in-Err-DiskFault-clause-stored : goal.invariant_of-self-in-Err-DiskFault-clause-stored
invariant_of-self-in-Err-DiskFault-clause-stored g c = in_call true refl

pub returns-then-self-clause-call : goal.returns-then-self-clause-call
returns-then-self-clause-call g c = λ honest. fails _ _ [] (nothing_accepted g.row.A.Denot g.D.Disk.view (view_of c.args.self.now) honest (g.met.D.Disk.sound c.args.self.now.disk honest))

pub returns-in-Ok-clause-call : goal.returns-in-Ok-clause-call
returns-in-Ok-clause-call g c = λ honest.
    fails _ _ [] (none_accepted g.row.A.Denot g.D.Disk.view (view_of c.args.self.now) _ (c.write_side.ensures.keeps.honest honest) refl
    ((returns-in-Ok-clause-on_disk g c).any_moment honest) (λ whole. (returns-in-Ok-clause-on_disk g c).kept honest) c.if-self.false)

pub returns-in-Err-EpochsUsedUp-clause-call : goal.returns-in-Err-EpochsUsedUp-clause-call
returns-in-Err-EpochsUsedUp-clause-call g c = λ honest.
    let same : c.write_side.new.disk ≡ c.args.self.now.disk = search rules in
    fails _ _ [] (none_accepted g.row.A.Denot g.D.Disk.view (view_of c.args.self.now) _ (c.write_side.ensures.keeps.honest honest) refl
    ((returns-in-Err-EpochsUsedUp-clause-on_disk g c).any_moment honest) (λ whole stored. record { stored = rw same stored.stored; under_way = tt })
    c.if-self.false)

pub returns-in-Err-DiskFault-clause-call : goal.returns-in-Err-DiskFault-clause-call
returns-in-Err-DiskFault-clause-call g c = λ honest.
    fails _ _ [] (none_accepted g.row.A.Denot g.D.Disk.view (view_of c.args.self.now) _ (c.write_side.ensures.keeps.honest honest) refl
    ((returns-in-Err-DiskFault-clause-on_disk g c).any_moment honest) (λ whole stored. absurd (true≢false whole)) c.if-self.false)
