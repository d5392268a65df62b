use Rattle.std.proofs.Common.{◌∷◌, [], Err, ap}
use Rattle.desk.proofs.ShortReplies.{replied_short}
use Rattle.recovery.specs.Serving.{stored_of}
use Rattle.recovery.specs.Lives.{view_of}
use Rattle.recovery.specs.declared.outcome.Outcome.TheVariants.{Replied}
use Rattle.recovery.proofs.Events.{is_answered, one_is_answered, one_unanswered}
use Rattle.recovery.proofs.OneCommand.{by_fault, by_reply}
use Rattle.recovery.proofs.serving.StoreDesk.apply.Goals as goal

pub returns-in-Ok-clause-on_disk : goal.returns-in-Ok-clause-on_disk
returns-in-Ok-clause-on_disk g c = c.commit_one.ensures.on_disk

pub returns-in-Err-clause-on_disk : goal.returns-in-Err-clause-on_disk
returns-in-Err-clause-on_disk g c = c.commit_one.ensures.on_disk

pub returns-in-Ok-clause-calls : goal.returns-in-Ok-clause-calls
returns-in-Ok-clause-calls g c =
    let e = c.commit_one.ensures.calls in
    record {
      calls = c.in-Ok.ensures.calls.calls;
      some_calls = e.some_calls;
      calls_on_any_disk = c.in-Ok.ensures.calls.calls_on_any_disk;
      some_calls_on_any_disk = e.some_calls_on_any_disk;
    }

pub returns-in-Err-clause-calls : goal.returns-in-Err-clause-calls
returns-in-Err-clause-calls g c =
    let e = c.commit_one.ensures.calls in
    record { calls = tt; some_calls = e.some_calls; calls_on_any_disk = tt; some_calls_on_any_disk = e.some_calls_on_any_disk }

pub returns-in-Ok-clause-applies : goal.returns-in-Ok-clause-applies
returns-in-Ok-clause-applies g c =
    let old = c.args.self.now in let new = c.commit_one.new.self in
    by_reply (g.D.Disk.view old.disk).failures (g.D.Disk.view new.disk).failures old.epoch new.epoch old.broken new.broken old.before.value
    new.before.value old.register new.register c.args.command.now c.in-Ok.reply
    c.in-Ok.ensures.refuses.sound.0 c.in-Ok.ensures.refuses.sound.1 c.in-Ok.ensures.replied

pub returns-in-Ok-clause-short : goal.returns-in-Ok-clause-short
returns-in-Ok-clause-short g c = replied_short g.row.A.Denot c.args.self.now.register c.args.command.now c.commit_one.new.self.register c.in-Ok.reply c.in-Ok.ensures.replied c.registers.ensures.ranges

pub returns-in-Err-clause-applies : goal.returns-in-Err-clause-applies
returns-in-Err-clause-applies g c =
    let old = c.args.self.now in let new = c.commit_one.new.self in
    by_fault (g.D.Disk.view old.disk).failures (g.D.Disk.view new.disk).failures old.epoch new.epoch old.broken new.broken old.before.value
    new.before.value old.register new.register c.args.command.now c.in-Err.fault
    c.outage_of.result c.in-Err.ensures.refuses.kinds c.outage_of.ensures
    (λ is. (
      (c.in-Err.ensures.refuses.only_broken (ap Err is)).0,
      ap (λ self. stored_of (g.D.Disk.view self.disk).failures self.epoch self.broken self.before.value self.register)
          (c.in-Err.ensures.refuses.only_broken (ap Err is)).1,
    ))
    (λ is. c.in-Err.ensures.refuses.memory (ap Err is))
    (λ is. let e = c.in-Err.ensures.refuses.epochs (ap Err is) in (e.0, e.1, e.2, e.3, ap (λ disk. (g.D.Disk.view disk).failures) e.4, e.5))
    (λ is. c.in-Err.ensures.refuses.fault (ap Err is))

pub returns-in-Ok-clause-answered : goal.returns-in-Ok-clause-answered
returns-in-Ok-clause-answered g c = λ honest.
    let old = c.args.self.now in let new = c.commit_one.new.self in
    is_answered g.row.B.Denot g.D.Disk.view (view_of old) (view_of new) (c.args.command.now ∷ []) (c.commit_one.ensures.honest honest)
    (c.commit_one.ensures.on_disk.any_moment honest) (λ now. c.commit_one.ensures.on_disk.kept now honest) c.in-Ok.ensures.refuses.sound.0
    (Replied c.in-Ok.reply ∷ []) (one_is_answered old.register new.register c.args.command.now c.in-Ok.reply c.in-Ok.ensures.replied) c.in-Ok.ensures.refuses.sound.1

pub returns-in-Err-clause-unanswered : goal.returns-in-Err-clause-unanswered
returns-in-Err-clause-unanswered g c = λ honest.
    let old = c.args.self.now in let new = c.commit_one.new.self in
    one_unanswered g.row.B.Denot g.D.Disk.view (view_of old) (view_of new) c.args.command.now (c.commit_one.ensures.honest honest)
    (c.commit_one.ensures.on_disk.any_moment honest) (λ now. c.commit_one.ensures.on_disk.kept now honest) (λ is. ap view_of (c.commit_one.ensures.refuses.broken is).1)
    c.commit_one.ensures.on_disk.register
