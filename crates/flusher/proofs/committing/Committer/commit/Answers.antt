use Rattle.std.proofs.Common.{ap, subst}
use Rattle.centre_core.specs.StateRanges.{StateInRange}
use Rattle.recovery.specs.Lives.{view_of}
use Rattle.recovery.specs.Outcomes.{asked}
use Rattle.flusher.proofs.Tried.{kept_of, lacks_by, length-asked, not_empty, on_ok, tried_by, tried_failed, tried_kept}
use Rattle.flusher.proofs.Short.{all_asked, commit_short}
use Rattle.flusher.proofs.committing.Committer.commit.Goals as goal

tried : goal.returns-clause-tried
tried g c =
    let was = view_of c.args.self.now.store in
    let now = view_of c.commit-done.new.self in
    let e = c.commit-done.ensures in
    tried_by g.D.Disk.view was now (asked c.args.commands.now) c.commit-done.result c.requires.sound
    (not_empty c.args.commands.now (asked c.args.commands.now) (length-asked c.args.commands.now) c.requires.some)
    e.answers.outcomes e.answers.sound (λ h. (e.refuses.only_broken h).0) (λ h. ap view_of (e.refuses.memory h))
    (λ h. let lacks = e.refuses.only_unready h in (ap view_of lacks.2, lacks_by was.journal c.args.commands.now lacks.1))
    (λ h. (e.refuses.fault h).0) e.answers.register e.refuses.kinds
    (kept_of g.D.Disk.view was now (asked c.args.commands.now) c.commit-done.result e.calls.calls_on_any_disk)

pub returns-clause-tried : goal.returns-clause-tried
returns-clause-tried = tried

pub returns-clause-store : goal.returns-clause-store
returns-clause-store g c =
    let view = g.D.Disk.view in
    let was = view_of c.args.self.now.store in
    let now = view_of c.commit-done.new.self in
    let cmds = asked c.args.commands.now in
    let e = c.commit-done.ensures in
    let done = tried g c in
    record {
      images = λ honest stored. record {
        honest = e.keeps.honest honest;
        any_moment = e.on_disk.any_moment honest stored;
        kept = tried_kept view was now cmds c.commit-done.result done (on_ok _ _ _ c.commit-done.result honest stored e.on_disk.kept) stored;
      };
      fails = record { later = e.keeps.later; failed = tried_failed view was now cmds c.commit-done.result c.requires.sound done e.keeps.fault };
    }

pub returns-clause-short : goal.returns-clause-short
returns-clause-short g c =
    commit_short c.args.self.now.store.register c.commit-done.new.self.register (asked c.args.commands.now) c.commit-done.result
    (subst StateInRange c.register_of.ensures c.registers.ensures.ranges) (all_asked c.args.commands.now c.facts_of_ranges.ensures)
    c.commit-done.ensures.answers.outcomes
