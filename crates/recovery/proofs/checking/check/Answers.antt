use Rattle.std.proofs.Common.{Ok, ap, ◌∙◌, inl, inr}
use Rattle.std.proofs.lemmas.Result.{err_from_is_err_and}
use Rattle.sector_disk.specs.Disk.{View}
use Rattle.sector_disk.specs.Reading.{before_reads}
use Rattle.sector_disk.proofs.Reading.{one_sync}
use Rattle.recovery.specs.Lives.{opens_not}
use Rattle.recovery.proofs.Synced.{after_sync, no_image_arises}
use Rattle.recovery.proofs.States.{if_err, if_ok}
use Rattle.recovery.proofs.checking.check.Goals as goal

pub returns-in_err-sync-clause-some_calls : goal.returns-in_err-sync-clause-some_calls
returns-in_err-sync-clause-some_calls g c =
    let given : View = g.D.Disk.view c.args.disk.now in
    let p = err_from_is_err_and c.from_residual.result c.from_residual.ensures.1 in
    rw p.1 (elim c.in_err-sync.ensures.called.tried [
      | inl none ↦ inr (p.2, none)
      | inr one ↦ inl (ap before_reads one ∙ one_sync given.calls)
    ])

pub returns-in_err-sync-clause-call : goal.returns-in_err-sync-clause-call
returns-in_err-sync-clause-call g c honest =
    let syncs = c.in_err-sync.ensures.effect honest in
    opens_not _ _ (record {
      honest = syncs.honest;
      left = after_sync (g.D.Disk.view c.args.disk.now) (g.D.Disk.view c.sync.new.self)
          (g.D.Disk.view c.sync.new.self) _ (g.met.D.Disk.sound c.args.disk.now honest) syncs;
    })

pub returns-clause-calls : goal.returns-clause-calls
returns-clause-calls g c =
    let given : View = g.D.Disk.view c.args.disk.now in
    if_ok c.check_sides.result (c.check_sides.ensures.reads.disk.only_reads ∙ ap before_reads c.in_ok-sync.ensures.called.made ∙ one_sync given.calls)

pub returns-clause-some_calls : goal.returns-clause-some_calls
returns-clause-some_calls g c =
    let given : View = g.D.Disk.view c.args.disk.now in
    if_err c.check_sides.result (λ fault. inl (c.check_sides.ensures.reads.disk.only_reads ∙ ap before_reads c.in_ok-sync.ensures.called.made ∙ one_sync given.calls))

pub returns-clause-call : goal.returns-clause-call
returns-clause-call g c honest =
    let given : View = g.D.Disk.view c.args.disk.now in
    let synced : View = g.D.Disk.view c.sync.new.self in
    let now : View = g.D.Disk.view c.check_sides.new.disk in
    let syncs = c.in_ok-sync.ensures.effect honest in
    let only_read = c.check_sides.ensures.reads.disk.only_read syncs.honest in
    opens_not _ _ (record { honest = only_read.honest; left = no_image_arises given synced now (Ok tt) (g.met.D.Disk.sound c.args.disk.now honest) syncs only_read })

pub returns-clause-memory : goal.returns-clause-memory
returns-clause-memory g c e honest =
    let syncs = c.in_ok-sync.ensures.effect honest in
    rw (syncs.reads, c.in_ok-sync.ensures.called.made) at (c.check_sides.ensures.memory e syncs.honest)

pub returns-clause-gave_up : goal.returns-clause-gave_up
returns-clause-gave_up g c at e honest =
    let syncs = c.in_ok-sync.ensures.effect honest in
    rw syncs.reads at (c.check_sides.ensures.gave_up at e syncs.honest)
