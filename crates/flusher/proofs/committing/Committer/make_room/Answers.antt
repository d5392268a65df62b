use Rattle.recovery.specs.Lives.{view_of}
use Rattle.recovery.proofs.Stored.{only_before}
use Rattle.flusher.proofs.Tried.{made_by, made_failed, made_kept, on_ok}
use Rattle.flusher.proofs.committing.Committer.make_room.Goals as goal

made : goal.returns-clause-made
made g c =
    let e = c.checkpoint.ensures in
    made_by g.D.Disk.view (view_of c.args.self.now.store) (view_of c.checkpoint.new.self) c.checkpoint.result c.requires.sound e.stays.same
    e.sides e.stays.unmoved e.sound (λ h. (e.fails.only_broken h).0) e.fails.epochs (λ h. (e.fails.fault h).0) e.fails.kinds

pub returns-clause-made : goal.returns-clause-made
returns-clause-made = made

pub returns-clause-store : goal.returns-clause-store
returns-clause-store g c =
    let view = g.D.Disk.view in
    let was = view_of c.args.self.now.store in
    let now = view_of c.checkpoint.new.self in
    let e = c.checkpoint.ensures in
    let done = made g c in
    record {
      images = λ honest stored. record {
        honest = e.keeps.honest honest;
        any_moment = only_before _ _ _ _ _ (e.on_disk.any_moment honest stored);
        kept = made_kept view was now c.checkpoint.result done (on_ok _ _ _ c.checkpoint.result honest stored e.on_disk.kept) stored;
      };
      fails = record { later = e.keeps.later; failed = made_failed view was now c.checkpoint.result c.requires.sound done e.keeps.fault };
    }
