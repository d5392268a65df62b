use Rattle.std.proofs.Common.{true, ap, sym, ◌∙◌, subst}
use Rattle.std.specs.Prelude.{Err}
use Rattle.std.proofs.lemmas.Result.{err_from_is_err_and}
use Rattle.std.specs.declared.alloc.Global.{Global}
use Rattle.checkpoint.specs.Layout.{other_of}
use Rattle.recovery.specs.Lives.{StoreView, view_of}
use Rattle.recovery.specs.Outcomes.{asked}
use Rattle.flusher.specs.declared.committing.Attempts.{Attempts}
use Rattle.flusher.specs.Attempts.{HasAttempted}
use Rattle.flusher.specs.Batches.{HasMadeRoom, IsAnswerOf, IsAfterCheckpoint}
use Rattle.flusher.proofs.Kept.{fails_from, fails_on, keeps_from, keeps_on}
use Rattle.flusher.proofs.Published.{unless, when}
use Rattle.flusher.proofs.Tried.{answered_after, answered_at_once, few_sectors, out_after, out_at, length-asked, not_again, not_empty, refused_before, unready_is}
use Rattle.flusher.proofs.batch.commit_with_room.Goals as goal

pub returns-then-not-is_unready-clause-committed : goal.returns-then-not-is_unready-clause-committed
returns-then-not-is_unready-clause-committed g c =
    let was = view_of c.args.committer.now.store in
    answered_at_once (asked c.args.commands.now) was (view_of c.commit-first.new.self.store) c.commit-first.result c.args.committer.now.attempts
    c.commit-first.new.self.attempts c.requires.sound (unless c.is_unready.result _ _ c.is_unready.ensures c.if-not-is_unready.true)
    (out_at c.args.committer.now.attempts c.commit-first.new.self.attempts c.commit-first.result c.commit-first.ensures.attempted) c.commit-first.ensures.tried

pub returns-in_err-make_room-clause-committed : goal.returns-in_err-make_room-clause-committed
returns-in_err-make_room-clause-committed g c =
    let cmds = asked c.args.commands.now in
    let was = view_of c.args.committer.now.store in
    let mid = view_of c.commit-first.new.self.store in
    let u = unready_is cmds was mid c.commit-first.result (when c.is_unready.result _ _ c.is_unready.ensures c.if-not-is_unready.false) c.commit-first.ensures.tried in
    let p = err_from_is_err_and c.from_residual.result c.from_residual.ensures.1 in
    subst (λ r. IsAnswerOf cmds was (view_of c.make_room.new.self.store) r c.args.committer.now.attempts c.make_room.new.self.attempts) (sym (p.1 ∙ ap Err p.2))
    (refused_before cmds was (view_of c.make_room.new.self.store) c.in_err-make_room.field-0.0 c.args.committer.now.attempts
    c.make_room.new.self.attempts (not_empty c.args.commands.now cmds (length-asked c.args.commands.now) c.requires.some) u.1
    (subst (λ (s : StoreView Global g.row.D.Denot). HasMadeRoom s (view_of c.make_room.new.self.store) (Err c.in_err-make_room.field-0.0)) u.0 c.in_err-make_room.ensures.made))

pub returns-in_err-make_room-clause-store : goal.returns-in_err-make_room-clause-store
returns-in_err-make_room-clause-store g c =
    let view = g.D.Disk.view in
    let was = view_of c.args.committer.now.store in
    let mid = view_of c.commit-first.new.self.store in
    let new = view_of c.make_room.new.self.store in
    let u = unready_is (asked c.args.commands.now) was mid c.commit-first.result (when c.is_unready.result _ _ c.is_unready.ensures c.if-not-is_unready.false) c.commit-first.ensures.tried in
    record { images = keeps_from view was mid new u.0 c.make_room.ensures.store.images; fails = fails_from view was mid new u.0 c.make_room.ensures.store.fails }

pub returns-clause-committed : goal.returns-clause-committed
returns-clause-committed g c =
    let cmds = asked c.args.commands.now in
    let was = view_of c.args.committer.now.store in
    let first = view_of c.commit-first.new.self.store in
    let mid = view_of c.make_room.new.self.store in
    let new = view_of c.commit.new.self.store in
    let u = unready_is cmds was first c.commit-first.result (when c.is_unready.result _ _ c.is_unready.ensures c.if-not-is_unready.false) c.commit-first.ensures.tried in
    let m = c.in_ok-make_room.ensures.made in
    let b : IsAfterCheckpoint was mid = subst (λ (s : StoreView Global g.row.D.Denot). IsAfterCheckpoint s mid) u.0 m in
    answered_after cmds was mid new true (λ e. u.1) b.layout b.room b.undone c.commit.result c.args.committer.now.attempts c.commit.new.self.attempts
    (not_again c.args.commands.now first.layout (other_of first.side) first.register.count mid new c.commit.result
    (few_sectors c.args.commands.now c.size_of-size.result c.requires.few c.size_of-size.ensures.size c.size_of-size.ensures.most) m.room.0.journal
    c.commit.ensures.tried)
    (out_after c.args.committer.now.attempts c.commit-first.new.self.attempts c.commit.new.self.attempts c.commit-first.result c.commit.result
    c.commit-first.ensures.attempted
    (subst (λ (a : Attempts). HasAttempted a c.commit.result c.commit.new.self.attempts) c.make_room.ensures.attempts c.commit.ensures.attempted))
    c.commit.ensures.tried

pub returns-clause-store : goal.returns-clause-store
returns-clause-store g c =
    let view = g.D.Disk.view in
    let was = view_of c.args.committer.now.store in
    let first = view_of c.commit-first.new.self.store in
    let mid = view_of c.make_room.new.self.store in
    let new = view_of c.commit.new.self.store in
    let u = unready_is (asked c.args.commands.now) was first c.commit-first.result (when c.is_unready.result _ _ c.is_unready.ensures c.if-not-is_unready.false) c.commit-first.ensures.tried in
    let m = c.in_ok-make_room.ensures.made in
    let room = c.make_room.ensures.store in
    let done = c.commit.ensures.store in
    record {
      images = keeps_from view was first new u.0 (keeps_on view first mid new m.undone.register m.undone.sound room.images done.images);
      fails = fails_from view was first new u.0 (fails_on view first mid new room.fails done.fails);
    }

-- the store is sound before the checkpoint and before the second commit
pub make_room-requires : goal.make_room-requires
make_room-requires g c =
    let was = view_of c.args.committer.now.store in
    let first = view_of c.commit-first.new.self.store in
    let u = unready_is (asked c.args.commands.now) was first c.commit-first.result (when c.is_unready.result _ _ c.is_unready.ensures c.if-not-is_unready.false) c.commit-first.ensures.tried in
    record { sound = ap (λ (s : StoreView Global g.row.D.Denot). s.broken) u.0 ∙ c.requires.sound }

pub commit-requires-clause-sound : goal.commit-requires-clause-sound
commit-requires-clause-sound g c = c.in_ok-make_room.ensures.made.undone.sound
