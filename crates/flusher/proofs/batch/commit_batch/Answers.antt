use Rattle.std.proofs.Common.{◌≡◌, [], length, refl, ap, ◌∙◌, rules}
use Rattle.std.proofs.lemmas.List.{nil_from_length}
use Rattle.base.proofs.Lists.{set_length}
use Rattle.recovery.specs.Lives.{view_of}
use Rattle.flusher.specs.Shared.{commands_in}
use Rattle.flusher.proofs.Kept.{fails_self, keeps_self}
use Rattle.flusher.proofs.Tried.{none_committed}
use Rattle.flusher.proofs.Batched.{filled_next}
use Rattle.flusher.proofs.batch.commit_batch.Goals as goal

pub loop-k-preserved : goal.loop-k-preserved
loop-k-preserved g c =
    let i = c.loop-k.invariant in (
      refl,
      refl,
      set_length c.loop-k.commands c.loop-k.k c.deref.result ∙ i.2,
      filled_next c.loop-k.commands c.args.batch.now.items c.loop-k.k c.deref.result c.index-in-loop-k.result.now (search rules) (search rules) c.index-in-loop-k.ensures c.deref.ensures i.3,
    )

pub returns-then-is_empty-clause-committed : goal.returns-then-is_empty-clause-committed
returns-then-is_empty-clause-committed g c =
    let zero : length c.args.batch.now.items ≡ 0 = search rules in
    let none : c.args.batch.now.items ≡ [] = nil_from_length c.args.batch.now.items zero in
    none_committed (commands_in c.args.batch.now.items) (view_of c.args.committer.now.store) c.new.result c.args.committer.now.attempts
    c.args.committer.now.attempts (ap commands_in none) (search rules) c.requires.sound

pub returns-then-is_empty-clause-store : goal.returns-then-is_empty-clause-store
returns-then-is_empty-clause-store g c =
    let store = view_of c.args.committer.now.store in
    record {
      images = keeps_self g.D.Disk.view store (g.met.D.Disk.sound c.args.committer.now.store.disk);
      fails = fails_self g.D.Disk.view store c.requires.sound;
    }
