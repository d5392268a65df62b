use Rattle.std.proofs.Common.{◌++◌, ap}
use Rattle.recovery.specs.Lives.{view_of as store_of}
use Rattle.flusher.specs.Shared.{commands_in}
use Rattle.flusher.proofs.Beginning.{new_is_settled, nothing_sent}
use Rattle.flusher.proofs.opening.open_centre.Goals as goal

pub returns-clause-settled : goal.returns-clause-settled
returns-clause-settled g c =
    let e = c.in-Ok-open_ends.ensures in
    let b = c.in-Ok.ensures in
    new_is_settled g.J.Centre.base c.args.sessions (store_of c.args.store) _ (record {
      queue = e.ends.queue;
      count = e.ends.count;
      published = e.publisher.0;
      durable = λ j. e.publisher.1 j ++ commands_in (b.unpublished.0 j);
      store = ap store_of c.new.ensures.store;
      ended = b.ended;
    }) (nothing_sent _ _ _ e.ends.each) c.requires.centre.1
