use Rattle.std.proofs.Common.{◌≡◌, ◌++◌, ◌≤◌, length}
use Rattle.std.specs.VecDeque.{deque_capacity}
use Rattle.centre_core.specs.Histories.{IsHistory}
use Rattle.flusher.specs.Shared.{commands_in}
use Rattle.flusher.proofs.publishing.publish_all.Given as goal

abbrev pub invariant-loop-command : goal.invariant-loop-command
invariant-loop-command g l =
    IsHistory g.J.Centre.base (l.publisher.appended ++ commands_in l.unpublished.items)
    × (l.publisher.appended ++ commands_in l.unpublished.items ≡ l.initial.publisher.appended ++ commands_in l.initial.unpublished.items)
    × (l.publisher.published ≡ l.initial.publisher.published)
    × (l.publisher.refusals ≡ l.initial.publisher.refusals)
    × (length l.initial.publisher.appended ≤ length l.publisher.appended)
    × (deque_capacity l.unpublished ≡ deque_capacity l.initial.unpublished)

abbrev pub decreases-loop-command : goal.decreases-loop-command
decreases-loop-command g l = length l.unpublished.items
