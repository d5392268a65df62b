use Rattle.std.proofs.Common.{◌≡◌, ◌++◌, ◌+◌, ◌≤◌, length}
use Rattle.std.specs.Prelude.{drop}
use Rattle.std.specs.VecDeque.{deque_capacity}
use Rattle.flusher.specs.Shared.{commands_in}
use Rattle.flusher.specs.Batches.{accepted_by}
use Rattle.flusher.proofs.publishing.keep_accepted.Given as goal

abbrev pub invariant-loop-outcome : goal.invariant-loop-outcome
invariant-loop-outcome l =
    (commands_in l.unpublished.items ++ accepted_by (commands_in l.copies.items) (drop l.outcome-index l.outcomes) ≡ accepted_by (commands_in l.initial.copies.items) l.outcomes)
    × (length l.unpublished.items + length l.copies.items ≤ deque_capacity l.initial.unpublished)
    × (deque_capacity l.unpublished ≡ deque_capacity l.initial.unpublished)
    × (deque_capacity l.copies ≡ deque_capacity l.initial.copies)
