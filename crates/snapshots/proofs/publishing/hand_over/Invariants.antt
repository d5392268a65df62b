use Rattle.std.proofs.Common.{◌≡◌, ◌++◌, drop, length}
use Rattle.std.specs.VecDeque.{deque_capacity}
use Rattle.snapshots.proofs.publishing.hand_over.Given as goal

abbrev pub invariant-loop-change : goal.invariant-loop-change
invariant-loop-change g l =
    (l.writer.desk ≡ l.initial.writer.desk)
    × (drop l.writer.behind l.writer.log.items ++ l.pending.items ≡ drop l.initial.writer.behind l.initial.writer.log.items ++ l.initial.pending.items)
    × (deque_capacity l.pending ≡ deque_capacity l.initial.pending)

abbrev pub decreases-loop-change : goal.decreases-loop-change
decreases-loop-change g l = length l.pending.items
