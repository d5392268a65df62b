use Rattle.std.proofs.Common.{◌≡◌, ◌++◌, List, length}
use Rattle.std.specs.VecDeque.{deque_capacity}
use Rattle.flusher.specs.Shared.{commands_in}
use Rattle.flusher.specs.Batches.{AreWithin}
use Rattle.flusher.specs.Stages.{Sent, decision_for_all, sent_to_all}
use Rattle.flusher.specs.Answerings.{HaveAnswered}
use Rattle.flusher.proofs.answering.answer_all_alike.Given as goal

abbrev pub invariant-loop-command : goal.invariant-loop-command
invariant-loop-command g l =
    AreWithin (length l.initial.senders.items) (commands_in l.batch.items)
    × ((sofar : List Sent) ×
    (sofar ++ sent_to_all l.stamp.moment.tick l.stamp.published (decision_for_all l.fault) (commands_in l.batch.items) ≡ sent_to_all
    l.stamp.moment.tick l.stamp.published (decision_for_all l.fault) (commands_in l.initial.batch.items))
    × HaveAnswered l.initial.senders.items sofar l.senders.items)
    × (deque_capacity l.batch ≡ deque_capacity l.initial.batch)

abbrev pub decreases-loop-command : goal.decreases-loop-command
decreases-loop-command g l = length l.batch.items
