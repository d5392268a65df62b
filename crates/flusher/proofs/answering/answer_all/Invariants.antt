use Rattle.std.proofs.Common.{◌≡◌, ◌++◌, List, length}
use Rattle.std.specs.VecDeque.{deque_capacity}
use Rattle.flusher.specs.Shared.{commands_in}
use Rattle.flusher.specs.Short.{AreShort}
use Rattle.flusher.specs.Batches.{AreWithin}
use Rattle.flusher.specs.Stages.{Sent, BearsOutDecisions, sent_by}
use Rattle.flusher.specs.Answerings.{HaveAnswered}
use Rattle.flusher.proofs.answering.answer_all.Given as goal

abbrev pub invariant-loop-command : goal.invariant-loop-command
invariant-loop-command g l =
    AreWithin (length l.initial.senders.items) (commands_in l.batch.items)
    × BearsOutDecisions g.J.Centre.base l.shown.stamp.published l.shown.all (commands_in l.batch.items) l.outcomes.rest.items
    × (length l.outcomes.rest.items ≡ length l.batch.items)
    × AreShort l.outcomes.rest.items
    × ((sofar : List Sent) ×
    (sofar ++ sent_by l.shown.stamp.moment.tick l.shown.stamp.published l.shown.all (commands_in l.batch.items) l.outcomes.rest.items ≡ sent_by
    l.shown.stamp.moment.tick l.shown.stamp.published l.shown.all (commands_in l.initial.batch.items) l.fn.outcomes.items)
    × HaveAnswered l.initial.senders.items sofar l.senders.items)
    × (deque_capacity l.batch ≡ deque_capacity l.initial.batch)

abbrev pub decreases-loop-command : goal.decreases-loop-command
decreases-loop-command g l = length l.batch.items
