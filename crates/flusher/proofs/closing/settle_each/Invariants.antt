use Rattle.std.proofs.Common.{◌≡◌, ◌++◌, List, length}
use Rattle.std.specs.Prelude.{All, map}
use Rattle.std.specs.List.{AllZip}
use mathlib.Core.List.{IsPrefix}
use Rattle.crossbeam_channel.specs.Ends.{sends_on, receives_on}
use Rattle.answers.specs.Views.{sent_of, received_of}
use Rattle.answers.specs.declared.channel.AnswerSender.{AnswerSender}
use Rattle.station_queue.specs.Ends.{with_settled}
use Rattle.station_queue.specs.Order.{settled}
use Rattle.flusher.specs.Stages.{Sent}
use Rattle.flusher.proofs.closing.settle_each.Given as goal

abbrev pub invariant-loop-end : goal.invariant-loop-end
invariant-loop-end g l =
    (l.taker ≡ with_settled l.initial.taker (map (λ e. settled e.sender.station e.sender.sent) l.yielded))
    × (l.yielded ++ l.end-iterator.rest.items ≡ l.fn.ended.items)
    × (length l.end-iterator.rest.items ≡ l.end-iterator.rest.len)
    × All (λ e. e.sender.queue ≡ l.initial.taker.queue) l.fn.ended.items
    × ((done : List (AnswerSender Sent)) × (done ++ l.senders.rest.items ≡ l.fn.senders.items) × AllZip (λ s e. IsPrefix (received_of e.receiver.pass) (sent_of s.pass)) done l.yielded)
    × AllZip (λ s e. receives_on e.receiver.channel ≡ sends_on s.channel) l.senders.rest.items l.end-iterator.rest.items
    × (length l.senders.rest.items ≡ l.senders.rest.len)
