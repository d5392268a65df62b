use Rattle.std.proofs.Common.{◌≡◌, ◌++◌, ◌<◌, ◌≤◌, List, length}
use Rattle.std.specs.List.{AllByRecursion}
use Rattle.station_queue.specs.declared.entry.Entry.{Entry}
use Rattle.station_queue.specs.Entries.{station_of}
use Rattle.flusher.specs.Shared.{commands_among, commands_in}
use Rattle.flusher.specs.Batches.{AreWithin, ended_by}
use Rattle.flusher.proofs.batch.take_entries.Given as goal

abbrev pub invariant-loop : goal.invariant-loop
invariant-loop g l =
    ((popped : List Entry) × (l.taker.taken ≡ l.initial.taker.taken ++ popped) × (commands_among popped ≡ commands_in l.room.batch.items) × (length popped ≡ l.counter)
    × (l.ended.items ≡ ended_by popped l.initial.ended.items)
    × AllByRecursion (λ (x : Entry). (0 < station_of x) × (station_of x ≤ l.initial.taker.made)) popped)
    × (l.taker.queue ≡ l.initial.taker.queue)
    × (l.taker.made ≡ l.initial.taker.made)
    × (l.taker.settled ≡ l.initial.taker.settled)
    × (length l.room.batch.items ≤ l.counter)
    × AreWithin l.initial.taker.made (commands_in l.room.batch.items)
    × (length l.ended.items ≡ length l.initial.ended.items)
