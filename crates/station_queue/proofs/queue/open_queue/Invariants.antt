use Rattle.std.proofs.Common.{◌≡◌, ℕ, [], ◌+◌, ◌<◌, length}
use Rattle.std.specs.Prelude.{All, slice_get, Some}
use Rattle.station_queue.specs.Ends.{sending}
use Rattle.station_queue.proofs.queue.open_queue.Given as goal

abbrev pub invariant-loop-station : goal.invariant-loop-station
invariant-loop-station l =
    (l.taker.made + 1 ≡ l.station) × (l.taker.taken ≡ []) × (length l.senders.items + 1 ≡ l.station)
    × ((k : ℕ) → k + 1 < l.station → slice_get l.senders.items k ≡ Some (sending l.taker.queue (k + 1) []))
    × (l.taker.settled ≡ []) × All (λ s. s.queue ≡ l.taker.queue) l.senders.items
