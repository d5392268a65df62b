use Rattle.std.proofs.Common.{◌≡◌, ◌-◌, ◌≤◌, length}
use Rattle.std.specs.List.{find}
use Rattle.listings.specs.Entries.{waits_at}
use Rattle.listings.specs.Inside.Walking.{waiting_from}
use Rattle.listings.proofs.Passed.{left}
use Rattle.listings.proofs.waiting.first_waiting.Given as goal

-- the first that waits is among those that are left, and turns for these are left
abbrev pub invariant-loop : goal.invariant-loop
invariant-loop g l = (find (waits_at l.registry l.station) (left l.mail l.at) ≡ waiting_from l.registry l.mail l.station l.fn.after)
    × (length (left l.mail l.at) ≤ l.end - l.counter)
