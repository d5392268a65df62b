-- What the two ends are modelled as.
use Rattle.std.specs.Prelude.{ℕ, Bool, List, ◌++◌}
use Rattle.atomic_table.specs.Seated.{TableId}
use Rattle.registration.specs.Numbers.{Station}
use Rattle.station_queue.specs.declared.entry.Entry.{Entry}
use Rattle.station_queue.specs.declared.rule.Settled.{Settled}

-- a sender: its queue, its station, and what it sent
pub record Sending : Type 0 where
  pub queue : TableId
  pub station : Station
  pub sent : List Entry

-- a sender with these parts
abbrev pub sending : TableId → Station → List Entry → Sending
sending queue station sent = record { queue = queue; station = station; sent = sent }

-- the taker: its queue, how many senders it made, what it took, the senders that came back, and the flag that `take` sets if it returns nothing
pub record Taking : Type 0 where
  pub queue : TableId
  pub made : ℕ
  pub taken : List Entry
  pub settled : List Settled
  pub empty : Bool

-- a taker with these parts
abbrev pub taking : TableId → ℕ → List Entry → List Settled → Bool → Taking
taking queue made taken settled empty = record { queue = queue; made = made; taken = taken; settled = settled; empty = empty }

-- the same taker, once these senders came back too
abbrev pub with_settled : Taking → List Settled → Taking
with_settled t more = taking t.queue t.made t.taken (t.settled ++ more) t.empty
