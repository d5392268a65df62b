-- Which stations may give orders, and what a session submits whose station may give none.
use Rattle.std.specs.Prelude.{◌≡◌, ◌==◌, ◌||◌, ◌++◌, Bool, true, false, not, List, []}
use Rattle.std.specs.List.{list_any}
use Rattle.std.specs.declared.alloc.Global.{Global}
use Rattle.registration.specs.Numbers.{Station}
use Rattle.centre_core.specs.Asked.{Asked}
use Rattle.station_queue.specs.declared.entry.Entry.{Entry}
use Rattle.console.specs.Reading.{is_order}
use Rattle.flusher.specs.Shared.{commands_among}
use Rattle.stations.specs.declared.orders.Orders.{Orders}
use Rattle.stations.specs.declared.orders.Orders.TheVariants as orders

-- this station may give orders
abbrev pub may : Orders → Station → Bool
may orders.OfAll station = true
may (orders.Of named) station = list_any (λ one. one == station) named.now

-- this station may give orders, where these are named; if none is named, each may
abbrev pub may_by : List Station → Station → Bool
may_by [] station = true
may_by named station = list_any (λ one. one == station) named

-- a station may give the command: an order only if it may give orders (`may_order`)
abbrev pub is_allowed : Bool → Asked Global → Bool
is_allowed may_order c = may_order || not (is_order c.body)

-- one of these commands is an order
abbrev pub has_order : List (Asked Global) → Bool
has_order commands = list_any (λ c. is_order c.body) commands

-- A session put more entries into the queue, after the old ones. If its station may give no orders, none of them is one.
abbrev pub Submits : Bool → List Entry → List Entry → Type 0
Submits may_order old new = (more : List Entry) × (new ≡ old ++ more) × (may_order ≡ false → has_order (commands_among more) ≡ false)
