-- What a run of many stations returns.
use Rattle.std.specs.Prelude.{ℕ, List, Option}
use Rattle.std.specs.declared.alloc.Global.{Global}
use Rattle.identity.specs.Numbers.{Byte}
use Rattle.sector_disk.specs.Disk.{View}
use Rattle.sector_disk.specs.declared.disk.Disk.{Ghosts}
use Rattle.centre_core.specs.State.{State}
use Rattle.recovery.specs.Lives.{StoreView, view_of}
use Rattle.stations.specs.Served.{HasServedStations}
use Rattle.stations.specs.declared.many_stations.Many.{Many}
use Rattle.stations.specs.declared.orders.Orders.{Orders}
use Rattle.stations.specs.declared.port.Port.{Port}

-- The stations of these ports were served over a store (`HasServedStations`). What came of it is the store, and a run for each port.
abbrev pub CameOfServing : {D I O : Type 0} {g : Ghosts D} → (D → View) → (J : Type 0) → State → Orders → ℕ → (I → Option (List Byte)) → (O → Option (List Byte))
    → StoreView Global D → List (Port I O) → Many D I O g → Type 0
CameOfServing disk J base orders turns unread written opened ports many =
    HasServedStations disk J base orders turns unread written opened ports (view_of many.store) many.runs.items
