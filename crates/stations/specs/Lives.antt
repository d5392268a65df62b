-- A run of many stations in the life of its disk.
use Rattle.std.specs.Prelude.{◌≡◌, ℕ, List, Option, false}
use Rattle.std.specs.declared.alloc.Global.{Global}
use Rattle.identity.specs.Numbers.{Byte}
use Rattle.sector_disk.specs.Disk.{View}
use Rattle.centre_core.specs.State.{State}
use Rattle.recovery.specs.Lives.{Event, IsLife, Open, StoreView}
use Rattle.flusher.specs.Lives.{HasLived}
use Rattle.stations.specs.Served.{HasServedStations}
use Rattle.stations.specs.declared.orders.Orders.{Orders}
use Rattle.stations.specs.declared.port.Port.{Port}
use Rattle.stations.specs.declared.station_run.StationRun.{StationRun}

-- Given is a store that is open in a life of the disk, and not broken. The life began with the register `from` and came there by the events
-- `before`. A run of many stations over this store goes on with this life: each
-- round of its flusher is a call in the life, and a stop may come at any moment (`HasLived`).
abbrev pub RunsGoOnWithLives : {D I O : Type 0} → (D → View) → (J : Type 0) → State → (I → Option (List Byte)) → (O → Option (List Byte)) → Type 0
RunsGoOnWithLives {D} {I} {O} disk J base unread written =
    (orders : Orders) (turns : ℕ) (opened store : StoreView Global D) (ports : List (Port I O)) (runs : List (StationRun I O))
    (served : HasServedStations disk J base orders turns unread written opened ports store runs) → opened.register ≡ base → opened.broken ≡ false
    → (from : State) (before : List (Event Global)) → IsLife Global disk from before (Open opened)
    → HasLived disk base from before served.first served.last
