-- What is printed for the runs of stations, and how they have ended.
use Rattle.std.specs.Prelude.{◌≡◌, ◌+◌, ◌++◌, ◌∷◌, [], ℕ, Bool, true, false, All, List, Option, Some, Ok, Err, Result, Vec, cond, is_ok, slice_get, take}
use Rattle.std.specs.declared.alloc.Global.{Global}
use Rattle.std.specs.List.{list_any}
use Rattle.console.specs.declared.running.Ran.{Ran}
use Rattle.console.specs.declared.running.RunFault.{RunFault}
use Rattle.registration.specs.Numbers.{Station}
use Rattle.sector_disk.specs.Numbers.{Byte}
use Rattle.sector_disk.specs.Disk.{View}
use Rattle.centre_core.specs.State.{State}
use Rattle.recovery.specs.Lives.{StoreView}
use Rattle.stations.specs.declared.orders.Orders.{Orders}
use Rattle.stations.specs.declared.port.Port.{Port}
use Rattle.stations.specs.Served.{HasServedStations}
use Rattle.stations.specs.declared.station_run.StationRun.{StationRun}
use Rattle.served_disk.specs.declared.fault.Fault.{Fault}
use Rattle.served_disk.specs.declared.serving.Served.{Served}
use Rattle.served_disk.specs.declared.port_names.PortNames.{PortNames}
use Rattle.served_disk.specs.Faults.{IsOfRun, fault_status}
use Rattle.served_disk.specs.Printing.{station_text}

-- Stations 1, 2 and so on were served over a store that was opened, each with the lines and to the writer of its port. `orders` says which of them
-- may give orders, and `turns` is the most calls of each reader. `unread` and `written` are what is known of a reader's bytes and of a writer's
-- contents. `served` has the run of each station, and whether the store broke. It also has the store's disk, to which nothing more was done.
pub record AreServed {D I O : Type 0} (disk : D → View) (J : Type 0) (base : State) (orders : Orders) (turns : ℕ) (unread : I → Option (List Byte)) (written : O → Option (List Byte))
    (opened : StoreView Global D) (ports : List (Port I O)) (served : Served D I O) : Type 0 where
  pub store : StoreView Global D
  pub runs : HasServedStations disk J base orders turns unread written opened ports store served.runs.items
  pub left : served.disk ≡ store.disk
  pub broken : served.is_broken ≡ store.broken

-- the text of this station and those after it: each with the name of its file, and its answers
abbrev pub text_from : {I : Type 0} → Station → List PortNames → List (StationRun I (Vec Byte Global)) → List Byte
text_from station [] runs = []
text_from station (name ∷ names) [] = []
text_from station (name ∷ names) (run ∷ runs) = (station_text station name.input.now ++ run.writer.items) ++ text_from (station + 1) names runs

-- the text of all stations, the first of which is station 1
abbrev pub stations_text : {I : Type 0} → List PortNames → List (StationRun I (Vec Byte Global)) → List Byte
stations_text names runs = text_from 1 names runs

-- one run has ended: with whether an answer reported trouble, or with this fault
abbrev pub HasEnded : PortNames → Result Ran RunFault → Result Bool Fault → Type 0
HasEnded name (Ok ran) end = end ≡ Ok ran.troubled
HasEnded name (Err fault) end = (reported : Fault) × (end ≡ Err reported) × IsOfRun fault name reported

-- the exit status of stations that have ended with this result: that of the fault; else 1 if an answer reported trouble, or 0
abbrev pub end_status : Result Bool Fault → ℕ
end_status (Ok troubled) = cond troubled 1 0
end_status (Err fault) = fault_status fault

-- an answer of a run with this result reported trouble
abbrev pub reports_trouble : Result Ran RunFault → Bool
reports_trouble (Ok ran) = ran.troubled
reports_trouble (Err fault) = false

module _ {I O : Type 0} where
  -- an answer of this run reported trouble
  abbrev pub is_troubled : StationRun I O → Bool
  is_troubled run = reports_trouble run.ran

  -- the run came to the end of its text
  abbrev pub IsWhole : StationRun I O → Type 0
  IsWhole run = is_ok run.ran ≡ true

  -- the fault is that of the first run that has one
  pub record IsFirst (names : List PortNames) (runs : List (StationRun I O)) (reported : Fault) : Type 0 where
    pub place : ℕ
    pub name : PortNames
    pub run : StationRun I O
    pub fault : RunFault
    pub whole : All IsWhole (take place runs)
    pub named : slice_get names place ≡ Some name
    pub here : slice_get runs place ≡ Some run
    pub failed : run.ran ≡ Err fault
    pub is : IsOfRun fault name reported

  -- all runs have ended: with the fault of the first that has one; else each is whole, and the result is whether one is troubled
  abbrev pub HaveEnded : List PortNames → List (StationRun I O) → Result Bool Fault → Type 0
  HaveEnded names runs (Ok troubled) = All IsWhole runs × (troubled ≡ list_any is_troubled runs)
  HaveEnded names runs (Err reported) = IsFirst names runs reported

  -- all runs of a service have ended, and its result is the exit status for how they ended
  abbrev pub HasServiceEnded : List PortNames → List (StationRun I O) → Result ℕ Fault → Type 0
  HasServiceEnded names runs result = (end : Result Bool Fault) × HaveEnded names runs end × (result ≡ Ok (end_status end))
