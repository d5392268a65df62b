-- A run of many stations in the life of its disk.
use Rattle.std.specs.declared.alloc.Global.{Global}
use Rattle.std.proofs.Common.{◌≡◌, ℕ, false, inr, List, ap, sym, ◌∙◌, subst}
use mathlib.Core.List.{nil-sublist}
use Rattle.identity.specs.Numbers.{Byte}
use Rattle.sector_disk.specs.Disk.{IsSound, View}
use Rattle.centre_core.specs.Asked.{Asked}
use Rattle.centre_core.specs.State.{State}
use Rattle.centre_core.specs.History.{after}
use Rattle.recovery.specs.Lives.{Event, IsLife, Open, StoreView}
use Rattle.recovery.proofs.Lived.{life_holds, life_honest}
use Rattle.std.specs.Prelude.{Option}
use Rattle.flusher.specs.Lives.{HasLived}
use Rattle.flusher.specs.Order.{AreInOrder}
use Rattle.flusher.specs.Shared.{commands_among}
use Rattle.flusher.proofs.RoundCalls.{lived}
use Rattle.stations.specs.Served.{HasServedStations}
use Rattle.stations.specs.declared.orders.Orders.{Orders}
use Rattle.stations.specs.declared.port.Port.{Port}
use Rattle.stations.specs.declared.station_run.StationRun.{StationRun}

module _ {D I O : Type 0} (view : D → View) (sound : (disk : D) → (view disk).honest → IsSound (view disk)) (J : Type 0) (base : State)
    (orders : Orders) (turns : ℕ) (unread : I → Option (List Byte)) (written : O → Option (List Byte)) where
  pub run_lived : (opened store : StoreView Global D) (ports : List (Port I O)) (runs : List (StationRun I O))
      (served : HasServedStations view J base orders turns unread written opened ports store runs) → opened.register ≡ base → opened.broken ≡ false
      → (from : State) (before : List (Event Global)) → IsLife Global view from before (Open opened) → HasLived view base from before served.first served.last
  run_lived opened store ports runs served made up from before life =
      let first = served.first in
      let at : first.store ≡ opened = served.begun.store in
      let none = sym served.begun.durable in
      let stored = (life_holds view sound from before opened life up).0 in
      lived view base sound from before first (subst (λ (s : StoreView Global D). IsLife Global view from before (Open s)) (sym at) life) served.last
      (λ sound. ap (λ (s : StoreView Global D). s.register) at ∙ made ∙ ap (after base) none)
      (subst (λ (d : List (Asked Global)). AreInOrder d first.taker.taken) none (nil-sublist (commands_among first.taker.taken)))
      (served.lasting (inr (life_honest view from before (Open opened) life, stored)))
