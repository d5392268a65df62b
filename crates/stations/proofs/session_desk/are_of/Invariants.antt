use Rattle.std.proofs.Common.{◌≡◌, true, take}
use Rattle.std.specs.Prelude.{All}
use Rattle.std.specs.declared.alloc.Global.{Global}
use Rattle.centre_core.specs.Asked.{Asked}
use Rattle.stations.specs.Orders.{is_allowed}
use Rattle.stations.proofs.session_desk.are_of.Given as goal

abbrev pub invariant-loop-k : goal.invariant-loop-k
invariant-loop-k l = All (λ (c : Asked Global). (c.station ≡ l.station) × (is_allowed l.orders c ≡ true)) (take l.k l.commands)
