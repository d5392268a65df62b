-- Commands that threads share.
use Rattle.std.specs.Prelude.{List, [], ◌∷◌, map}
use Rattle.std.specs.Arc.{arc_value}
use Rattle.std.specs.declared.alloc.Global.{Global}
use Rattle.std.specs.declared.sync.Arc.{Arc}
use Rattle.centre_core.specs.Asked.{Asked}
use Rattle.station_queue.specs.declared.entry.Entry.{Entry}
use Rattle.station_queue.specs.declared.entry.Entry.TheVariants.{Submitted, Ended}

-- the commands in these `Arc`s
abbrev pub commands_in : List (Arc (Asked Global) Global) → List (Asked Global)
commands_in xs = map (λ c. arc_value c) xs

-- the commands among entries of the queue, in order
abbrev pub commands_among : List Entry → List (Asked Global)
commands_among [] = []
commands_among (Submitted request ∷ xs) = arc_value request.command ∷ commands_among xs
commands_among (Ended station ∷ xs) = commands_among xs
