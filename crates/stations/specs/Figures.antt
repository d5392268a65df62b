-- The figures of the store that is served.
use Rattle.std.specs.Prelude.{ℕ, ◌-◌}
use Rattle.console.specs.declared.figures.StoreFigures.{StoreFigures}
use Rattle.recovery.specs.declared.figures.Figures.{Figures}

-- The figures of a store's service, by the store's figures at the start and now, and the count of syncs. Commands and checkpoints are
-- counted from the start.
abbrev pub since : Figures → Figures → ℕ → StoreFigures
since start now syncs = record { commands = now.count - start.count; syncs = syncs; checkpoints = now.epoch - start.epoch; epoch = now.epoch; free = now.free }
