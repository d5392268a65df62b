use Rattle.std.proofs.Common.{◌≡◌, ◌≤◌, length}
use Rattle.console.proofs.figures.no_counts.Given as goal

-- one for each station so far
abbrev pub invariant-loop : goal.invariant-loop
invariant-loop l = (length l.counts.items ≡ l.counter) × (l.counter ≤ l.stations)
