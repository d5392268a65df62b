use Rattle.std.proofs.Common.{◌≡◌, ◌+◌, ◌-◌, ◌≤◌, ◌++◌, List, ℕ, length, drop}
use Rattle.register_text.specs.Inside.Going.{IsLineSoFar, outcome}
use Rattle.register_text.proofs.loading.Reading.take_piece.Given as goal

-- the lines so far are taken, and the rest of the piece is left
abbrev pub invariant-loop-end : goal.invariant-loop-end
invariant-loop-end g l = (l.at ≤ length l.piece) × (l.self.number ≤ l.fn.self.number + l.at) × IsLineSoFar l.self.line.items
    × ((left : List ℕ) → outcome l.fn.self (l.piece ++ left) ≡ outcome l.self (drop l.at l.piece ++ left))

abbrev pub decreases-loop-end : goal.decreases-loop-end
decreases-loop-end g l = length l.piece - l.at
