use Rattle.std.proofs.Common.{◌≡◌, ◌+◌, ◌*◌, ◌≤◌, ◌++◌, List, ℕ, Some}
use Rattle.register_text.specs.Inside.Going.{IsLineSoFar, outcome}
use Rattle.register_text.specs.Passing.{HavePassed}
use Rattle.register_text.proofs.loading.Reading.take_all.Given as goal

-- what the reader gave is taken, and the rest is left
abbrev pub invariant-loop : goal.invariant-loop
invariant-loop g l = (l.self.number ≤ 1 + 65536 * l.counter) × IsLineSoFar l.self.line.items
    × ((given : List ℕ) × HavePassed g.R.TextSource.gave l.counter l.fn.reader given l.reader × ((left : List ℕ) → outcome l.fn.self (given ++ left) ≡ outcome l.self left)
    × ((text : List ℕ) → g.R.Read.remaining l.fn.reader ≡ Some text → (left : List ℕ) × (g.R.Read.remaining l.reader ≡ Some left) × (text ≡ given ++ left)))
