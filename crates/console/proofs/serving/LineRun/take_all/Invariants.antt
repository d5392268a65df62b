use Rattle.std.proofs.Common.{◌≡◌, ◌++◌, ◌+◌, ◌*◌, ◌≤◌, List, ℕ, Some}
use Rattle.console.specs.Told.{all_read, calls_of}
use Rattle.console.specs.Inside.Feed.{HasCalled, IsGoing, IsSameRun, reached_by, start_at}
use Rattle.console.specs.Inside.Passing.{sent_by}
use Rattle.console.proofs.serving.LineRun.take_all.Given as goal

-- what the reader gave was taken, and the rest is still to come
abbrev pub invariant-loop : goal.invariant-loop
invariant-loop g l = (l.self.progress.now.lines ≤ 65536 * l.counter) × (l.input.steps.now ≡ l.fn.input.steps.now + l.counter) × (l.fn.input.faults.now ≤ l.input.faults.now) × (
    (taken : List ℕ) × (all_read l.input ≡ all_read l.fn.input ++ taken)
    × ((input : List ℕ) → g.R.Read.remaining l.fn.input.reader.now ≡ Some input → (left : List ℕ) × (g.R.Read.remaining l.input.reader.now ≡ Some left) × (input ≡ taken ++ left))
    × IsGoing g.D.Desk.rules
    (start_at (reached_by g.D.Desk.world g.W.Write.contents l.fn.self) (g.R.Read.remaining l.fn.input.reader.now)) (sent_by g.W.Write.contents l.fn.self.output.now) taken
    (reached_by g.D.Desk.world g.W.Write.contents l.self))
    × (l.input.reader.ghost_name ≡ l.fn.input.reader.ghost_name) × (l.input.steps.ghost_name ≡ l.fn.input.steps.ghost_name) × (l.input.faults.ghost_name ≡ l.fn.input.faults.ghost_name)
    × (l.self.output.now.failures.now ≡ l.fn.self.output.now.failures.now)
    × IsSameRun l.fn.self l.self
    × HasCalled (calls_of l.fn.input) (calls_of l.input) l.counter
