use Rattle.std.proofs.Common.{◌≡◌, ◌+◌, ◌-◌, ◌≤◌, length, take}
use Rattle.console.specs.Inside.Feed.{GoesOn, IsSameRun, reached_by}
use Rattle.console.proofs.serving.LineRun.take_piece.Given as goal

-- the run has come as far as the bytes so far take it
abbrev pub invariant-loop-end : goal.invariant-loop-end
invariant-loop-end g l = (l.at ≤ length l.piece) × (l.self.progress.now.lines ≤ l.fn.self.progress.now.lines + l.at)
    × GoesOn g.D.Desk.rules (reached_by g.D.Desk.world g.W.Write.contents l.fn.self) (take l.at l.piece) (reached_by g.D.Desk.world g.W.Write.contents l.self)
    × (l.self.output.now.failures.now ≡ l.fn.self.output.now.failures.now)
    × IsSameRun l.fn.self l.self

-- the bytes that are left
abbrev pub decreases-loop-end : goal.decreases-loop-end
decreases-loop-end g l = length l.piece - l.at
