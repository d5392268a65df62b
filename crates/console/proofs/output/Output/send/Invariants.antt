use Rattle.std.proofs.Common.{◌≡◌, ◌-◌, ◌+◌, ◌≤◌, [], length, drop}
use Rattle.console.specs.Inside.Passing.{Passes, sent_by}
use Rattle.console.proofs.output.Output.send.Given as goal

-- a prefix of the bytes was written, and nothing failed
abbrev pub invariant-loop-at : goal.invariant-loop-at
invariant-loop-at g l = (l.at ≤ length l.bytes)
    × (l.self.writer.ghost_name ≡ l.fn.self.writer.ghost_name) × (l.self.failures.ghost_name ≡ l.fn.self.failures.ghost_name)
    × (l.self.failures.now ≡ l.fn.self.failures.now)
    × Passes (sent_by g.W.Write.contents l.fn.self) (sent_by g.W.Write.contents l.self) l.bytes [] (drop l.at l.bytes)

-- the bytes that are left, and the interruptions that are still borne
abbrev pub decreases-loop-at : goal.decreases-loop-at
decreases-loop-at g l = (length l.bytes - l.at) + l.patience
