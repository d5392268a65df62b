use Rattle.std.proofs.Common.{◌≡◌, ◌-◌, ◌++◌, List, ℕ, None}
use Rattle.std.specs.Io.KnownBytes.{Appends, append_known}
use Rattle.register_text.specs.Inside.Going.{IsHeld}
use Rattle.register_text.proofs.Written.{lines_after, turns}
use Rattle.register_text.proofs.dumping.write_rows.Given as goal

-- these lines are written, and those after the last place are left
abbrev pub invariant-loop : goal.invariant-loop
invariant-loop g l = (done : List ℕ) × Appends (append_known (g.W.Write.contents l.fn.out) l.fn.text.items) (append_known (g.W.Write.contents l.out) l.text.items) done
    × (done ++ lines_after l.register (turns - l.counter) l.after ≡ lines_after l.register turns None)
    × IsHeld g.W.TextSink.took l.fn.out l.fn.text.items l.out l.text.items done
