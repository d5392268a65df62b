use Rattle.std.proofs.Common.{◌≡◌, length}
use Rattle.served_disk.proofs.progress.no_lines.Given as goal

-- one for each station so far
abbrev pub invariant-loop : goal.invariant-loop
invariant-loop l = length l.lines.items ≡ l.counter
