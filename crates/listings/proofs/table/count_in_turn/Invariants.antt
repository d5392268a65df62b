use Rattle.std.proofs.Common.{◌≡◌, ◌+◌, length}
use Rattle.listings.specs.Entries.{entries_of}
use Rattle.listings.proofs.Walks.{left}
use Rattle.listings.proofs.table.count_in_turn.Given as goal

-- the entries so far, and those that are left
abbrev pub invariant-loop-passed : goal.invariant-loop-passed
invariant-loop-passed g l = l.passed + length (left l.register l.table l.passed l.after) ≡ length (entries_of l.register l.table)
