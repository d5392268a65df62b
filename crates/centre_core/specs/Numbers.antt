-- The numbers of commands.
use Rattle.std.specs.Prelude.{ℕ}

-- the place of a command among those of its station: 1 to 4,294,967,295
abbrev pub Sequence : Type 0
Sequence = ℕ
