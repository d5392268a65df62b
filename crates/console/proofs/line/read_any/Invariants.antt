use Rattle.std.proofs.Common.{◌≡◌, ◌++◌, length, map, take}
use Rattle.console.specs.Reading.{words}
use Rattle.console.proofs.line.read_any.Given as goal

-- the words so far, and those of what is left
abbrev pub invariant-loop-at : goal.invariant-loop-at
invariant-loop-at g l = (length l.words.0 ≡ 8) × (words l.line ≡ map (λ w. w.now) (take l.at l.words.0) ++ words l.rest)
