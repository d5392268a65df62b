use Rattle.std.proofs.Common.{◌≡◌, ◌*◌, Some, map, take}
use Rattle.command_line.specs.Asked.{paired, pair_texts}
use Rattle.command_line.proofs.reading.whole_pairs.Given as goal

-- the words so far
abbrev pub invariant-loop-index : goal.invariant-loop-index
invariant-loop-index l = paired (map (λ word. word.now) (take (2 * l.index) l.words)) ≡ Some (pair_texts l.pairs.items)
