use Rattle.std.proofs.Common.{arith, sym, ◌∙◌, ap, ◌≡◌, ◌+◌, ◌-◌, ◌∷◌, length, take, drop}
use Rattle.console.specs.Reading.{words}
use Rattle.std.proofs.lemmas.Grind.{common_steps}
use Rattle.std.proofs.lemmas.List.{take_all}
use Rattle.console.proofs.Splits.{words_none, words_some}
use Rattle.console.proofs.split.cut.Goals as goal

pub returns-in-None : goal.returns-in-None
returns-in-None c = words_none c.args.line.now c.in-None.ensures

pub returns-in-Some : goal.returns-in-Some
returns-in-Some c = let line = c.args.line.now in let at = c.in-Some.at in
    let whole : take (length line - (at + 1)) (drop (at + 1) line) ≡ drop (at + 1) line = take_all (length line - (at + 1)) (drop (at + 1) line) (grind (arith, common_steps)) in
    words_some line at c.in-Some.ensures.0 c.in-Some.ensures.1 c.in-Some.ensures.2 ∙ ap (λ rest. take at line ∷ words rest) (sym whole)
