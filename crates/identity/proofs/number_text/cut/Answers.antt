use Rattle.std.proofs.Common.{arith, sym, ◌∙◌, ap, ◌≡◌, ◌+◌, ◌-◌, length, take, drop, Some, List, ℕ}
use Rattle.std.proofs.lemmas.Grind.{common_steps}
use Rattle.std.proofs.lemmas.List.{take_all}
use Rattle.identity.proofs.NumberText.{cut_none, cut_some}
use Rattle.identity.proofs.number_text.cut.Goals as goal

pub returns-in-None : goal.returns-in-None
returns-in-None c = sym (cut_none c.args.mark c.args.text.now (sym c.first.ensures ∙ c.in-None.is))

pub returns-in-Some : goal.returns-in-Some
returns-in-Some c = let text = c.args.text.now in let at = c.in-Some.at in
    let whole : take (length text - (at + 1)) (drop (at + 1) text) ≡ drop (at + 1) text = take_all (length text - (at + 1)) (drop (at + 1) text) (grind (arith, common_steps)) in
    ap (λ (rest : List ℕ). Some (take at text, rest)) whole ∙ sym (cut_some c.args.mark text at (sym c.first.ensures ∙ c.in-Some.is))
