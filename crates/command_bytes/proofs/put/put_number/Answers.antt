use Rattle.std.proofs.Common.{ℕ, List, ◌++◌, ◌-◌, ◌∙◌, take, drop, ap}
use Rattle.command_bytes.proofs.Putting.{number_bytes}
use Rattle.command_bytes.proofs.put.put_number.Goals as goal

pub returns-clause-held : goal.returns-clause-held
returns-clause-held g c =
    let out = g.R.ByteSink.held c.args.out.now in
    let width = c.args.width in
    c.put.ensures.held ∙ ap (λ (l : List ℕ). out ++ take (8 - (8 - width)) (drop (8 - width) l)) c.to_be_bytes.ensures ∙
    ap (λ (l : List ℕ). out ++ l) (number_bytes width c.args.number c.requires.width)
