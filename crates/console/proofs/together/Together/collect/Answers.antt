use Rattle.std.proofs.Common.{◌≡◌, ◌+◌, ◌-◌, [], ◌∷◌, List, ℕ, length, take, drop, sym, ◌∙◌, ap, subst, arith, append_assoc, length-append}
use Rattle.centre_core.specs.declared.command.Command.{Command}
use Rattle.console.specs.Reading.{heard}
use Rattle.console.specs.Runs.{speaker_of}
use Rattle.console.specs.Inside.Together.{AreLines}
use Rattle.console.proofs.AtOnce.{line_more, when}
use Rattle.console.proofs.Writing.{prefix_more}
use Rattle.console.proofs.together.Together.collect.Goals as goal

pub loop-preserved : goal.loop-preserved
loop-preserved g c =
    let i = c.loop.invariant in
    let text = c.args.text.now in
    let at = c.loop.at in
    let end = c.in-Some.end in
    let there = c.in-Some.ensures in
    let run = take (end - at) (drop at text) in
    let old = c.loop.self.commands.items in
    let new = c.add.new.self.commands.items in
    let added = when c.add.result _ _ c.add.ensures.added c.if-not-add.false in
    let speaker = speaker_of c.args.terms.now in
    let is = ap (λ l. heard {A = g.row.A.Denot} speaker l) (sym c.without_return.ensures) ∙ added.1 in
    let whole = sym (append_assoc (take at text) run (10 ∷ [])) ∙ prefix_more text at end 10 there.0 there.1 there.3 in
    let count : length new ≡ length old + 1 = ap length added.2 ∙ length-append old (added.0 ∷ []) in
    record {
      within = omega (arith, there.1);
      lines = subst (λ (q : List ℕ × List (Command g.row.A.Denot)). AreLines speaker q.0 q.1) (λ j. (whole j, sym added.2 j))
          (line_more speaker (take at text) run old added.0 i.lines there.2 is);
      count = omega (arith, count, i.few, c.add.new.self.commands.ok.0);
      many = omega (arith, count, i.many, there.0);
      few = omega (arith, count, i.few);
    }
