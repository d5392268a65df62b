use Rattle.std.proofs.Common.{List, ℕ, OnOk, arith, subst}
use Rattle.std.proofs.lemmas.Result.{IfErr-weaker}
use Rattle.desk.specs.Listed.{IsListed}
use Rattle.console.proofs.Answering.{lacks_lines}
use Rattle.console.proofs.progress.AnswerText.list.Goals as goal

pub returns-clause-listed : goal.returns-clause-listed
returns-clause-listed g c = subst (λ (before : List ℕ). OnOk c.list.result
    (IsListed g.D.Desk.rules (g.D.Desk.world c.args.desk.now) c.args.listing.now before c.list.new.out.items (g.D.Desk.world c.list.new.self)))
    c.clear.ensures.items c.list.ensures.listed

pub returns-clause-unlisted : goal.returns-clause-unlisted
returns-clause-unlisted g c = IfErr-weaker c.list.result _ _ (λ word why.
    lacks_lines g.D.Desk.rules (g.D.Desk.world c.args.desk.now) (g.D.Desk.world c.list.new.self) c.args.listing.now _ _ word
    (omega (arith, c.clear.ensures.len)) (omega (arith, c.clear.ensures.capacity, c.args.self.now.room)) why) c.list.ensures.unlisted
