use Rattle.std.proofs.Common.{rules, ◌≡◌, true, take, sym, subst}
use Rattle.std.specs.Prelude.{All}
use Rattle.std.proofs.lemmas.List.{take_all}
use Rattle.std.proofs.lemmas.List.Elements.{All-push}
use Rattle.std.specs.declared.alloc.Global.{Global}
use Rattle.base.proofs.Lists.{take_one}
use Rattle.centre_core.specs.Asked.{Asked}
use Rattle.stations.specs.Orders.{is_allowed}
use Rattle.stations.proofs.session_desk.are_of.Goals as goal

pub loop-k-preserved : goal.loop-k-preserved
loop-k-preserved c =
    let Of : Asked Global → Type 0 = λ command. (command.station ≡ c.args.station) × (is_allowed c.args.orders command ≡ true) in
    let command = c.index-commands-k.result in
    let same : Of command = (search rules, search rules) in
    subst (All Of) (sym (take_one c.args.commands.now c.loop-k.k command c.loop-k-test.true c.index-commands-k.is))
    (All-push Of (take c.loop-k.k c.args.commands.now) command c.loop-k.invariant same)

pub returns : goal.returns
returns c = λ yes.
    subst (All (λ (command : Asked Global). (command.station ≡ c.args.station) × (is_allowed c.args.orders command ≡ true)))
    (take_all c.loop-k.k c.args.commands.now c.loop-k-test.false) c.loop-k.invariant
