use Rattle.std.proofs.Common.{ap, ◌∙◌, sym, subst}
use Rattle.group_attach.specs.Inside.Filed.{gathered, IsFiled}
use Rattle.group_attach.proofs.Gathering.{none_gathered, none_filed}
use Rattle.group_attach.proofs.index.Index.new.Goals as goal

pub invariant_of-result : goal.invariant_of-result
invariant_of-result g c = subst (IsFiled g.S.Side.key) (sym c.new.ensures) (none_filed g.S.Side.key)

pub returns : goal.returns
returns g c = ap (gathered g.S.Side.key) c.new.ensures ∙ none_gathered g.S.Side.key
