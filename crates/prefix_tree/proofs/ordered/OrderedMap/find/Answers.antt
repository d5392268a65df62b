use Rattle.std.proofs.Common.{None, sym, ap, ◌∙◌}
use Rattle.std.specs.Option.{option_copied}
use Rattle.prefix_tree.specs.Inside.Ordered.{held}
use Rattle.prefix_tree.proofs.OrderedLaws.{found_in}
use Rattle.prefix_tree.proofs.ordered.OrderedMap.find.Goals as goal

pub returns-in_err-held : goal.returns-in_err-held
returns-in_err-held g c = ap option_copied c.from_residual.ensures ∙
    found_in c.self.inside.by_prefix.entries c.args.self.now c.new.result c.args.prefix.now c.self.view_is c.new.ensures None
    c.in_err-held.ensures.value

pub returns-in-Some : goal.returns-in-Some
returns-in-Some g c = sym c.in-Some.is ∙ ap (λ o. held (option_copied o)) (sym c.in_ok-held.was) ∙
    found_in c.self.inside.by_prefix.entries c.args.self.now c.new.result c.args.prefix.now c.self.view_is c.new.ensures _ c.get.ensures.value

pub returns-in-None : goal.returns-in-None
returns-in-None g c = sym c.in-None.is ∙ ap (λ o. held (option_copied o)) (sym c.in_ok-held.was) ∙
    found_in c.self.inside.by_prefix.entries c.args.self.now c.new.result c.args.prefix.now c.self.view_is c.new.ensures _ c.get.ensures.value
