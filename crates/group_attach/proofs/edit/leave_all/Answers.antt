use Rattle.std.proofs.Common.{◌≡◌, ◌∙◌, ap, rules, not, subst, sym}
use Rattle.std.specs.Prelude.{◌==◌}
use Rattle.std.specs.List.{filter}
use Rattle.std.proofs.lemmas.Fn.{filter_same}
use Rattle.group_attach.specs.InOrder.{IsInOrder}
use Rattle.group_attach.specs.Inside.ListedMap.{map_of}
use Rattle.group_attach.proofs.Filtered.{passing_in_order, retained_map}
use Rattle.group_attach.proofs.edit.leave_all.Goals as goal

pub returns-clause-in_order : goal.returns-clause-in_order
returns-clause-in_order g c =
    let left : c.retain.new.self.items ≡ filter (λ a. not (a.itsi == c.args.itsi)) c.args.entries.now.items =
    filter_same _ (λ a. not (a.itsi == c.args.itsi)) _ (λ x b f' k. search rules) _ _ c.retain.ensures.filtered in
    subst IsInOrder (sym left) (passing_in_order (λ e. not (e.0.0 == c.args.itsi)) c.args.entries.now.items c.requires.in_order)

pub returns-clause-changed : goal.returns-clause-changed
returns-clause-changed g c =
    let left : c.retain.new.self.items ≡ filter (λ a. not (a.itsi == c.args.itsi)) c.args.entries.now.items =
    filter_same _ (λ a. not (a.itsi == c.args.itsi)) _ (λ x b f' k. search rules) _ _ c.retain.ensures.filtered in
    ap map_of left ∙ retained_map (λ pair. not (pair.0 == c.args.itsi)) c.args.entries.now.items c.requires.in_order
