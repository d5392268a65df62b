use Rattle.std.proofs.Common.{◌≡◌, ◌∙◌, ap, rules, not, subst, sym}
use Rattle.std.specs.Prelude.{◌&&◌, ◌==◌}
use Rattle.std.specs.List.{filter}
use Rattle.std.proofs.lemmas.Fn.{filter_same}
use Rattle.group_attach.specs.Applied.{is_dropped}
use Rattle.group_attach.specs.InOrder.{IsInOrder}
use Rattle.group_attach.specs.Inside.ListedMap.{map_of}
use Rattle.group_attach.proofs.Filtered.{passing_in_order, passing_map}
use Rattle.group_attach.proofs.edit.drop_ended.Goals as goal

pub returns-clause-in_order : goal.returns-clause-in_order
returns-clause-in_order g c =
    let left : c.retain.new.self.items ≡ filter (λ a. not ((a.itsi == c.args.itsi) && is_dropped c.args.update a.lifetime)) c.args.entries.now.items =
    filter_same _ (λ a. not ((a.itsi == c.args.itsi) && is_dropped c.args.update a.lifetime)) _ (λ x b f' k. search rules) _ _ c.retain.ensures.filtered in
    subst IsInOrder (sym left) (passing_in_order (λ e. not ((e.0.0 == c.args.itsi) && is_dropped c.args.update e.1.1)) c.args.entries.now.items c.requires.in_order)

pub returns-clause-changed : goal.returns-clause-changed
returns-clause-changed g c =
    let left : c.retain.new.self.items ≡ filter (λ a. not ((a.itsi == c.args.itsi) && is_dropped c.args.update a.lifetime)) c.args.entries.now.items =
    filter_same _ (λ a. not ((a.itsi == c.args.itsi) && is_dropped c.args.update a.lifetime)) _ (λ x b f' k. search rules) _ _ c.retain.ensures.filtered in
    ap map_of left ∙ passing_map (λ e. not ((e.0.0 == c.args.itsi) && is_dropped c.args.update e.1.1)) c.args.entries.now.items c.requires.in_order
