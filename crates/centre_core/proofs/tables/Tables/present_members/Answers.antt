use Rattle.std.proofs.Common.{◌≡◌, ap, rules, ◌∙◌}
use Rattle.std.specs.List.{filter}
use Rattle.std.proofs.lemmas.Fn.{filter_same}
use Rattle.registration.specs.Registered.{radio_of, is_present}
use Rattle.centre_core.proofs.tables.Tables.present_members.Goals as goal

pub returns : goal.returns
returns g c =
    let left : c.retain.new.self.items ≡ filter (λ a. is_present (radio_of c.self.inside.registry a.itsi)) c.in_ok-members.members.items =
    filter_same _ (λ a. is_present (radio_of c.self.inside.registry a.itsi)) _ (λ x b f' k. search rules) _ _ c.retain.ensures.filtered in
    rw (← c.self.view_is) (left ∙ ap (filter (λ a. is_present (radio_of c.self.inside.registry a.itsi))) c.in_ok-members.ensures)
