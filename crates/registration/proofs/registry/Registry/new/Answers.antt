use Rattle.std.proofs.Common.{sym, ap, ◌∙◌}
use Rattle.std.specs.FinMap as map
use Rattle.std.specs.FinMap.{len-empty}
use Rattle.identity.specs.Path.{path_cmp}
use Rattle.registration.proofs.Whole.{none_whole}
use Rattle.registration.proofs.registry.Registry.new.Goals as goal

pub invariant_of-result : goal.invariant_of-result
invariant_of-result g c = (sym (ap map.len c.new_in-rules.ensures ∙ len-empty path_cmp _), sym (ap map.len c.new.ensures ∙ len-empty path_cmp _), none_whole _ c.new.ensures)
