use Rattle.std.proofs.Common.{sym, ap, ◌∙◌}
use Rattle.std.specs.FinMap as map
use Rattle.std.specs.Option.{option_map}
use Rattle.identity.specs.Path.{path_cmp, id_path}
use Rattle.prefix_tree.specs.Following.{next_of}
use Rattle.listings.specs.Inside.Walking.{radio_after}
use Rattle.listings.proofs.Under.{all_under}
use Rattle.listings.proofs.walk.radio_after.Goals as goal

pub returns-in-None : goal.returns-in-None
returns-in-None g c =
    let all = ap (λ es. next_of path_cmp (λ e. e.0) es (option_map id_path c.args.after)) (all_under (map.entries c.args.registry.now.radios)) in
    c.next_radio.ensures ∙ sym (ap (λ prefix. radio_after c.args.registry.now prefix c.args.after) c.in-None.is ∙ all)
