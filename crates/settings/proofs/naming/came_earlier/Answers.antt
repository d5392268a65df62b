use Rattle.std.proofs.Common.{◌∙◌, [], take, sym}
use Rattle.std.proofs.lemmas.List.{take-map}
use Rattle.std.proofs.Math.ListN.{get_or-map}
use Rattle.settings.specs.Naming.{is_among}
use Rattle.settings.proofs.Names.{among_flipped}
use Rattle.settings.proofs.naming.came_earlier.Goals as goal

pub returns : goal.returns
returns c =
    c.contains.ensures.value ∙ among_flipped (take c.args.index c.args.names.now) _
    ∙ (λ j. is_among (sym (take-map (λ name. name.now) c.args.index c.args.names.now) j) (sym (get_or-map (λ name. name.now) c.args.names.now c.args.index (record { ref_ptr = (0, 0); now = [] })) j))
