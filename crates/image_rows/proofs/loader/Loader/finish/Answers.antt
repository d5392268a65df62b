use Rattle.std.proofs.Common.{◌∙◌, Some, ap, sym}
use Rattle.centre_core.specs.State.{State}
use Rattle.image_rows.specs.Loading.{Loading, finished}
use Rattle.image_rows.specs.Held.{loading}
use Rattle.image_rows.proofs.Loaded.{is_state}
use Rattle.image_rows.proofs.loader.Loader.finish.Goals as goal

pub from_parts-requires-clause-state : goal.from_parts-requires-clause-state
from_parts-requires-clause-state g c =
    let same = c.self.view_is in
    (is_state (loading c.self.inside.header c.self.inside.parts) c.in-Some.epoch c.self.inside.parts c.self.invariant
    (ap finished same ∙ c.in-Some.ensures ∙ ap (λ (l : Loading). Some (c.in-Some.epoch, l.state)) (sym same))).0

pub from_parts-requires-clause-ranges : goal.from_parts-requires-clause-ranges
from_parts-requires-clause-ranges g c =
    let same = c.self.view_is in
    (is_state (loading c.self.inside.header c.self.inside.parts) c.in-Some.epoch c.self.inside.parts c.self.invariant
    (ap finished same ∙ c.in-Some.ensures ∙ ap (λ (l : Loading). Some (c.in-Some.epoch, l.state)) (sym same))).1

pub returns : goal.returns
returns g c = ap (λ (s : State). Some (c.in-Some.epoch, s)) (c.from_parts.ensures ∙ ap (λ (l : Loading). l.state) c.self.view_is) ∙ sym c.in-Some.ensures
