use Rattle.std.proofs.Common.{◌∙◌, ap}
use Rattle.std.specs.Option.{is_some}
use Rattle.image_rows.specs.Loading.{Loading, finished}
use Rattle.image_rows.specs.Held.{loading}
use Rattle.image_rows.proofs.PutRows.{whole_none, whole_some}
use Rattle.image_rows.proofs.loader.Loader.is_whole.Goals as goal

pub returns-in-None : goal.returns-in-None
returns-in-None g c = whole_none (loading c.self.inside.header c.self.inside.parts) c.in-None.is ∙ ap (λ (l : Loading). is_some (finished l)) c.self.view_is

pub returns-in-Some : goal.returns-in-Some
returns-in-Some g c = c.all_done.ensures ∙ whole_some (loading c.self.inside.header c.self.inside.parts) c.in-Some.header c.in-Some.is ∙ ap (λ (l : Loading). is_some (finished l)) c.self.view_is
