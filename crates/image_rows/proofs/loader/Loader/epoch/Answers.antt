use Rattle.std.proofs.Common.{◌≡◌, ◌∙◌, Some, None, true, false, rules, ap, sym}
use Rattle.image_rows.specs.Loading.{finished}
use Rattle.image_rows.specs.Held.{loading}
use Rattle.image_rows.proofs.PutRows.{finished_none, finished_not, finished_so}
use Rattle.image_rows.proofs.loader.Loader.epoch.Goals as goal

pub returns-in_default : goal.returns-in_default
returns-in_default g c =
    let none : c.self.inside.header ≡ None = search rules in
    ap finished (sym c.self.view_is) ∙ finished_none (loading c.self.inside.header c.self.inside.parts) none

pub returns-then-not-all_done : goal.returns-then-not-all_done
returns-then-not-all_done g c =
    let not_so : c.all_done.result ≡ false = search rules in
    ap finished (sym c.self.view_is) ∙ finished_not (loading c.self.inside.header c.self.inside.parts) c.in-Some.header c.in-Some.is (sym c.all_done.ensures ∙ not_so)

pub returns : goal.returns
returns g c =
    let so : c.all_done.result ≡ true = search rules in
    ap finished (sym c.self.view_is) ∙ finished_so (loading c.self.inside.header c.self.inside.parts) c.in-Some.header c.in-Some.is (sym c.all_done.ensures ∙ so)
    ∙ (λ i. Some ((sym c.header.view_is i).epoch, (c.self.view_is i).state))
