use Rattle.std.proofs.Common.{◌≡◌, rules, ap, ◌∙◌, inl, inr}
use Rattle.std.specs.FinMap as finite
use Rattle.prefix_tree.specs.Change.{with_value}
use Rattle.group_attach.specs.Inside.Filed.{unless_empty, ended, under}
use Rattle.group_attach.proofs.FiledFacts.{with_unless_empty, none_ended, list_or_none}
use Rattle.group_attach.proofs.lists.end_under.Goals as goal

pub returns : goal.returns
returns g c =
    let f = c.args.lists.now in let p = c.args.path.now in
    let left : c.change.ensures.0 ≡ unless_empty (ended (under f p) c.args.itsi c.args.ending) =
    elim (list_or_none (finite.get f p)) [
      | inl none ↦ let made = rw none at c.change.ensures.2 in rw (none, none_ended c.args.itsi c.args.ending) made.1
      | inr found ↦ let made = rw found.1 at c.change.ensures.2 in rw found.1 (search rules)
    ] in
    c.change.ensures.1 ∙ ap (with_value f p) left ∙ with_unless_empty f p (ended (under f p) c.args.itsi c.args.ending)
