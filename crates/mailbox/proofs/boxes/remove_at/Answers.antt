use Rattle.std.proofs.Common.{◌≡◌, rules, subst, ap, ◌∙◌, not, inl, inr}
use Rattle.std.specs.FinMap as finite
use Rattle.std.specs.List.{filter}
use Rattle.prefix_tree.specs.Change.{with_value}
use Rattle.mailbox.specs.Item.{is_at}
use Rattle.mailbox.specs.Inside.Boxes.{box_of, items_under, swept}
use Rattle.mailbox.proofs.Boxed.{with_box, box_or_none}
use Rattle.mailbox.proofs.boxes.remove_at.Goals as goal

pub returns-clause-left : goal.returns-clause-left
returns-clause-left g c =
    let boxes = c.args.inboxes.now in let p = c.path.result in
    let left : c.change.ensures.0 ≡ box_of (filter (λ w. not (is_at c.args.key.now w)) (items_under boxes p)) =
    elim (box_or_none (finite.get boxes p)) [
      | inl none ↦ let made = rw none at c.change.ensures.2 in rw none made.1
      | inr found ↦ let made = rw found.1 at c.change.ensures.2 in rw found.1 (search rules)
    ] in
    subst (λ q. c.change.new.self ≡ swept boxes q (is_at c.args.key.now)) c.path.ensures
    (c.change.ensures.1 ∙ ap (with_value boxes p) left ∙ with_box boxes p (filter (λ w. not (is_at c.args.key.now w)) (items_under boxes p)))
