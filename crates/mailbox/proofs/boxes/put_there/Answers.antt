use Rattle.std.proofs.Common.{rules, inl, inr, ◌≡◌, false, sym, subst}
use Rattle.std.specs.Prelude.{OnErr}
use Rattle.std.specs.List.{list_any}
use Rattle.std.specs.FinMap as finite
use Rattle.mailbox.specs.Item.{is_at}
use Rattle.mailbox.specs.Inside.Boxes.{put_last}
use Rattle.mailbox.proofs.Boxed.{box_or_none, none_there, by_answer, written, unwritten}
use Rattle.mailbox.proofs.boxes.put_there.Goals as goal

pub returns-clause-ok : goal.returns-clause-ok
returns-clause-ok g c =
    let boxes = c.args.inboxes.now in let p = c.args.path.now in
    elim (box_or_none (finite.get boxes p)) [
      | inl none ↦ absurd (none_there none c.requires)
      | inr found ↦ by_answer (rw found.1 at c.change.ensures.2) (λ r is posted.
          rw (c.unwrap_or.ensures, is, found.1) (written r boxes _ p c.change.ensures.0 (put_last found.0 c.args.item) c.change.ensures.1 (search rules)))
    ]

pub returns-clause-err : goal.returns-clause-err
returns-clause-err g c =
    let boxes = c.args.inboxes.now in let p = c.args.path.now in
    elim (box_or_none (finite.get boxes p)) [
      | inl none ↦ absurd (none_there none c.requires)
      | inr found ↦ by_answer (rw found.1 at c.change.ensures.2) (λ r is posted.
          rw (c.unwrap_or.ensures, is) (unwritten r boxes _ p c.change.ensures.0 found.0 c.change.ensures.1 found.1 (search rules)))
    ]

pub returns-clause-memory : goal.returns-clause-memory
returns-clause-memory g c =
    elim (box_or_none (finite.get c.args.inboxes.now c.args.path.now)) [
      | inl none ↦ absurd (none_there none c.requires)
      | inr found ↦ by_answer (rw found.1 at c.change.ensures.2) (λ r is posted. rw (c.unwrap_or.ensures, is, found.1) (
          subst (λ p. OnErr p.0 (list_any (is_at c.args.item.key) found.0 ≡ false)) (sym posted.said-raw.1.1.1) posted.said-raw.1.1.0.ensures.1.1))
    ]
