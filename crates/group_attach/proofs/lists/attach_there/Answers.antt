use Rattle.std.proofs.Common.{rules, refl, ap, sym, ◌∙◌, inl, inr}
use Rattle.std.specs.FinMap as finite
use Rattle.prefix_tree.specs.Change.{with_value}
use Rattle.group_attach.specs.Attached.{attached}
use Rattle.group_attach.proofs.FiledFacts.{by_answer, list_or_none, remove_nothing, written, unwritten}
use Rattle.group_attach.proofs.lists.attach_there.Goals as goal

pub returns-clause-before : goal.returns-clause-before
returns-clause-before g c =
    elim (list_or_none (finite.get c.args.lists.now c.args.path.now)) [
      | inl none ↦ let made = rw none at c.change.ensures.2 in rw made.0 tt
      | inr found ↦ by_answer (rw found.1 at c.change.ensures.2) (λ r is posted. rw (is, found.1) (search rules))
    ]

pub returns-clause-there : goal.returns-clause-there
returns-clause-there g c =
    elim (list_or_none (finite.get c.args.lists.now c.args.path.now)) [
      | inl none ↦ let made = rw none at c.change.ensures.2 in rw (made.0, none) refl
      | inr found ↦ by_answer (rw found.1 at c.change.ensures.2) (λ r is posted. rw (is, found.1) refl)
    ]

pub returns-clause-ok : goal.returns-clause-ok
returns-clause-ok g c =
    let f = c.args.lists.now in let p = c.args.path.now in
    elim (list_or_none (finite.get f p)) [
      | inl none ↦ let made = rw none at c.change.ensures.2 in rw made.0 tt
      | inr found ↦ by_answer (rw found.1 at c.change.ensures.2) (λ r is posted.
          rw (is, found.1) (written r f _ p c.change.ensures.0 (attached found.0 c.args.attachment) c.change.ensures.1 (search rules)))
    ]

pub returns-clause-err : goal.returns-clause-err
returns-clause-err g c =
    let f = c.args.lists.now in let p = c.args.path.now in
    elim (list_or_none (finite.get f p)) [
      | inl none ↦ let made = rw none at c.change.ensures.2 in rw made.0 tt
      | inr found ↦ by_answer (rw found.1 at c.change.ensures.2) (λ r is posted.
          rw is (unwritten r f _ p c.change.ensures.0 found.0 c.change.ensures.1 found.1 (search rules)))
    ]

pub returns-clause-absent : goal.returns-clause-absent
returns-clause-absent g c =
    let f = c.args.lists.now in let p = c.args.path.now in
    elim (list_or_none (finite.get f p)) [
      | inl none ↦ let made = rw none at c.change.ensures.2 in rw made.0 (c.change.ensures.1 ∙ ap (with_value f p) made.1 ∙ remove_nothing f p (sym none))
      | inr found ↦ by_answer (rw found.1 at c.change.ensures.2) (λ r is posted. rw is tt)
    ]

pub returns-clause-overwrites : goal.returns-clause-overwrites
returns-clause-overwrites g c =
    elim (list_or_none (finite.get c.args.lists.now c.args.path.now)) [
      | inl none ↦ let made = rw none at c.change.ensures.2 in rw made.0 (λ _. tt)
      | inr found ↦ by_answer (rw found.1 at c.change.ensures.2) (λ r is posted. rw (is, found.1) (search rules))
    ]
