use Rattle.std.proofs.Common.{Some, None, sym, ap, subst, ◌∙◌}
use mathlib.Core.Bool.{false≢true}
use Rattle.std.specs.Option.{IsSome}
use Rattle.prefix_tree.specs.Inside.Ordered.{held}
use Rattle.prefix_tree.proofs.OrderedLaws.{found_in, changed_in}
use Rattle.prefix_tree.proofs.ordered.OrderedMap.insert.Goals as goal
use Rattle.prefix_tree.proofs.ordered.OrderedMap.insert.Goals.{in-Some, in-None}

pub returns-in_err-before-clause-overwrites : goal.returns-in_err-before-clause-overwrites
returns-in_err-before-clause-overwrites g c there =
    absurd (false≢true (subst IsSome
    (sym (found_in c.self.inside.by_prefix.entries c.args.self.now c.new.result c.args.prefix c.self.view_is c.new.ensures None
    (sym c.in_err-before.ensures.absent))) there))

pub returns-clause-before : goal.returns-clause-before
returns-clause-before g c = elim c.match-branch-2.branch [
  | in-Some w ↦ rw w.result-is
      (sym (ap held w.in-Some.is) ∙ found_in c.self.inside.by_prefix.entries c.args.self.now c.new.result c.args.prefix c.self.view_is c.new.ensures
      c.in_ok-before.field-0 c.in_ok-before.ensures.old)
  | in-None w ↦ rw w.result-is
      (sym (ap held w.in-None.is) ∙ found_in c.self.inside.by_prefix.entries c.args.self.now c.new.result c.args.prefix c.self.view_is c.new.ensures
      c.in_ok-before.field-0 c.in_ok-before.ensures.old)
]

pub returns-clause-ok : goal.returns-clause-ok
returns-clause-ok g c =
    let new = changed_in c.self.inside.by_prefix.entries c.args.self.now c.new.result c.args.prefix c.self.view_is c.new.ensures
    c.insert.new.self.entries (Some (record { value = Some c.args.value })) c.in_ok-before.ensures.updates.0 in
    elim c.match-branch-2.branch [
      | in-Some w ↦ rw w.result-is new
      | in-None w ↦ rw w.result-is new
    ]
