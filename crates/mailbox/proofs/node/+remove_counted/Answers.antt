use Rattle.std.proofs.Common.{sym, subst, ◌∙◌, arith, rules}
use Rattle.std.specs.Prelude.{IsSome}
use Rattle.mailbox.specs.Inside.Places.{all_of}
use Rattle.mailbox.proofs.Sides.{earlier_order, later_order, earlier_shorter, later_shorter, removed_earlier, removed_later, removed_here, is_earlier, is_later}
use Rattle.mailbox.proofs.node.+remove_counted.Goals as goal
use Rattle.mailbox.proofs.node.+remove_counted.Goals.{in-Less, in-Greater}

pub remove_counted-spare-requires : goal.remove_counted-spare-requires
remove_counted-spare-requires g t c κs within = (
  omega (
    arith,
    c.decreases,
    earlier_shorter _ _ _ (sym c.in-Some.ensures.value) c.deref_mut.ensures.value c.take_apart-own.result.0
        c.take_apart-own.result.1 c.take_apart-own.result.2 c.take_apart-own.ensures.parts,
  ),
  (
    search (rules),
    (
      search (rules),
      earlier_order _ _ _ (sym c.in-Some.ensures.value) c.deref_mut.ensures.value c.take_apart-own.result.0
          c.take_apart-own.result.1 c.take_apart-own.result.2 c.take_apart-own.ensures.parts c.requires,
    ),
  ),
)

pub remove_counted-spare-requires-in-Greater : goal.remove_counted-spare-requires-in-Greater
remove_counted-spare-requires-in-Greater g t c κs within = (
  omega (
    arith,
    c.decreases,
    later_shorter _ _ _ (sym c.in-Some.ensures.value) c.deref_mut.ensures.value c.take_apart-own.result.0
        c.take_apart-own.result.1 c.take_apart-own.result.2 c.take_apart-own.ensures.parts,
  ),
  (
    search (rules),
    (
      search (rules),
      later_order _ _ _ (sym c.in-Some.ensures.value) c.deref_mut.ensures.value c.take_apart-own.result.0
          c.take_apart-own.result.1 c.take_apart-own.result.2 c.take_apart-own.ensures.parts c.requires,
    ),
  ),
)

pub returns-in-Equal-clause-places : goal.returns-in-Equal-clause-places
returns-in-Equal-clause-places g t c = c.join.ensures.places ∙
    removed_here _ _ _ (sym c.in-Some.ensures.value) c.deref_mut.ensures.value c.take_apart-own.result.0 c.take_apart-own.result.1
    c.take_apart-own.result.2 c.take_apart-own.ensures.parts c.requires c.args.place.now (sym c.in-Equal.ensures)

pub returns-clause-places : goal.returns-clause-places
returns-clause-places g t c = c.balanced.ensures.places ∙ elim c.match-cmp.branch [
  | in-Less w ↦ (λ i. all_of c.take_apart-own.result.0 (w.earlier-is i) (w.later-is i)) ∙
      removed_earlier _ _ _ (sym c.in-Some.ensures.value) c.deref_mut.ensures.value c.take_apart-own.result.0 c.take_apart-own.result.1
      c.take_apart-own.result.2 c.take_apart-own.ensures.parts c.requires c.args.place.now (sym w.in-Less.ensures) _
      w.remove_counted-spare.ensures.places
  | in-Greater w ↦ (λ i. all_of c.take_apart-own.result.0 (w.earlier-is i) (w.later-is i)) ∙
      removed_later _ _ _ (sym c.in-Some.ensures.value) c.deref_mut.ensures.value c.take_apart-own.result.0 c.take_apart-own.result.1
      c.take_apart-own.result.2 c.take_apart-own.ensures.parts c.requires c.args.place.now (sym w.in-Greater.ensures) _
      w.remove_counted-spare-in-Greater.ensures.places
]

pub returns-clause-there : goal.returns-clause-there
returns-clause-there g t c any = elim c.match-cmp.branch [
  | in-Less w ↦ subst IsSome (sym w.spare-is)
      (w.remove_counted-spare.ensures.there
      (is_earlier _ _ _ (sym c.in-Some.ensures.value) c.deref_mut.ensures.value c.take_apart-own.result.0 c.take_apart-own.result.1
      c.take_apart-own.result.2 c.take_apart-own.ensures.parts c.requires c.args.place.now (sym w.in-Less.ensures) any))
  | in-Greater w ↦ subst IsSome (sym w.spare-is)
      (w.remove_counted-spare-in-Greater.ensures.there
      (is_later _ _ _ (sym c.in-Some.ensures.value) c.deref_mut.ensures.value c.take_apart-own.result.0 c.take_apart-own.result.1
      c.take_apart-own.result.2 c.take_apart-own.ensures.parts c.requires c.args.place.now (sym w.in-Greater.ensures) any))
]
