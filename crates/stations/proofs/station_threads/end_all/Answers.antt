use Rattle.std.proofs.Common.{◌≡◌, [], ◌∷◌, ◌++◌, length, ap, ◌∙◌, subst, arith, append_assoc, length-append}
use Rattle.base.proofs.Lists.{fewer_before}
use Rattle.stations.proofs.Zipped.{of_all, one_more}
use Rattle.stations.proofs.station_threads.end_all.Goals as goal

pub loop-one-init : goal.loop-one-init
loop-one-init g c =
    let count = c.args.begun.ok.0 in
    record {
      in_turn = c.into_iter-one-iterator.ensures.into_iter_gives.0;
      rest = omega (arith, ap length c.into_iter-one-iterator.ensures.into_iter_gives.0, c.into_iter-one-iterator.ensures.into_iter_gives.1, count);
      count = ap length c.requires.new;
      room = omega (arith, c.requires.room, count);
      made = rw c.requires.new tt;
    }

pub push_reserved-requires : goal.push_reserved-requires
push_reserved-requires g c =
    let i = c.loop-one.invariant in
    let split = subst (λ l. c.loop-one.yielded ++ l ≡ c.args.begun.items) c.in-Some.ensures.steps.0 i.in_turn in
    let few = fewer_before c.loop-one.yielded c.in-Some.one c.next.new.self.rest.items c.args.begun.items split in
    omega (arith, few, i.count, i.room, c.loop-one.done.ok.0)

pub loop-one-preserved : goal.loop-one-preserved
loop-one-preserved g c =
    let i = c.loop-one.invariant in
    let done = c.loop-one.yielded in
    let one = c.in-Some.one in
    let rest = c.next.new.self.rest.items in
    let step = c.in-Some.ensures.steps in
    let split = subst (λ l. done ++ l ≡ c.args.begun.items) step.0 i.in_turn in
    let more = c.push_reserved.ensures.items in
    record {
      in_turn = append_assoc done (one ∷ []) rest ∙ split;
      rest = omega (arith, ap length step.0, step.1, i.rest);
      count = omega (arith, ap length more, length-append c.loop-one.done.items (c.end.result ∷ []), length-append done (one ∷ []), i.count);
      room = omega (arith, c.push_reserved.ensures.capacity, i.room);
      made = one_more done c.loop-one.done.items c.push_reserved.new.self.items one c.end.result
          _ more i.made c.end.ensures;
    }

pub returns : goal.returns
returns g c =
    let i = c.loop-one.invariant in
    of_all c.loop-one.yielded c.loop-one.one-iterator.rest.items c.args.begun.items c.loop-one.done.items
    _
    i.in_turn (omega (arith, i.rest, c.in-None.ensures.steps.0)) i.made
