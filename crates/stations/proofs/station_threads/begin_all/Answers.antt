use Rattle.std.proofs.Common.{◌≡◌, ◌+◌, [], ◌∷◌, ◌++◌, length, ap, ◌∙◌, subst, arith, append_assoc, length-append}
use Rattle.base.proofs.Lists.{fewer_before}
use Rattle.stations.proofs.Zipped.{of_all, one_more, whole}
use Rattle.stations.proofs.station_threads.begin_all.Goals as goal

pub loop-job-init : goal.loop-job-init
loop-job-init g c =
    let count = c.args.jobs.ok.0 in
    record {
      in_turn = c.into_iter-job-iterator.ensures.into_iter_gives.0;
      rest = omega (arith, ap length c.into_iter-job-iterator.ensures.into_iter_gives.0, c.into_iter-job-iterator.ensures.into_iter_gives.1, count);
      count = ap length c.requires.new;
      room = omega (arith, c.requires.room, count);
      made = rw c.requires.new tt;
    }

pub push_reserved-requires : goal.push_reserved-requires
push_reserved-requires g c =
    let i = c.loop-job.invariant in
    let split = subst (λ l. c.loop-job.yielded ++ l ≡ c.args.jobs.items) c.in-Some.ensures.steps.0 i.in_turn in
    let few = fewer_before c.loop-job.yielded c.in-Some.job c.next.new.self.rest.items c.args.jobs.items split in
    omega (arith, few, i.count, i.room, c.loop-job.begun.ok.0)

pub loop-job-preserved : goal.loop-job-preserved
loop-job-preserved g c =
    let i = c.loop-job.invariant in
    let done = c.loop-job.yielded in
    let job = c.in-Some.job in
    let rest = c.next.new.self.rest.items in
    let step = c.in-Some.ensures.steps in
    let split = subst (λ l. done ++ l ≡ c.args.jobs.items) step.0 i.in_turn in
    let more = c.push_reserved.ensures.items in
    record {
      in_turn = append_assoc done (job ∷ []) rest ∙ split;
      rest = omega (arith, ap length step.0, step.1, i.rest);
      count = omega (arith, ap length more, length-append c.loop-job.begun.items (c.begin.result ∷ []), length-append done (job ∷ []), i.count);
      room = omega (arith, c.push_reserved.ensures.capacity, i.room);
      made = one_more done c.loop-job.begun.items c.push_reserved.new.self.items job c.begin.result
          _ more i.made c.begin.ensures;
    }

pub returns-clause-begun : goal.returns-clause-begun
returns-clause-begun g c =
    let i = c.loop-job.invariant in
    of_all c.loop-job.yielded c.loop-job.job-iterator.rest.items c.args.jobs.items c.loop-job.begun.items _
    i.in_turn (omega (arith, i.rest, c.in-None.ensures.steps.0)) i.made

pub returns-clause-count : goal.returns-clause-count
returns-clause-count g c =
    let i = c.loop-job.invariant in
    let all = whole c.loop-job.yielded c.loop-job.job-iterator.rest.items c.args.jobs.items i.in_turn (omega (arith, i.rest, c.in-None.ensures.steps.0)) in
    omega (arith, c.loop-job.begun.ok.0, c.args.jobs.ok.0, i.count, ap length all)
