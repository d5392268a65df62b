use Rattle.std.proofs.Common.{rules, ◌≡◌, ◌+◌, ◌-◌, ◌≤◌, ◌++◌, ◌∷◌, [], vec_capacity, vec_len, arith}
use Rattle.recovery.specs.declared.outcome.Outcome.TheVariants.{NoMemory}
use Rattle.recovery.proofs.Batches.{filled_one}
use Rattle.recovery.proofs.batch.fill_up.Goals as goal

pub loop-preserved : goal.loop-preserved
loop-preserved g c =
    let old = c.args.outcomes.now in
    let n = c.loop.counter - vec_len old in
    let more : n + 1 ≡ c.loop.counter + 1 - vec_len old = omega (arith, c.loop.invariant.some) in
    let pushed : c.push.new.self.items ≡ c.loop.outcomes.items ++ NoMemory ∷ [] = search rules in
    let wide : vec_capacity c.loop.outcomes ≤ vec_capacity c.push.new.self = search rules in
    let places : vec_len c.push.new.self ≡ vec_len c.loop.outcomes + 1 = search rules in
    record {
      items = filled_one old.items c.loop.outcomes.items c.push.new.self.items n (c.loop.counter + 1 - vec_len old) NoMemory c.loop.invariant.items pushed more;
      places = omega (arith, places, c.loop.invariant.places);
      some = omega (arith, c.loop.invariant.some);
      most = omega (arith, c.loop-test.true);
      capacity = omega (arith, wide, c.loop.invariant.capacity);
    }
