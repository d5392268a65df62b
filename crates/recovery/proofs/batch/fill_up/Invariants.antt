use Rattle.std.proofs.Common.{◌≡◌, ◌≤◌, ◌-◌, ◌++◌, replicate, vec_capacity, vec_len}
use Rattle.recovery.specs.declared.outcome.Outcome.TheVariants.{NoMemory}
use Rattle.recovery.proofs.batch.fill_up.Given as goal

abbrev pub invariant-loop : goal.invariant-loop
invariant-loop g l = record {
  items : l.outcomes.items ≡ l.initial.outcomes.items ++ replicate (l.counter - vec_len l.initial.outcomes) NoMemory;
  places : vec_len l.outcomes ≡ l.counter;
  some : vec_len l.initial.outcomes ≤ l.counter;
  most : l.counter ≤ l.count;
  capacity : vec_capacity l.initial.outcomes ≤ vec_capacity l.outcomes;
}
