use Rattle.bench_registers.specs.Building.{EndsBy}
use Rattle.bench_registers.proofs.building.put_items.Given as goal

abbrev pub invariant-loop : goal.invariant-loop
invariant-loop l = EndsBy l.to l.last
