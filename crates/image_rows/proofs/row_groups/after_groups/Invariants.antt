use Rattle.std.proofs.Common.{◌≡◌, ◌-◌}
use Rattle.image_rows.proofs.GroupSteps.{after_groups}
use Rattle.image_rows.proofs.row_groups.after_groups.Given as goal

abbrev pub invariant-loop : goal.invariant-loop
invariant-loop l = after_groups l.count l.bytes ≡ after_groups (l.count - l.counter) l.rest
