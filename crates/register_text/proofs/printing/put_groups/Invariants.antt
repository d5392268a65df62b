use Rattle.std.proofs.Common.{◌≡◌, ◌++◌, length}
use Rattle.identity.specs.NumberText.{IsPrefixOf}
use Rattle.register_text.proofs.Groups.{groups_text}
use Rattle.register_text.proofs.printing.put_groups.Given as goal

-- the groups so far, and those that are left
abbrev pub invariant-loop-group : goal.invariant-loop-group
invariant-loop-group g l = record {
  text : l.out.items ++ groups_text l.left ≡ l.initial.out.items ++ groups_text l.fn.groups;
  prefix : IsPrefixOf l.initial.out.items l.out.items;
}

abbrev pub decreases-loop-group : goal.decreases-loop-group
decreases-loop-group g l = length l.left
