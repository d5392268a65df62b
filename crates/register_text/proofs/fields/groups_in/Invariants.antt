use Rattle.std.proofs.Common.{◌≡◌, ◌*◌, drop}
use Rattle.std.specs.Prelude.{map}
use Rattle.register_text.specs.Reading.{groups_in}
use Rattle.register_text.proofs.WordGroups.{with_left}
use Rattle.register_text.proofs.fields.groups_in.Given as goal

-- the groups so far and those that are left are the groups
abbrev pub invariant-loop-at : goal.invariant-loop-at
invariant-loop-at g l = with_left (λ w. w.now) l.groups.items (drop (3 * l.at) l.words) ≡ groups_in (map (λ w. w.now) l.words)
