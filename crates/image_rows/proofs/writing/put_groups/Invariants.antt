use Rattle.std.proofs.Common.{◌≡◌, ◌≤◌, ◌+◌, ◌*◌, ◌++◌, take}
use Rattle.std.specs.Prelude.{map}
use Rattle.std.specs.List.{flat_map}
use Rattle.image_rows.specs.RowText.{group_in, group_text}
use Rattle.image_rows.proofs.writing.put_groups.Given as goal

abbrev pub invariant-loop-group : goal.invariant-loop-group
invariant-loop-group g l = record {
  held : g.R.ByteSink.held l.out ≡ g.R.ByteSink.held l.initial.out ++ flat_map group_text (map group_in (take l.group-index l.groups));
  room : g.R.ByteSink.room l.initial.out ≤ g.R.ByteSink.room l.out + 7 * l.group-index;
}
