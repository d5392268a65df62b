use Rattle.std.proofs.Common.{◌≡◌, length, take, drop}
use Rattle.std.specs.Prelude.{map as each}
use Rattle.image_rows.specs.Loading.{attachment_in}
use Rattle.image_rows.proofs.attached.fill.Given as goal

abbrev pub invariant-loop-place : goal.invariant-loop-place
invariant-loop-place l = record {
  same : length l.list ≡ length l.initial.list;
  taken : take l.place l.list ≡ each (attachment_in l.itsi) (take l.place l.initial.groups);
  rest : l.groups ≡ drop l.place l.initial.groups;
}
