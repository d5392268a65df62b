use Rattle.std.proofs.Common.{◌≡◌, ◌≤◌, ◌++◌, List, vec_capacity}
use Rattle.std.specs.List.{flat_map}
use Rattle.listings.specs.Entries.{Entry, entries_of}
use Rattle.listings.specs.Dump.{dumped_line}
use Rattle.listings.proofs.Walks.{left}
use Rattle.listings.proofs.dump.put_rows.Given as goal

-- these entries are written, and those after the last place are left
abbrev pub invariant-loop : goal.invariant-loop
invariant-loop g l = (done : List Entry) × (l.out.items ≡ l.initial.out.items ++ flat_map (dumped_line l.register.groups) done)
    × (done ++ left l.register l.table l.counter l.after ≡ entries_of l.register l.table) × (vec_capacity l.initial.out ≤ vec_capacity l.out)
