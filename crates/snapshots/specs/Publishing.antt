-- What one publication does.
use Rattle.std.specs.Prelude.{◌≡◌, ℕ, List, [], fold, Result, MatchResult}
use Rattle.std.specs.declared.alloc.Global.{Global}
use mathlib.Core.List.{IsPrefix}
use Rattle.logbook.specs.declared.tokens.Seen.{Seen}
use Rattle.logbook.specs.Pages.{Book}
use Rattle.centre_core.specs.Asked.{Asked}
use Rattle.centre_core.specs.State.{State}
use Rattle.centre_core.specs.History.{after}
use Rattle.centre_core.specs.Histories.{IsHistory}
use Rattle.snapshots.specs.declared.log.LogRule.{LogRule}
use Rattle.snapshots.specs.declared.snapshot.Snapshot.{Snapshot}
use Rattle.snapshots.specs.declared.snapshot.Change.{Change}
use Rattle.snapshots.specs.Changes.{after_change}

-- the state and the list of this copy after these changes
abbrev pub after_changes : Snapshot → List Change → State × Seen (Asked Global) ℕ LogRule
after_changes x changes = fold (after_change (λ (c : Change). c.list)) (x.register, x.list) changes

-- after these changes the copy is a snapshot too, of a list that begins with its current one
abbrev pub IsNextSnapshot : State → Book → Snapshot → List Change → Type 0
IsNextSnapshot base book x changes =
    let s = after_changes x changes in
    (s.0 ≡ after base s.1.log) × IsHistory base s.1.log × (s.1.book ≡ book) × IsPrefix x.list.log s.1.log

-- the published copy y has all changes of x, and none is left; or it is still x, and all are left
abbrev pub HasPublished : {T E : Type 0} → Snapshot → List Change → Snapshot → List Change → Result T E → Type 0
HasPublished x changes y left result =
    MatchResult result (λ _. ((y.register, y.list) ≡ after_changes x changes) × (left ≡ []))
    (λ _. (y ≡ x) × (left ≡ changes))
