-- The rule of the views, and what a step shows its viewer.
use Rattle.std.specs.Prelude.{◌≡◌, ℕ, List}
use Rattle.std.specs.declared.alloc.Global.{Global}
use mathlib.Core.Option.{some}
use mathlib.Core.List.{IsPrefix}
use lib.ListN.{get_elem?}
use Rattle.logbook.specs.Pages.{Book}
use Rattle.centre_core.specs.Asked.{Asked}
use Rattle.centre_core.specs.State.{State}
use Rattle.centre_core.specs.History.{after}
use Rattle.centre_core.specs.Histories.{IsHistory}
use Rattle.snapshots.specs.declared.snapshot.Snapshot.{Snapshot}
use Rattle.snapshots.specs.declared.rule.CopyView.{CopyView}

-- the view of who has seen this list
abbrev pub view_with : List (Asked Global) → CopyView
view_with seen = record { seen = seen }

-- the copy is the register after its list of accepted commands
abbrev pub IsSnapshot : State → Book → Snapshot → Type 0
IsSnapshot base book x = (x.register ≡ after base x.list.log) × IsHistory base x.list.log × (x.list.book ≡ book)

-- the published copy is a snapshot (`IsSnapshot`), and its list begins with what each viewer has seen
abbrev pub IsSeenBy : State → Book → Snapshot → List CopyView → Type 0
IsSeenBy base book x views = IsSnapshot base book x × ((seat : ℕ) (v : CopyView) → get_elem? views seat ≡ some v → IsPrefix v.seen x.list.log)

-- the list of the published copy is now seen; it begins with all that was seen before
abbrev pub Sees : State → Book → CopyView → Snapshot → CopyView → Type 0
Sees base book v y w = (w ≡ view_with y.list.log) × IsSnapshot base book y × IsPrefix v.seen y.list.log
