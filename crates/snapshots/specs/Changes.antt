-- What a publisher is modelled as, and what its pending changes lead to.
use Rattle.std.specs.Prelude.{ℕ, List}
use Rattle.std.specs.Arc.{arc_value}
use Rattle.std.specs.declared.alloc.Global.{Global}
use Rattle.centre_core.specs.Asked.{Asked}
use Rattle.centre_core.specs.State.{State}
use Rattle.centre_core.specs.History.{next}
use Rattle.snapshots.specs.declared.snapshot.Change.{Change}

-- the list that is published, the list of all that was appended, and how many calls were out of memory
pub record PublisherView : Type 0 where
  pub published : List (Asked Global)
  pub appended : List (Asked Global)
  pub refusals : ℕ

-- a publisher with these lists and this count
abbrev pub publisher_view : List (Asked Global) → List (Asked Global) → ℕ → PublisherView
publisher_view published appended refusals = record { published = published; appended = appended; refusals = refusals }

-- a state and a list after a change
abbrev pub after_change : {L : Type 0} → (Change → L) → State × L → Change → State × L
after_change list_of s c = (next s.0 (arc_value c.command), list_of c)
