-- What a publisher has, and what it does not have yet.
use Rattle.std.specs.Prelude.{◌≡◌, List, ◌++◌, []}
use Rattle.std.specs.declared.alloc.Global.{Global}
use Rattle.std.specs.declared.sync.Arc.{Arc}
use Rattle.centre_core.specs.Asked.{Asked}
use Rattle.snapshots.specs.Changes.{PublisherView}
use Rattle.flusher.specs.Shared.{commands_in}

-- all commands that the publisher has, and then those that it does not have yet, in order
abbrev pub all_of : PublisherView → List (Arc (Asked Global) Global) → List (Asked Global)
all_of publisher unpublished = publisher.appended ++ commands_in unpublished

-- all commands that the publisher has are published, and there are none that it does not have yet
abbrev pub IsAllPublished : PublisherView → List (Arc (Asked Global) Global) → Type 0
IsAllPublished publisher unpublished = (publisher.published ≡ publisher.appended) × (unpublished ≡ [])
