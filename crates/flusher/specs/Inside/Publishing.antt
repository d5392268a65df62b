-- What is durable, and what of it is published.
use Rattle.std.specs.Prelude.{◌≡◌, ◌<◌, Bool, MatchBool, length}
use Rattle.flusher.specs.Shared.{commands_in}
use Rattle.flusher.specs.View.{durable_of}
use Rattle.flusher.specs.Inside.Lists.{IsAllPublished}
use Rattle.flusher.specs.declared.publishing.Publication.{Publication}

module _ {J : Type 0} where
  -- all that is durable is published
  abbrev pub IsCaughtUp : Publication J → Type 0
  IsCaughtUp p = IsAllPublished p.publisher p.unpublished.items

  -- If `all`, all that is durable is published. Else nothing new is published, though something was to be.
  abbrev pub HasShown : Bool → Publication J → Publication J → Type 0
  HasShown all old new = MatchBool all (new.publisher.published ≡ durable_of new)
      ((new.publisher.published ≡ old.publisher.published) × (0 < length (commands_in old.unpublished.items)))
