-- What a desk does at a listing. A is the allocator of the bits of commands and replies; nothing depends on it.
use Rattle.std.specs.Prelude.{◌≡◌, ◌⊎◌, ℕ, List, ◌++◌, Ok, Err}
use Rattle.identity.specs.Numbers.{Byte}
use Rattle.centre_core.specs.State.{State}
use Rattle.listings.specs.Texts.{LacksRoom, listing_text}
use Rattle.listings.specs.declared.listing.Listing.{Listing}
use Rattle.desk.specs.declared.outage.Outage.{Outage}
use Rattle.desk.specs.declared.outage.Outage.TheVariants.{Memory}
use Rattle.desk.specs.Rules.{Rules}

module _ {A W : Type 0} (rules : Rules A W) (s : W) (l : Listing) where
  -- the listing of a register that the desk may read was added to the text
  abbrev pub IsListed : List Byte → List Byte → W → Type 0
  IsListed before after t = (r : State) × rules.reads s (Ok r) t × (after ≡ before ++ listing_text r l)

  -- why nothing was added: the desk has no register to read, or memory ran out for the text
  abbrev pub IsUnlisted : ℕ → ℕ → Outage → W → Type 0
  IsUnlisted size capacity word t = rules.reads s (Err word) t ⊎ ((word ≡ Memory) × ((r : State) × rules.reads s (Ok r) t × LacksRoom size capacity r l))
