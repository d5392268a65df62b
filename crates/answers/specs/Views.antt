-- The rule of the channel: what was sent is what was received, followed by what the channel holds.
use Rattle.std.specs.Prelude.{◌≡◌, ℕ, Bool, true, List, ◌++◌}
use mathlib.Core.Option.{some}
use lib.ListN.{get_elem?}
use Rattle.crossbeam_channel.specs.Claims.{Pass, view}
use Rattle.answers.specs.declared.rule.ChannelView.{ChannelView}

module _ {T : Type 0} where
  -- a view with these parts
  abbrev pub view_with : Bool → Bool → List T → List T → ChannelView T
  view_with sends receives sent received = record { sends = sends; receives = receives; sent = sent; received = received }

  -- a pass that sends is the writer's and has the list of what was sent; one that receives is the reader's and has what was received
  abbrev pub Fits : ℕ → ℕ → List T → List T → ℕ → ChannelView T → Type 0
  Fits writer reader sent received pass v = (v.sends ≡ true → (pass ≡ writer) × (v.sent ≡ sent))
      × (v.receives ≡ true → (pass ≡ reader) × (v.received ≡ received))

  -- one pass writes, one reads, and what was sent is what was received, followed by what the channel holds
  abbrev pub IsInOrder : List T → List (ChannelView T) → Type 0
  IsInOrder items views = (writer : ℕ) × (reader : ℕ) × (sent : List T) × (received : List T) × (sent ≡ received ++ items)
      × ((pass : ℕ) (v : ChannelView T) → get_elem? views pass ≡ some v → Fits writer reader sent received pass v)

  -- what was sent, as the holder of the pass knows it
  abbrev pub sent_of : Pass T (ChannelView T) → List T
  sent_of p = (view p).sent

  -- what was received, as the holder of the pass knows it
  abbrev pub received_of : Pass T (ChannelView T) → List T
  received_of p = (view p).received
