-- The fuller of two mailboxes.
use Rattle.std.specs.Prelude.{ℕ, nat_le, Option, Some, None, if◌then◌else◌}
use Rattle.identity.specs.Numbers.{Itsi}

-- a destination and how many items wait for it: the one of the two with more items, the first if they have as many
abbrev pub fuller : Option (Itsi × ℕ) → Itsi × ℕ → Option (Itsi × ℕ)
fuller None box = Some box
fuller (Some first) box = if nat_le box.1 first.1 then Some first else Some box
