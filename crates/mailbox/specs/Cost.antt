-- What it costs to find and to remove expired items, in visited nodes of the tree of places.
use Rattle.std.specs.Prelude.{ℕ, ◌+◌, ◌*◌, ◌<◌, ◌/◌, ◌^◌, length}
use Rattle.mailbox.specs.Values.{Mailed}

-- every tree of the places of all items is lower than this: its height is at most twice the base-2 logarithm of one more than their number
abbrev pub IsAboveAll : ℕ → Mailed → Type 0
IsAboveAll height m = length m.items + 1 < 2 ^ (height / 2)

-- how many steps it takes at most to find the next item that has ended: four ways down, and one step
abbrev pub next_due_steps : ℕ → ℕ
next_due_steps height = 4 * height + 1

-- how many steps it takes to remove so many items: for each two ways down to find it and one to remove it, and one step at the end
abbrev pub expiry_steps : ℕ → ℕ → ℕ
expiry_steps height gone = 3 * height * gone + 1
