-- The bound on listings, over all stations of a run together.
use Rattle.std.specs.Prelude.{◌⊎◌, ◌≤◌, ◌<◌, ◌*◌, ◌+◌, ◌-◌, ℕ, Bool, true, false, min}
use Rattle.listings.specs.declared.listing.Listing.{Listing}
use Rattle.listings.specs.declared.listing.Listing.TheVariants as listing

-- Each listing takes a turn, but for a station's last accepted command, which walks through no table.
abbrev pub takes_turn : Listing → Bool
takes_turn (listing.Last station) = false
takes_turn other = true

-- the most nanoseconds of a listing's time that count (`opening`)
abbrev pub most_counted : ℕ
most_counted = 100000000

-- The moment from which the next listing may begin, in nanoseconds, as are the moments when this one began and ended. The rest between the two
-- is nine times as long as this listing took. Of its time at most `most_counted` counts.
abbrev pub opening : ℕ → ℕ → ℕ
opening began ended = ended + 9 * min (ended - began) most_counted

-- the most bytes of two or more unwritten texts beside which one more is kept (`MayKeep`)
abbrev pub spare_bytes : ℕ
spare_bytes = 4194304

-- One more text may be kept beside this many unwritten texts, which take this many bytes together.
abbrev pub MayKeep : ℕ → ℕ → Type 0
MayKeep texts bytes = (texts < 2) ⊎ (bytes ≤ spare_bytes)

-- More than two unwritten texts take at most the spare bytes and those of one text. No text was ever longer than `longest`.
abbrev pub AreBounded : ℕ → ℕ → ℕ → Type 0
AreBounded texts bytes longest = 2 < texts → bytes ≤ spare_bytes + longest
