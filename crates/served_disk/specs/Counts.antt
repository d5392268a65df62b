-- What is counted as the program works.
use Rattle.std.specs.Prelude.{◌≡◌, ◌-◌, ℕ, Bool, false, List, None, Option, filter, if◌then◌else◌, length, nat_eq, nat_lt, slice_get}
use Rattle.registration.specs.Numbers.{Station}
use Rattle.sector_disk.specs.Numbers.{Byte}
use Rattle.served_disk.specs.declared.tally.Tally.{Tally}

-- how many lines end in these bytes
abbrev pub ends_in : List Byte → ℕ
ends_in piece = length (filter (λ byte. nat_eq byte 10) piece)

-- the item of a station in a list that has one for each station, from station 1 on
abbrev pub at_station : {X : Type 0} → List X → Station → Option X
at_station all station = if nat_lt 0 station then slice_get all (station - 1) else None

-- a tally of what this word names, which is never reported if nobody watches
pub record IsTallyOf {R : Type 0} (word : List Byte) (watched : Bool) (tally : Tally R) : Type 0 where
  pub unit : tally.unit.now ≡ word
  pub unwatched : watched ≡ false → tally.pace.began ≡ None
