-- What a stop may leave at some moment of a run of calls.
use Rattle.std.specs.Prelude.{◌≡◌, ◌⊎◌, ℕ, zero, suc, ◌<◌, ◌≤◌, ◌+◌, List, [], ◌∷◌, ◌++◌, length}
use Rattle.sector_disk.specs.Numbers.{Byte, Sector, Sectors, Tick}
use Rattle.sector_disk.specs.Disk.{View, Elapses, IsImageOf, sector}
use Rattle.sector_disk.specs.declared.record.Call.{Call}
use Rattle.sector_disk.specs.declared.record.Call.TheVariants.{Write}

-- A stop at any moment from old to new leaves an image of which P holds.
pub record LeavesOnly (old new : View) (P : List (List Byte) → Type 0) : Type 0 where
  pub later : old.moment ≤ new.moment
  pub each : (image : List (List Byte)) → new.since old.moment image → P image
  -- the same for a run that began earlier
  pub before : (t : Tick) (image : List (List Byte)) → t ≤ old.moment → new.since t image → old.since t image ⊎ P image

-- new is old but in n sectors from at on, which may hold anything
pub record IsTorn (at : Sector) (n : Sectors) (old new : List (List Byte)) : Type 0 where
  pub count : length new ≡ length old
  pub others : (k : Sector) → (k < at) ⊎ (at + n ≤ k) → sector new k ≡ sector old k

-- all sectors before first, and all from end on, read as before
abbrev pub IsSameOutside : Sector → Sector → View → View → Type 0
IsSameOutside first end old new = (k : ℕ) → (k < first) ⊎ (end ≤ k) → sector new.reads k ≡ sector old.reads k

-- an image of the disk, but for n sectors from at on, which may hold anything
abbrev pub IsTornImage : View → Sector → Sectors → List (List Byte) → Type 0
IsTornImage disk at n image = (was : List (List Byte)) × IsImageOf disk was × IsTorn at n was image

-- Only reads were made: what a read gives, what is pending and the images stay the same.
pub record HasOnlyRead (old new : View) : Type 0 where
  pub honest : new.honest
  pub reads : new.reads ≡ old.reads
  pub pending : new.pending ≡ old.pending
  pub time : Elapses old new

-- the calls of a run of writes: each sector is written once, in order
unfoldable pub writes : Sector → Sectors → (ℕ → List Byte) → List Call
writes at zero bytes = []
writes at (suc n) bytes = writes at n bytes ++ Write (at + n) (bytes n) ∷ []

-- From old to new the disk has had exactly these calls.
abbrev pub HasCalled : View → View → List Call → Type 0
HasCalled old new calls = new.calls ≡ old.calls ++ calls

-- From old to new the disk has had a prefix of these calls, and no others.
pub record HasMade (old new : View) (calls : List Call) : Type 0 where
  pub made : List Call
  pub left : List Call
  pub prefix : calls ≡ made ++ left
  pub now : new.calls ≡ old.calls ++ made
