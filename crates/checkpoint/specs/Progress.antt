-- How far the rows of an image are written, and the calls of the disk that write the next ones.
use Rattle.std.specs.Prelude.{◌≡◌, ℕ, ◌+◌, ◌-◌, ◌≤◌, List, Result, drop, length, min}
use Rattle.identity.specs.Numbers.{Byte}
use Rattle.prefix_tree.specs.Following.{one_by_one}
use Rattle.sector_disk.specs.Numbers.{Sector}
use Rattle.sector_disk.specs.Disk.{View}
use Rattle.sector_disk.specs.Run.{writes}
use Rattle.sector_disk.specs.declared.disk.DiskError.{DiskError}
use Rattle.sector_disk.specs.declared.record.Call.{Call}
use Rattle.centre_core.specs.State.{State}
use Rattle.image_rows.specs.Numbers.{Epoch}
use Rattle.image_rows.specs.Rows.{rows_of}
use Rattle.image_rows.specs.Walking.{place_of, row_after}
use Rattle.checkpoint.specs.Calls.{row_sector}
use Rattle.checkpoint.specs.Layout.{slot_at}
use Rattle.checkpoint.specs.OnSide.{Base}
use Rattle.checkpoint.specs.Writing.{WritesRows}
use Rattle.checkpoint.specs.declared.layout.Layout.{Layout}
use Rattle.checkpoint.specs.declared.progress.ImageProgress.{ImageProgress}
use Rattle.checkpoint.specs.declared.side.Side.{Side}

-- the most rows that one call writes
abbrev pub most_rows : ℕ
most_rows = 8

-- The progress fits the image of this register and epoch. `written` is no more than the number of rows that the image has. The rows
-- of the register after the place `last` are the rows of the image after the first `written` ones.
pub record IsProgress (epoch : Epoch) (state : State) (progress : ImageProgress) : Type 0 where
  pub few : progress.written ≤ length (rows_of epoch state)
  pub on : one_by_one (row_after epoch state) place_of (length (rows_of epoch state) + 1 - progress.written) progress.last
      ≡ drop progress.written (rows_of epoch state)

-- how many rows of the image are written after the next call, where `written` are before it: 8 more, or all
abbrev pub written_after : Epoch → State → ℕ → ℕ
written_after epoch state written = min (written + most_rows) (length (rows_of epoch state))

-- how many rows the next call writes
abbrev pub next_rows : Epoch → State → ℕ → ℕ
next_rows epoch state written = written_after epoch state written - written

-- the sector that the next call writes as its row k, from 0 on
abbrev pub next_row : Base → ℕ → ℕ → List Byte
next_row base written k = row_sector base (written + k)

-- the rows of the next call, after the first `written` rows, are written, each once, in order, to the slot that begins at sector `at`
abbrev pub next_calls_at : Sector → Base → ℕ → List Call
next_calls_at at base written = writes (at + written) (next_rows base.0 base.1 written) (next_row base written)

-- the rows of the next call, after the first `written` rows, are written, each once, in order, to the slot of a side
abbrev pub next_calls : Layout → Side → Base → ℕ → List Call
next_calls layout side base written = next_calls_at (slot_at layout side) base written

-- what a call does that writes the next rows, after the first `written` ones, to the slot that begins at sector `at` (`WritesRows`)
abbrev pub WritesNextAt : View → View → Sector → Base → ℕ → Result Unit DiskError → Type 0
WritesNextAt old new at base written result = WritesRows old new (at + written) (next_rows base.0 base.1 written) (next_row base written) result

-- what a call does that writes the next rows, after those that `progress` counts, to the slot of a side (`WritesRows`)
abbrev pub WritesNext : View → View → Layout → Side → State → ImageProgress → Result Unit DiskError → Type 0
WritesNext old new layout side register progress result = WritesNextAt old new (slot_at layout side) (progress.epoch, register) progress.written result
