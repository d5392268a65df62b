-- The two sides of a disk that is made ready for a register.
use Rattle.std.specs.Prelude.{◌≡◌, ◌+◌, ◌<◌, ℕ, false, length}
use Rattle.sector_disk.specs.Numbers.{Sector}
use Rattle.sector_disk.specs.Disk.{View, sector}
use Rattle.centre_core.specs.State.{State}
use Rattle.image_rows.specs.Rows.{rows_of}
use Rattle.gated_journal.specs.Calls.{closed_gate, open_gate}
use Rattle.checkpoint.specs.declared.layout.Layout.{Layout}
use Rattle.checkpoint.specs.declared.side.Side.TheVariants as side
use Rattle.checkpoint.specs.Calls.{row_sector}
use Rattle.checkpoint.specs.Layout.{half_at, root_at, slot_at}

-- nothing is pending; side A has an open root over the register's image, of epoch 1, and no record; side B has a closed root
pub record AreFilled (layout : Layout) (state : State) (disk : View) : Type 0 where
  pub durable : (k : Sector) → disk.pending k ≡ false
  pub rows : (k : ℕ) → k < length (rows_of 1 state) → sector disk.reads (slot_at layout side.A + k) ≡ row_sector (1, state) k
  pub root : sector disk.reads (root_at side.A) ≡ open_gate
  pub other : sector disk.reads (root_at side.B) ≡ closed_gate
  pub gate : sector disk.reads (half_at layout side.A) ≡ closed_gate
