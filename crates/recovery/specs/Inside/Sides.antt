-- The two sides of a formatted disk.
use Rattle.std.specs.Prelude.{◌≡◌, false}
use Rattle.sector_disk.specs.Numbers.{Sector}
use Rattle.sector_disk.specs.Disk.{View, sector}
use Rattle.gated_journal.specs.Calls.{closed_gate, open_gate}
use Rattle.checkpoint.specs.declared.layout.Layout.{Layout}
use Rattle.checkpoint.specs.declared.side.Side.TheVariants as side
use Rattle.checkpoint.specs.Layout.{half_at, root_at, slot_at}
use Rattle.recovery.specs.Calls.{first_header}

-- Nothing is pending. Side A has an open root and the image of an empty register, side B a closed root. Neither half has a record.
pub record AreReady (layout : Layout) (disk : View) : Type 0 where
  pub durable : (k : Sector) → disk.pending k ≡ false
  pub header : sector disk.reads (slot_at layout side.A) ≡ first_header
  pub root : sector disk.reads (root_at side.A) ≡ open_gate
  pub other : sector disk.reads (root_at side.B) ≡ closed_gate
  pub gate : sector disk.reads (half_at layout side.A) ≡ closed_gate
  pub other_gate : sector disk.reads (half_at layout side.B) ≡ closed_gate
