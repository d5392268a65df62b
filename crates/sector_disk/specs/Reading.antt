-- The calls of a disk that is only read.
use Rattle.std.specs.Prelude.{List, [], ◌∷◌}
use Rattle.sector_disk.specs.declared.record.Call.{Call}
use Rattle.sector_disk.specs.declared.record.Call.TheVariants.{Read, Sync, Write}

-- a call put before others; a read with no call after it is left out
abbrev pub unless_last_read : Call → List Call → List Call
unless_last_read (Read at) [] = []
unless_last_read (Read at) (next ∷ calls) = Read at ∷ next ∷ calls
unless_last_read (Write at bytes) calls = Write at bytes ∷ calls
unless_last_read Sync calls = Sync ∷ calls

-- the calls up to the last write or sync: all but the reads at the end
unfoldable pub before_reads : List Call → List Call
before_reads [] = []
before_reads (call ∷ calls) = unless_last_read call (before_reads calls)
