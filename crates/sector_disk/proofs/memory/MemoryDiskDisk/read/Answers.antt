use Rattle.std.proofs.Common.{refl}
use Rattle.sector_disk.proofs.Calls.{read_effect}
use Rattle.sector_disk.proofs.memory.MemoryDiskDisk.read.Goals as goal

pub returns-clause-effect : goal.returns-clause-effect
returns-clause-effect g c within is =
    read_effect _ _ _ _ is refl c.in_ok-note.ensures.noted refl refl (rw c.deref.ensures.value at c.get.ensures)
