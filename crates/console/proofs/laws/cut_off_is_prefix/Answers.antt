use Rattle.desk.specs.OfRegister.{of_register}
use Rattle.desk.specs.OfStore.{of_store}
use Rattle.console.proofs.Wholes.{cut_off, in_memory, on_disk}
use Rattle.console.proofs.laws.cut_off_is_prefix.Goals as goal

pub returns-clause-register : goal.returns-clause-register
returns-clause-register g c = cut_off of_register in_memory

pub returns-clause-store : goal.returns-clause-store
returns-clause-store g c = cut_off of_store on_disk
