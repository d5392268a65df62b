use Rattle.served_disk.proofs.Lacking.{none_read}
use Rattle.served_disk.proofs.making.layout_of.Goals as goal

pub returns-in-Err-clause-none : goal.returns-in-Err-clause-none
returns-in-Err-clause-none c = none_read c.args.text.now c.in-Err.fault c.of_settings.result c.of_settings.ensures c.in-Err.ensures.refused c.in-Err.ensures.memory
