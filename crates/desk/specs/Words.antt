-- The outage words.
use Rattle.std.specs.Prelude.{ℕ, List, codes}
use Rattle.desk.specs.declared.outage.Outage.{Outage}
use Rattle.desk.specs.declared.outage.Outage.TheVariants.{Memory, Device, Broken, Epochs, Closed}

-- the word after "no"
abbrev pub outage_word : Outage → List ℕ
outage_word Memory = codes "memory"
outage_word Device = codes "device"
outage_word Broken = codes "broken"
outage_word Epochs = codes "epochs"
outage_word Closed = codes "closed"
