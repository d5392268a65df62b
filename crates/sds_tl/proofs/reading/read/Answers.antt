use Rattle.std.proofs.Common.{subst, Result}
use Rattle.sds_tl.specs.declared.fault.SdsFault.{SdsFault}
use Rattle.sds_tl.specs.declared.pdu.Sds.{Sds}
use Rattle.sds_tl.specs.Reading.{Gives}
use Rattle.sds_tl.proofs.Spelling.{is_found, reading_again}
use Rattle.sds_tl.proofs.reading.read.Goals as goal

pub returns-clause-found : goal.returns-clause-found
returns-clause-found g c = is_found g.row.A.Denot c.args.bits.now c.read_sds.result c.read_sds.ensures

pub returns-clause-only : goal.returns-clause-only
returns-clause-only g c = λ sds spells.
    subst (λ (known : Result (Sds g.row.A.Denot) SdsFault). Gives c.read_sds.result known) (reading_again g.row.A.Denot sds c.args.bits.now spells) c.read_sds.ensures
