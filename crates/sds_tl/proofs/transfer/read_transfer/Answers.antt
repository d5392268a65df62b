use Rattle.std.proofs.Common.{Result, Err, refl, subst, sym}
use Rattle.sds_tl.specs.declared.fault.SdsFault.{SdsFault}
use Rattle.sds_tl.specs.declared.pdu.Sds.{Sds}
use Rattle.sds_tl.specs.Reading.{Gives}
use Rattle.sds_tl.proofs.Transfers as transfers
use Rattle.sds_tl.proofs.transfer.read_transfer.Goals as goal

pub returns-in-Ok-clause-found : goal.returns-in-Ok-clause-found
returns-in-Ok-clause-found g c = transfers.found_alike g.row.A.Denot c.args.bits.now _ c.read.result (sym c.in-Ok.ensures) c.read.ensures.found

pub returns-in-Ok-clause-exact : goal.returns-in-Ok-clause-exact
returns-in-Ok-clause-exact g c =
    subst (λ (known : Result (Sds g.row.A.Denot) SdsFault). Gives c.read.result known) (sym (transfers.taken_alike g.row.A.Denot c.args.bits.now _ (sym c.in-Ok.ensures))) c.read.ensures.exact

pub returns-in-Ok-clause-only : goal.returns-in-Ok-clause-only
returns-in-Ok-clause-only g c = λ sds spells.
    subst (λ (known : Result (Sds g.row.A.Denot) SdsFault). Gives c.read.result known) (transfers.spelt_alike g.row.A.Denot sds c.args.bits.now spells) (returns-in-Ok-clause-exact g c)

pub returns-in-Err-clause-exact : goal.returns-in-Err-clause-exact
returns-in-Err-clause-exact g c =
    subst (λ (known : Result (Sds g.row.A.Denot) SdsFault). Gives (Err c.in-Err.fault) known) (sym (transfers.refused_alike g.row.A.Denot c.args.bits.now c.in-Err.fault (sym c.in-Err.ensures))) refl

pub returns-in-Err-clause-only : goal.returns-in-Err-clause-only
returns-in-Err-clause-only g c = λ sds spells.
    subst (λ (known : Result (Sds g.row.A.Denot) SdsFault). Gives (Err c.in-Err.fault) known) (transfers.spelt_alike g.row.A.Denot sds c.args.bits.now spells) (returns-in-Err-clause-exact g c)
