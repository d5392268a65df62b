use Rattle.std.proofs.Common.{◌≡◌, rules, Ok, Err}
use Rattle.std.proofs.lemmas.Result.{on_err_weaker}
use Rattle.mm_pdus.specs.declared.fault.MmFault.TheVariants.{NoMemory}
use Rattle.mm_pdus.specs.declared.uplink.MmUp.TheVariants.{Demand, Groups}
use Rattle.mm_pdus.specs.UplinkReading.{reading_up, unkept_up}
use Rattle.centre_core.proofs.MemoryLaws.{group_read, pdu_read}
use Rattle.centre_core.proofs.tables.Tables.mobility.Goals as goal

pub returns-in-Err-NoMemory-clause-memory : goal.returns-in-Err-NoMemory-clause-memory
returns-in-Err-NoMemory-clause-memory g c =
    let none : unkept_up {A = g.row.C.Denot} c.args.pdu.now ≡ Err NoMemory = search rules in
    group_read g.row.B.Denot g.row.C.Denot c.args.self.now c.args.command.now.moment c.args.itsi c.args.area c.args.pdu.now none

pub returns-in-Ok-Demand-clause-memory : goal.returns-in-Ok-Demand-clause-memory
returns-in-Ok-Demand-clause-memory g c =
    let read : reading_up {A = g.row.C.Denot} c.args.pdu.now ≡ Ok (Demand c.in-Ok-Demand.update) = search rules in
    on_err_weaker c.locate.result
    (λ h. pdu_read g.row.B.Denot g.row.C.Denot c.args.self.now c.args.command.now.moment c.args.itsi c.args.area c.args.pdu.now
    (Ok (Demand c.in-Ok-Demand.update)) read h) c.locate.ensures.memory

pub returns-in-Ok-Groups-clause-memory : goal.returns-in-Ok-Groups-clause-memory
returns-in-Ok-Groups-clause-memory g c =
    let read : reading_up {A = g.row.C.Denot} c.args.pdu.now ≡ Ok (Groups c.in-Ok-Groups.mode c.in-Ok-Groups.items) = search rules in
    on_err_weaker c.change_groups.result
    (λ h. pdu_read g.row.B.Denot g.row.C.Denot c.args.self.now c.args.command.now.moment c.args.itsi c.args.area c.args.pdu.now
    (Ok (Groups c.in-Ok-Groups.mode c.in-Ok-Groups.items)) read h) c.change_groups.ensures.memory
