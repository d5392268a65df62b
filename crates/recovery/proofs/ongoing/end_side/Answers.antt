use Rattle.std.proofs.Common.{rules, ◌+◌, ◌<◌, arith}
use Rattle.std.proofs.lemmas.Result.{on_ok_weaker}
use Rattle.gated_journal.specs.declared.form.Form.TheVariants.{Numbered}
use Rattle.recovery.proofs.UnderWay.{in_switch, in_sync, ready, stored_synced, switched}
use Rattle.recovery.proofs.ongoing.end_side.Goals as goal

pub returns-in_err-sync-clause-keeps : goal.returns-in_err-sync-clause-keeps
returns-in_err-sync-clause-keeps g c = record {
  fault = search rules;
  sectors = search rules;
  later = search rules;
  honest = search rules;
}

pub returns-clause-keeps : goal.returns-clause-keeps
returns-clause-keeps g c = record {
  fault = search rules;
  sectors = search rules;
  later = search rules;
  honest = search rules;
}

pub returns-in_err-sync-clause-any_moment : goal.returns-in_err-sync-clause-any_moment
returns-in_err-sync-clause-any_moment g c = λ journal state honest kept.
    let it = c.args.ongoing.now in
    let old = g.D.Disk.view c.args.disk.now in
    let belongs = c.requires.belongs.2 in
    in_sync g.row.A.Denot c.args.layout.now c.args.side c.args.epoch journal state it old kept.stored kept.under_way c.requires.whole
    c.registers.ensures.state c.registers.ensures.ranges belongs.limits belongs.more
    (g.met.D.Disk.sound c.args.disk.now honest) (g.D.Disk.view c.sync.new.self) c.sync.result (c.sync.ensures.effect honest)

pub returns-clause-any_moment : goal.returns-clause-any_moment
returns-clause-any_moment g c = λ journal state honest kept.
    let it = c.args.ongoing.now in
    let old = g.D.Disk.view c.args.disk.now in
    let mid = g.D.Disk.view c.sync.new.self in
    let belongs = c.requires.belongs.2 in
    let sound = g.met.D.Disk.sound c.args.disk.now honest in
    let stored = kept.stored in
    let under = kept.under_way in
    let syncs = c.in_ok-sync.ensures.effect honest in
    let newer : c.args.epoch < c.args.epoch + 1 = omega arith in
    in_switch g.row.A.Denot c.args.layout.now c.args.side c.args.epoch journal state it old stored under c.requires.whole c.registers.ensures.state
    c.registers.ensures.ranges belongs.limits belongs.more sound mid syncs (g.D.Disk.view c.switch.new.disk)
    (c.switch.ensures.any_moment journal.form Numbered (c.args.epoch, stored.base) (c.args.epoch + 1, it.register) (stored.entries, journal.next) (under.entries, it.journal.next) newer syncs.honest
    (stored_synced g.row.A.Denot c.args.layout.now c.args.side c.args.epoch journal state it old stored under c.requires.whole
    c.registers.ensures.state c.registers.ensures.ranges belongs.limits belongs.more sound mid syncs)
    (ready g.row.A.Denot c.args.layout.now c.args.side c.args.epoch journal state it old stored under c.requires.whole c.registers.ensures.state
    c.registers.ensures.ranges belongs.limits belongs.more sound mid syncs))

pub returns-clause-ended : goal.returns-clause-ended
returns-clause-ended g c = on_ok_weaker c.switch.result (λ then journal state honest kept.
    let it = c.args.ongoing.now in
    let old = g.D.Disk.view c.args.disk.now in
    let mid = g.D.Disk.view c.sync.new.self in
    let belongs = c.requires.belongs.2 in
    let sound = g.met.D.Disk.sound c.args.disk.now honest in
    let stored = kept.stored in
    let under = kept.under_way in
    let syncs = c.in_ok-sync.ensures.effect honest in
    let newer : c.args.epoch < c.args.epoch + 1 = omega arith in
    switched g.row.A.Denot c.args.layout.now c.args.side c.args.epoch journal state it old stored under c.requires.whole c.registers.ensures.state
    c.registers.ensures.ranges belongs.limits belongs.more sound mid syncs (g.D.Disk.view c.switch.new.disk) belongs.form
    (then journal.form Numbered (c.args.epoch, stored.base) (c.args.epoch + 1, it.register) (stored.entries, journal.next) (under.entries, it.journal.next) newer syncs.honest
    (stored_synced g.row.A.Denot c.args.layout.now c.args.side c.args.epoch journal state it old stored under c.requires.whole
    c.registers.ensures.state c.registers.ensures.ranges belongs.limits belongs.more sound mid syncs)
    (ready g.row.A.Denot c.args.layout.now c.args.side c.args.epoch journal state it old stored under c.requires.whole c.registers.ensures.state
    c.registers.ensures.ranges belongs.limits belongs.more sound mid syncs))) c.switch.ensures.switched
