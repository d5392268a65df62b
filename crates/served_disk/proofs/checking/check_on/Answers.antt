use Rattle.std.proofs.Common.{Err, ap, arith, inl}
use Rattle.served_disk.proofs.Unchecked.{fails_check, unreported}
use Rattle.served_disk.proofs.checking.check_on.Goals as goal

pub report_on-requires-clause-on_disk : goal.report_on-requires-clause-on_disk
report_on-requires-clause-on_disk g c at damaged =
    let low = c.in-Ok.ensures.on_disk at damaged in
    omega (arith, low, c.check.ensures.keeps.sectors)

pub returns-in-Ok-report_on-clause-reported : goal.returns-in-Ok-report_on-clause-reported
returns-in-Ok-report_on-clause-reported g c =
    let on = c.in-Ok-report_on.ensures.reported in
    record {
      checked = c.in-Ok.checked;
      found = λ honest. c.in-Ok.ensures.exact honest;
      reported = record {
        a = on.a;
        b = on.b;
        damage_a = λ honest. rw (c.check.ensures.reads honest) at (on.damage_a (c.check.ensures.keeps.honest honest));
        damage_b = λ honest. rw (c.check.ensures.reads honest) at (on.damage_b (c.check.ensures.keeps.honest honest));
        reported = on.reported;
      };
    }

pub returns-in-Err-clause-refused : goal.returns-in-Err-clause-refused
returns-in-Err-clause-refused g c =
    let why = c.in-Err.ensures in
    record {
      kind = why.kinds;
      there = λ honest. fails_check _ _ c.in-Err.fault (why.exact honest);
      device = λ same. why.keeps.fault (ap (λ f. Err f) same);
      memory = λ same honest. inl (why.memory (ap (λ f. Err f) same) honest);
    }

pub returns-in-Err-report_on-clause-refused : goal.returns-in-Err-report_on-clause-refused
returns-in-Err-report_on-clause-refused g c =
    let why = c.in-Err-report_on.ensures in
    unreported g.row.A.Denot (g.D.Disk.view c.args.disk) (g.D.Disk.view c.check.new.disk) (g.D.Disk.view c.report_on.new.disk) c.check.ensures.keeps.later c.in-Ok.checked
    (λ honest. c.in-Ok.ensures.exact honest) c.in-Err-report_on.fault why.kinds (λ same. why.fault (ap (λ f. Err f) same)) c.first_damaged.result c.first_damaged.ensures
    c.unless_damaged.result c.unless_damaged.ensures
