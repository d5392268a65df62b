use Rattle.std.proofs.Common.{Err, ap, arith, refl}
use Rattle.served_disk.proofs.OfRest.{has_label, labelled, no_damage, of_device, reported_before, text_before, unchecked, why_before}
use Rattle.served_disk.proofs.rest.rest_on.Goals as goal

pub write_rest-requires-clause-on_disk : goal.write_rest-requires-clause-on_disk
write_rest-requires-clause-on_disk g c at damaged =
    let low = c.in-Ok.ensures.on_disk at damaged in
    omega (arith, low, c.check.ensures.keeps.sectors)

pub returns-in-Ok-write_rest-clause-written : goal.returns-in-Ok-write_rest-clause-written
returns-in-Ok-write_rest-clause-written g c =
    let is = c.in-Ok-write_rest.ensures.written in
    record {
      line = is.line;
      reported = record {
        checked = c.in-Ok.checked;
        found = λ honest. c.in-Ok.ensures.exact honest;
        reported = reported_before _ _ _ c.check.ensures.keeps.honest c.check.ensures.reads _ _ _ _ is.reported;
      };
      text = text_before _ _ _ c.check.ensures.keeps.honest c.check.ensures.reads _ _ _ _ _ _ is.text;
    }

pub returns-in-Err-clause-refused : goal.returns-in-Err-clause-refused
returns-in-Err-clause-refused g c =
    let why = c.in-Err.ensures in
    rw c.without_damage.ensures (
      record {
        kind = no_damage c.in-Err.fault why.kinds;
        there = λ honest. unchecked _ _ c.in-Err.fault why.kinds (why.exact honest);
        device = λ same. why.keeps.fault (ap (λ f. Err f) (of_device c.in-Err.fault same));
        memory = λ same honest. has_label _ _ c.in-Err.fault (why.exact honest) (λ met. let yet = why.memory met honest in (yet.layout, yet.label)) same;
      },
      refl,
    )

pub returns-in-Err-write_rest-clause-refused : goal.returns-in-Err-write_rest-clause-refused
returns-in-Err-write_rest-clause-refused g c =
    why_before _ _ _ _ _ (g.D.Disk.view c.args.disk) (g.D.Disk.view c.check.new.disk) (g.D.Disk.view c.write_rest.new.disk) c.check.ensures.keeps.later
    c.check.ensures.keeps.honest c.check.ensures.reads
    (λ honest. labelled _ _ c.in-Ok.checked (c.in-Ok.ensures.exact honest)) c.in-Err-write_rest.fault c.in-Err-write_rest.ensures.refused
