use Rattle.std.proofs.Common.{Err, ap, inl, refl}
use Rattle.served_disk.specs.Rests.{line_of}
use Rattle.served_disk.proofs.OfRest.{of_some, reported_some}
use Rattle.served_disk.proofs.rest.write_rest.Goals as goal

pub returns-in-Ok-written-clause-written : goal.returns-in-Ok-written-clause-written
returns-in-Ok-written-clause-written g c =
    let rest = c.in-Some.rest in
    record {
      line = line_of rest;
      reported = reported_some _ _ c.in-Ok.read.0 rest _ _ _ c.in-Some.is c.in-Ok.ensures.reported;
      text = inl (record {
        side = rest.side;
        epoch = rest.epoch;
        out = rest.left_out;
        register = rest.register;
        bad = rest.stop;
        later = rest.later;
        left = λ honest. of_some _ _ c.in-Ok.read.0 rest c.in-Some.is (c.in-Ok.ensures.left honest);
        follow = λ honest. of_some _ _ c.in-Ok.read.0 rest c.in-Some.is (c.in-Ok.ensures.after honest);
        line_is = refl;
        dumped = c.in-Ok-written.ensures.dumped;
        written = c.in-Ok-written.ensures.written;
      });
    }

pub returns-in-Err-clause-refused : goal.returns-in-Err-clause-refused
returns-in-Err-clause-refused g c =
    let why = c.in-Err.ensures in
    (record { kind = why.kinds; there = why.faults; device = λ same. why.fault (ap (λ f. Err f) same); memory = λ same honest. tt }, refl)

pub returns-in-Err-written-clause-refused : goal.returns-in-Err-written-clause-refused
returns-in-Err-written-clause-refused g c =
    let rest = c.in-Some.rest in
    record {
      side = rest.side;
      epoch = rest.epoch;
      out = rest.left_out;
      register = rest.register;
      bad = rest.stop;
      left = λ honest. of_some _ _ c.in-Ok.read.0 rest c.in-Some.is (c.in-Ok.ensures.left honest);
      unwritten = c.in-Err-written.ensures.unwritten;
    }
