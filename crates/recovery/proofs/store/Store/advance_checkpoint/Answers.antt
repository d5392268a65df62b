use Rattle.std.proofs.Common.{◌≡◌, Bool, None, Option, false, rules, subst, sym, true}
use Rattle.std.specs.Prelude.{is_some}
use Rattle.std.proofs.lemmas.Bool.{false≢true}
use Rattle.std.proofs.lemmas.Result.{on_ok_weaker}
use Rattle.sector_disk.specs.Run.{HasMade, LeavesOnly}
use Rattle.sector_disk.proofs.Moments.{run_on}
use Rattle.centre_core.specs.State.{State}
use Rattle.checkpoint.specs.Calls.{is_root_open}
use Rattle.checkpoint.specs.Layout.{other_of}
use Rattle.recovery.specs.Calls.{ongoing_calls}
use Rattle.recovery.specs.declared.ongoing.Ongoing.{Ongoing}
use Rattle.recovery.specs.Lives.{view_of}
use Rattle.recovery.specs.OpensTo.{OpensTo}
use Rattle.recovery.specs.UnderWay.{MayBegin}
use Rattle.recovery.proofs.Going.{IsStated, calls_in_end, calls_in_rows, calls_of_end}
use Rattle.recovery.proofs.store.Store.advance_checkpoint.Goals as goal

pub returns-then-is_none-clause-on_disk : goal.returns-then-is_none-clause-on_disk
returns-then-is_none-clause-on_disk g c = record {
  any_moment = search rules;
  kept = search rules;
}

pub returns-then-is_none-clause-calls : goal.returns-then-is_none-clause-calls
returns-then-is_none-clause-calls g c = record {
  calls = search rules;
  some_calls =
      let self = c.args.self.now in
      let none : self.ongoing ≡ None = search rules in
      let old = g.D.Disk.view self.disk in
      let new = g.D.Disk.view c.begin_checkpoint.new.self.disk in
      λ honest. subst (λ (o : Option (Ongoing g.row.A.Denot)). (begins : Bool) × (begins ≡ true → MayBegin self.layout self.epoch self.journal) ×
      HasMade old new (ongoing_calls self.layout self.side self.epoch o begins (is_root_open (other_of self.side) old.reads))) (sym none)
      (c.begin_checkpoint.ensures.calls.some_calls honest);
  calls_on_any_disk = search rules;
  some_calls_on_any_disk =
      let self = c.args.self.now in
      let none : self.ongoing ≡ None = search rules in
      let old = g.D.Disk.view self.disk in
      let new = g.D.Disk.view c.begin_checkpoint.new.self.disk in
      subst (λ (o : Option (Ongoing g.row.A.Denot)). (begins : Bool) × (was_open : Bool) ×
      (begins ≡ true → MayBegin self.layout self.epoch self.journal) ×
      HasMade old new (ongoing_calls self.layout self.side self.epoch o begins was_open)) (sym none)
      c.begin_checkpoint.ensures.calls.some_calls_on_any_disk;
}

pub returns-then-is_none-clause-steps : goal.returns-then-is_none-clause-steps
returns-then-is_none-clause-steps g c = record {
  same = search rules;
  in_call = search rules;
  fault = search rules;
  sectors = search rules;
  later = search rules;
  honest = search rules;
}

pub returns-in_err-write_rows-clause-on_disk : goal.returns-in_err-write_rows-clause-on_disk
returns-in_err-write_rows-clause-on_disk g c = record {
  any_moment = search rules;
  kept = search rules;
}

pub returns-in_err-write_rows-clause-calls : goal.returns-in_err-write_rows-clause-calls
returns-in_err-write_rows-clause-calls g c = record {
  calls = search rules;
  some_calls =
      let self = c.args.self.now in
      let mid = c.write_rows.new.self in
      let some : is_some self.ongoing ≡ true = search rules in
      let old = g.D.Disk.view self.disk in
      let between = g.D.Disk.view mid.disk in
      λ honest. (
        false,
        λ begins. absurd (false≢true begins),
        calls_in_rows (view_of self) (view_of mid) c.write_rows.ensures.stays old between between
            false (is_root_open (other_of self.side) old.reads) self.ongoing some c.write_rows.ensures.some_calls,
      );
  calls_on_any_disk = search rules;
  some_calls_on_any_disk =
      let self = c.args.self.now in
      let mid = c.write_rows.new.self in
      let some : is_some self.ongoing ≡ true = search rules in
      let between = g.D.Disk.view mid.disk in (
        false,
        false,
        λ begins. absurd (false≢true begins),
        calls_in_rows (view_of self) (view_of mid) c.write_rows.ensures.stays (g.D.Disk.view self.disk) between between false false
            self.ongoing some c.write_rows.ensures.some_calls,
      );
}

pub returns-in_err-write_rows-clause-steps : goal.returns-in_err-write_rows-clause-steps
returns-in_err-write_rows-clause-steps g c = record {
  same = search rules;
  in_call = search rules;
  fault = search rules;
  sectors = search rules;
  later = search rules;
  honest = search rules;
}

pub returns-then-is_written-clause-on_disk : goal.returns-then-is_written-clause-on_disk
returns-then-is_written-clause-on_disk g c = record {
  any_moment = λ honest kept.
      let self = c.args.self.now in
      let mid = c.write_rows.new.self in
      let old = g.D.Disk.view self.disk in
      let between = g.D.Disk.view mid.disk in
      let new = g.D.Disk.view c.end_checkpoint.new.self.disk in
      let first = c.write_rows.ensures.on_disk.any_moment honest kept in
      let second = c.end_checkpoint.ensures.on_disk.any_moment (c.write_rows.ensures.steps.honest honest) (c.in_ok-write_rows.ensures.on_disk.kept honest kept) in
      let same : LeavesOnly between new (OpensTo g.row.A.Denot self.register) = subst (λ (s : State). LeavesOnly between new (OpensTo g.row.A.Denot s)) c.write_rows.ensures.steps.same.1 second in
      run_on old between new (OpensTo g.row.A.Denot self.register) (OpensTo g.row.A.Denot self.register) first same (λ image is. is);
  kept = search rules;
}

pub returns-then-is_written-clause-calls : goal.returns-then-is_written-clause-calls
returns-then-is_written-clause-calls g c = record {
  calls =
      let self = c.args.self.now in
      let mid = c.write_rows.new.self in
      let some : is_some self.ongoing ≡ true = search rules in
      let reported : IsStated (view_of mid) true = subst (λ (whole : Bool). IsStated (view_of mid) whole) c.if-is_written.true c.is_written.ensures in
      let new = c.end_checkpoint.new.self in
      on_ok_weaker c.end_checkpoint.result
      (λ ended honest. calls_of_end (view_of self) (view_of mid) c.write_rows.ensures.stays (g.D.Disk.view self.disk) (g.D.Disk.view mid.disk)
      (g.D.Disk.view new.disk) (is_some new.ongoing) (is_root_open (other_of self.side) (g.D.Disk.view self.disk).reads) reported self.ongoing some
      c.in_ok-write_rows.ensures.gone c.in_ok-write_rows.ensures.calls ended) c.end_checkpoint.ensures.calls;
  some_calls =
      let self = c.args.self.now in
      let mid = c.write_rows.new.self in
      let some : is_some self.ongoing ≡ true = search rules in
      let reported : IsStated (view_of mid) true = subst (λ (whole : Bool). IsStated (view_of mid) whole) c.if-is_written.true c.is_written.ensures in
      let old = g.D.Disk.view self.disk in
      λ honest. (
        false,
        λ begins. absurd (false≢true begins),
        calls_in_end (view_of self) (view_of mid) c.write_rows.ensures.stays old (g.D.Disk.view mid.disk) (g.D.Disk.view c.end_checkpoint.new.self.disk)
            false (is_root_open (other_of self.side) old.reads) reported self.ongoing some c.in_ok-write_rows.ensures.gone c.in_ok-write_rows.ensures.calls
            c.end_checkpoint.ensures.some_calls,
      );
  calls_on_any_disk =
      let self = c.args.self.now in
      let mid = c.write_rows.new.self in
      let some : is_some self.ongoing ≡ true = search rules in
      let reported : IsStated (view_of mid) true = subst (λ (whole : Bool). IsStated (view_of mid) whole) c.if-is_written.true c.is_written.ensures in
      let new = c.end_checkpoint.new.self in
      on_ok_weaker c.end_checkpoint.result
      (λ ended. (
        false,
        calls_of_end (view_of self) (view_of mid) c.write_rows.ensures.stays (g.D.Disk.view self.disk) (g.D.Disk.view mid.disk)
            (g.D.Disk.view new.disk) (is_some new.ongoing) false reported self.ongoing some c.in_ok-write_rows.ensures.gone c.in_ok-write_rows.ensures.calls
            ended,
      )) c.end_checkpoint.ensures.calls;
  some_calls_on_any_disk =
      let self = c.args.self.now in
      let mid = c.write_rows.new.self in
      let some : is_some self.ongoing ≡ true = search rules in
      let reported : IsStated (view_of mid) true = subst (λ (whole : Bool). IsStated (view_of mid) whole) c.if-is_written.true c.is_written.ensures in (
        false,
        false,
        λ begins. absurd (false≢true begins),
        calls_in_end (view_of self) (view_of mid) c.write_rows.ensures.stays (g.D.Disk.view self.disk) (g.D.Disk.view mid.disk)
            (g.D.Disk.view c.end_checkpoint.new.self.disk) false false reported self.ongoing some c.in_ok-write_rows.ensures.gone
            c.in_ok-write_rows.ensures.calls c.end_checkpoint.ensures.some_calls,
      );
}

pub returns-then-is_written-clause-steps : goal.returns-then-is_written-clause-steps
returns-then-is_written-clause-steps g c = record {
  same = search rules;
  in_call = search rules;
  fault = search rules;
  sectors = search rules;
  later = search rules;
  honest = search rules;
}

pub returns-clause-on_disk : goal.returns-clause-on_disk
returns-clause-on_disk g c = record {
  any_moment = search rules;
  kept = search rules;
}

pub returns-clause-calls : goal.returns-clause-calls
returns-clause-calls g c = record {
  calls = search rules;
  some_calls = search rules;
  calls_on_any_disk = search rules;
  some_calls_on_any_disk = search rules;
}

pub returns-clause-steps : goal.returns-clause-steps
returns-clause-steps g c = record {
  same = search rules;
  in_call = search rules;
  fault = search rules;
  sectors = search rules;
  later = search rules;
  honest = search rules;
}
