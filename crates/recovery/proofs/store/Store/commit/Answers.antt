use mathlib.Core.Logic.{∥∥₁_map}
use Rattle.std.proofs.Common.{rules, sym, subst, refl, ◌≡◌, [], true, false, inr, length, ◌∙◌, arith}
use Rattle.std.proofs.lemmas.Bool.{true≢false}
use mathlib.Core.Bool.{false≢true}
use Rattle.std.proofs.lemmas.List.{append-nil, nil_from_length}
use Rattle.base.proofs.Results.{on_err}
use Rattle.recovery.proofs.Stored.{batch_done, fewer_fit, stored_opens, no_length, none_answered, nothing_done, only_before}
use Rattle.sector_disk.proofs.Made.{made_none}
use Rattle.gated_journal.specs.Record.{given}
use Rattle.recovery.proofs.Batches.{recorded_after, none_recorded}
use Rattle.recovery.proofs.Committed.{batch_history, batch_leaves, batch_kept, batch_made, belongs_later, counts_ongoing, it_fits, no_room, kept_from, kept_so, none_kept}
use Rattle.recovery.specs.Outcomes.{OpensToEither, asked}
use Rattle.recovery.specs.Lives.{IsUnansweredCall, StaysKept, StopsLeave, view_of}
use Rattle.recovery.proofs.InCall.{in_call}
use Rattle.recovery.proofs.Events.{answered_later, is_answered, is_unanswered, nothing_accepted, unanswered_idle}
use Rattle.recovery.proofs.store.Store.commit.Goals as goal

pub returns-then-self-clause-on_disk : goal.returns-then-self-clause-on_disk
returns-then-self-clause-on_disk g c = record {
  any_moment = λ honest stored.
      only_before g.row.A.Denot c.args.self.now.register c.args.self.now.register (g.D.Disk.view c.args.self.now.disk)
      (g.D.Disk.view c.args.self.now.disk)
      (nothing_done g.row.A.Denot c.args.self.now.layout c.args.self.now.side c.args.self.now.epoch c.args.self.now.journal c.args.self.now.register
      (g.D.Disk.view c.args.self.now.disk) stored.stored (g.met.D.Disk.sound c.args.self.now.disk honest));
  kept = search rules;
  acknowledged = search rules;
  answered = search rules;
  unanswered = λ honest.
      unanswered_idle g.row.A.Denot g.D.Disk.view (view_of c.args.self.now) _ (asked c.args.commands.now)
      (nothing_accepted g.row.A.Denot g.D.Disk.view (view_of c.args.self.now) honest (g.met.D.Disk.sound c.args.self.now.disk honest));
}

pub returns-then-self-clause-keeps : goal.returns-then-self-clause-keeps
returns-then-self-clause-keeps g c = record {
  fault = search rules;
  sectors = search rules;
  later = search rules;
  honest = search rules;
}

pub returns-then-self-clause-answers : goal.returns-then-self-clause-answers
returns-then-self-clause-answers g c = record {
  outcomes = search rules;
  sound = search rules;
  register = search rules;
  empty = search rules;
  at_once = search rules;
  idle = search rules;
}

pub returns-then-self-clause-refuses : goal.returns-then-self-clause-refuses
returns-then-self-clause-refuses g c = record {
  broken = search rules;
  only_broken = search rules;
  unready = search rules;
  only_unready = search rules;
  memory = search rules;
  fault = search rules;
  kinds = search rules;
}

pub returns-then-self-clause-calls : goal.returns-then-self-clause-calls
returns-then-self-clause-calls g c = record {
  calls = search rules;
  some_calls = λ honest. (
    [],
    false,
    none_recorded g.row.A.Denot c.args.self.now.register c.args.self.now.register (asked c.args.commands.now) refl,
    λ is.
        absurd (false≢true is),
    made_none (g.D.Disk.view c.args.self.now.disk) _,
  );
  calls_on_any_disk = search rules;
  some_calls_on_any_disk = (
    [],
    false,
    false,
    none_recorded g.row.A.Denot c.args.self.now.register c.args.self.now.register (asked c.args.commands.now) refl,
    λ is.
        absurd (false≢true is),
    made_none (g.D.Disk.view c.args.self.now.disk) _,
  );
}

pub returns-in_err-outcomes-clause-on_disk : goal.returns-in_err-outcomes-clause-on_disk
returns-in_err-outcomes-clause-on_disk g c = record {
  any_moment = λ honest stored.
      only_before g.row.A.Denot c.args.self.now.register c.args.self.now.register (g.D.Disk.view c.args.self.now.disk)
      (g.D.Disk.view c.args.self.now.disk)
      (nothing_done g.row.A.Denot c.args.self.now.layout c.args.self.now.side c.args.self.now.epoch c.args.self.now.journal c.args.self.now.register
      (g.D.Disk.view c.args.self.now.disk) stored.stored (g.met.D.Disk.sound c.args.self.now.disk honest));
  kept = search rules;
  acknowledged = search rules;
  answered = search rules;
  unanswered =
      let call : (g.D.Disk.view c.args.self.now.disk).honest → IsUnansweredCall g.row.A.Denot g.D.Disk.view (view_of c.args.self.now) (asked c.args.commands.now) (view_of c.args.self.now) = λ honest.
      unanswered_idle g.row.A.Denot g.D.Disk.view (view_of c.args.self.now) (view_of c.args.self.now) (asked c.args.commands.now)
      (nothing_accepted g.row.A.Denot g.D.Disk.view (view_of c.args.self.now) honest (g.met.D.Disk.sound c.args.self.now.disk honest)) in
      on_err _ call;
}

pub returns-in_err-outcomes-clause-keeps : goal.returns-in_err-outcomes-clause-keeps
returns-in_err-outcomes-clause-keeps g c = record {
  fault = search rules;
  sectors = search rules;
  later = search rules;
  honest = search rules;
}

pub returns-in_err-outcomes-clause-answers : goal.returns-in_err-outcomes-clause-answers
returns-in_err-outcomes-clause-answers g c = record {
  outcomes = search rules;
  sound = search rules;
  register = search rules;
  empty = search rules;
  at_once = search rules;
  idle = search rules;
}

pub returns-in_err-outcomes-clause-refuses : goal.returns-in_err-outcomes-clause-refuses
returns-in_err-outcomes-clause-refuses g c = record {
  broken = search rules;
  only_broken = search rules;
  unready = λ sound some lacks.
      absurd (omega (
        arith,
        lacks,
        it_fits g.row.A.Denot c.args.self.now.journal c.args.commands.now (sym c.has_room.ensures.exact ∙ c.if-not-has_room.false),
      ));
  only_unready = search rules;
  memory = search rules;
  fault = search rules;
  kinds = search rules;
}

pub returns-in_err-outcomes-clause-calls : goal.returns-in_err-outcomes-clause-calls
returns-in_err-outcomes-clause-calls g c = record {
  calls = search rules;
  some_calls = λ honest. (
    [],
    false,
    none_recorded g.row.A.Denot c.args.self.now.register c.args.self.now.register (asked c.args.commands.now) refl,
    λ is.
        absurd (false≢true is),
    made_none (g.D.Disk.view c.args.self.now.disk) _,
  );
  calls_on_any_disk = search rules;
  some_calls_on_any_disk = (
    [],
    false,
    false,
    none_recorded g.row.A.Denot c.args.self.now.register c.args.self.now.register (asked c.args.commands.now) refl,
    λ is.
        absurd (false≢true is),
    made_none (g.D.Disk.view c.args.self.now.disk) _,
  );
}

pub returns-in_err-accepted-clause-on_disk : goal.returns-in_err-accepted-clause-on_disk
returns-in_err-accepted-clause-on_disk g c = record {
  any_moment = λ honest stored.
      only_before g.row.A.Denot c.args.self.now.register c.args.self.now.register (g.D.Disk.view c.args.self.now.disk)
      (g.D.Disk.view c.args.self.now.disk)
      (nothing_done g.row.A.Denot c.args.self.now.layout c.args.self.now.side c.args.self.now.epoch c.args.self.now.journal c.args.self.now.register
      (g.D.Disk.view c.args.self.now.disk) stored.stored (g.met.D.Disk.sound c.args.self.now.disk honest));
  kept = search rules;
  acknowledged = search rules;
  answered = search rules;
  unanswered =
      let call : (g.D.Disk.view c.args.self.now.disk).honest → IsUnansweredCall g.row.A.Denot g.D.Disk.view (view_of c.args.self.now) (asked c.args.commands.now) (view_of c.args.self.now) = λ honest.
      unanswered_idle g.row.A.Denot g.D.Disk.view (view_of c.args.self.now) (view_of c.args.self.now) (asked c.args.commands.now)
      (nothing_accepted g.row.A.Denot g.D.Disk.view (view_of c.args.self.now) honest (g.met.D.Disk.sound c.args.self.now.disk honest)) in
      on_err _ call;
}

pub returns-in_err-accepted-clause-keeps : goal.returns-in_err-accepted-clause-keeps
returns-in_err-accepted-clause-keeps g c = record {
  fault = search rules;
  sectors = search rules;
  later = search rules;
  honest = search rules;
}

pub returns-in_err-accepted-clause-answers : goal.returns-in_err-accepted-clause-answers
returns-in_err-accepted-clause-answers g c = record {
  outcomes = search rules;
  sound = search rules;
  register = search rules;
  empty = search rules;
  at_once = search rules;
  idle = search rules;
}

pub returns-in_err-accepted-clause-refuses : goal.returns-in_err-accepted-clause-refuses
returns-in_err-accepted-clause-refuses g c = record {
  broken = search rules;
  only_broken = search rules;
  unready = λ sound some lacks.
      absurd (omega (
        arith,
        lacks,
        it_fits g.row.A.Denot c.args.self.now.journal c.args.commands.now (sym c.has_room.ensures.exact ∙ c.if-not-has_room.false),
      ));
  only_unready = search rules;
  memory = search rules;
  fault = search rules;
  kinds = search rules;
}

pub returns-in_err-accepted-clause-calls : goal.returns-in_err-accepted-clause-calls
returns-in_err-accepted-clause-calls g c = record {
  calls = search rules;
  some_calls = λ honest. (
    [],
    false,
    none_recorded g.row.A.Denot c.args.self.now.register c.args.self.now.register (asked c.args.commands.now) refl,
    λ is.
        absurd (false≢true is),
    made_none (g.D.Disk.view c.args.self.now.disk) _,
  );
  calls_on_any_disk = search rules;
  some_calls_on_any_disk = (
    [],
    false,
    false,
    none_recorded g.row.A.Denot c.args.self.now.register c.args.self.now.register (asked c.args.commands.now) refl,
    λ is.
        absurd (false≢true is),
    made_none (g.D.Disk.view c.args.self.now.disk) _,
  );
}

pub returns-then-not-has_room-clause-on_disk : goal.returns-then-not-has_room-clause-on_disk
returns-then-not-has_room-clause-on_disk g c = record {
  any_moment = λ honest stored.
      only_before g.row.A.Denot c.args.self.now.register c.args.self.now.register (g.D.Disk.view c.args.self.now.disk)
      (g.D.Disk.view c.args.self.now.disk)
      (nothing_done g.row.A.Denot c.args.self.now.layout c.args.self.now.side c.args.self.now.epoch c.args.self.now.journal c.args.self.now.register
      (g.D.Disk.view c.args.self.now.disk) stored.stored (g.met.D.Disk.sound c.args.self.now.disk honest));
  kept = search rules;
  acknowledged = search rules;
  answered = search rules;
  unanswered = λ honest.
      unanswered_idle g.row.A.Denot g.D.Disk.view (view_of c.args.self.now) _ (asked c.args.commands.now)
      (nothing_accepted g.row.A.Denot g.D.Disk.view (view_of c.args.self.now) honest (g.met.D.Disk.sound c.args.self.now.disk honest));
}

pub returns-then-not-has_room-clause-keeps : goal.returns-then-not-has_room-clause-keeps
returns-then-not-has_room-clause-keeps g c = record {
  fault = search rules;
  sectors = search rules;
  later = search rules;
  honest = search rules;
}

pub returns-then-not-has_room-clause-answers : goal.returns-then-not-has_room-clause-answers
returns-then-not-has_room-clause-answers g c = record {
  outcomes = search rules;
  sound = search rules;
  register = search rules;
  empty = search rules;
  at_once = search rules;
  idle = search rules;
}

pub returns-then-not-has_room-clause-refuses : goal.returns-then-not-has_room-clause-refuses
returns-then-not-has_room-clause-refuses g c = record {
  broken = search rules;
  only_broken = search rules;
  unready = search rules;
  only_unready = λ is.
      (c.if-self.false, no_room g.row.A.Denot c.args.self.now.journal c.args.commands.now (sym c.has_room.ensures.exact ∙ c.if-not-has_room.true), refl);
  memory = search rules;
  fault = search rules;
  kinds = search rules;
}

pub returns-then-not-has_room-clause-calls : goal.returns-then-not-has_room-clause-calls
returns-then-not-has_room-clause-calls g c = record {
  calls = search rules;
  some_calls = λ honest. (
    [],
    false,
    none_recorded g.row.A.Denot c.args.self.now.register c.args.self.now.register (asked c.args.commands.now) refl,
    λ is.
        absurd (false≢true is),
    made_none (g.D.Disk.view c.args.self.now.disk) _,
  );
  calls_on_any_disk = search rules;
  some_calls_on_any_disk = (
    [],
    false,
    false,
    none_recorded g.row.A.Denot c.args.self.now.register c.args.self.now.register (asked c.args.commands.now) refl,
    λ is.
        absurd (false≢true is),
    made_none (g.D.Disk.view c.args.self.now.disk) _,
  );
}

pub returns-then-is_empty-clause-keeps : goal.returns-then-is_empty-clause-keeps
returns-then-is_empty-clause-keeps g c = record {
  fault = search rules;
  sectors = search rules;
  later = search rules;
  honest = search rules;
}

pub returns-then-is_empty-clause-answers : goal.returns-then-is_empty-clause-answers
returns-then-is_empty-clause-answers g c = record {
  outcomes =
      let nothing : length c.args.commands.now ≡ 0 = no_length (length c.args.commands.now) (sym c.is_empty.ensures ∙ c.if-is_empty.true) in
      let empty : c.new.result.items ≡ [] = search rules in
      none_answered c.args.self.now.register c.args.commands.now c.new.result.items (nil_from_length c.args.commands.now nothing) empty;
  sound = search rules;
  register = search rules;
  empty = search rules;
  at_once = search rules;
  idle = search rules;
}

pub returns-then-is_empty-clause-refuses : goal.returns-then-is_empty-clause-refuses
returns-then-is_empty-clause-refuses g c = record {
  broken = search rules;
  only_broken = search rules;
  unready = λ sound some lacks.
      let nothing : length c.args.commands.now ≡ 0 = no_length (length c.args.commands.now) (sym c.is_empty.ensures ∙ c.if-is_empty.true) in
      absurd (omega (arith, some, nothing));
  only_unready = search rules;
  memory = search rules;
  fault = search rules;
  kinds = search rules;
}

pub returns-then-is_empty-clause-calls : goal.returns-then-is_empty-clause-calls
returns-then-is_empty-clause-calls g c = record {
  calls = λ honest. (
    [],
    none_recorded g.row.A.Denot c.args.self.now.register c.args.self.now.register (asked c.args.commands.now) refl,
    none_kept (view_of c.args.self.now),
    sym (append-nil (g.D.Disk.view c.args.self.now.disk).calls),
  );
  some_calls = λ honest. (
    [],
    false,
    none_recorded g.row.A.Denot c.args.self.now.register c.args.self.now.register (asked c.args.commands.now) refl,
    λ is.
        absurd (false≢true is),
    made_none (g.D.Disk.view c.args.self.now.disk) _,
  );
  calls_on_any_disk = (
    [],
    false,
    none_recorded g.row.A.Denot c.args.self.now.register c.args.self.now.register (asked c.args.commands.now) refl,
    none_kept (view_of c.args.self.now),
    sym (append-nil (g.D.Disk.view c.args.self.now.disk).calls),
  );
  some_calls_on_any_disk = (
    [],
    false,
    false,
    none_recorded g.row.A.Denot c.args.self.now.register c.args.self.now.register (asked c.args.commands.now) refl,
    λ is.
        absurd (false≢true is),
    made_none (g.D.Disk.view c.args.self.now.disk) _,
  );
}

pub returns-then-is_empty-clause-on_disk : goal.returns-then-is_empty-clause-on_disk
returns-then-is_empty-clause-on_disk g c =
    let any : StopsLeave g.row.A.Denot g.D.Disk.view (view_of c.args.self.now) (view_of c.args.self.now)
    (OpensToEither g.row.A.Denot c.args.self.now.register c.args.self.now.register) = λ honest stored.
    only_before g.row.A.Denot c.args.self.now.register c.args.self.now.register (g.D.Disk.view c.args.self.now.disk)
    (g.D.Disk.view c.args.self.now.disk)
    (nothing_done g.row.A.Denot c.args.self.now.layout c.args.self.now.side c.args.self.now.epoch c.args.self.now.journal c.args.self.now.register
    (g.D.Disk.view c.args.self.now.disk) stored.stored (g.met.D.Disk.sound c.args.self.now.disk honest)) in
    record {
      any_moment = any;
      kept = search rules;
      acknowledged = λ honest stored.
          stored_opens g.row.A.Denot c.args.self.now.layout c.args.self.now.side c.args.self.now.epoch c.args.self.now.journal c.args.self.now.register
          (g.D.Disk.view c.args.self.now.disk) stored.stored;
      answered = λ honest.
          is_answered g.row.A.Denot g.D.Disk.view (view_of c.args.self.now) (view_of c.args.self.now) (asked c.args.commands.now) honest
          (any honest) (λ whole stored. stored) c.if-self.false
          c.new.result.items ((returns-then-is_empty-clause-answers g c).outcomes) c.if-self.false;
      unanswered = search rules;
    }

pub invariant_of-self : goal.invariant_of-self
invariant_of-self g c =
    let self = c.args.self.now in
    record {
      room = self.room;
      limits = c.apply_all.ensures.accepted.limits ∙ self.limits;
      first = self.first;
      end = self.end;
      next = self.next;
      counts = omega (arith, self.counts, c.apply_all.ensures.accepted.counted);
      other = belongs_later self.layout self.side self.epoch self.journal self.register.count c.apply_all.new.register.count self.ongoing self.other
          (omega (arith, c.apply_all.ensures.accepted.counted));
      stored = in_call true refl;
    }

pub persist-requires : goal.persist-requires
persist-requires g c = record {
  in_call = search rules;
  few = search rules;
  fits = fewer_fit g.row.A.Denot c.args.self.now.journal c.deref.result.now c.apply_all.new.accepted.items c.args.commands.now
      _ c.deref.ensures.value c.apply_all.ensures.accepted.size
      (it_fits g.row.A.Denot c.args.self.now.journal c.args.commands.now (sym c.has_room.ensures.exact ∙ c.if-not-has_room.false));
  counted = rw c.deref.ensures.value (omega (arith, c.apply_all.ensures.accepted.counted, c.args.self.now.counts));
  other_counted =
      let self = c.args.self.now in
      rw c.deref.ensures.value
      (counts_ongoing self.layout self.side self.epoch self.journal self.register.count c.apply_all.new.register.count self.ongoing self.other
      (length c.apply_all.new.accepted.items) (omega (arith, c.apply_all.ensures.accepted.counted)));
}

pub returns-in_err-persist-clause-keeps : goal.returns-in_err-persist-clause-keeps
returns-in_err-persist-clause-keeps g c = record {
  fault = search rules;
  sectors = search rules;
  later = search rules;
  honest = search rules;
}

pub returns-in_err-persist-clause-answers : goal.returns-in_err-persist-clause-answers
returns-in_err-persist-clause-answers g c = record {
  outcomes = search rules;
  sound = search rules;
  register =
      on_err _ (inr (batch_done c.args.self.now.register c.args.self.now.register c.apply_all.new.register c.persist.new.self.register
      (asked c.args.commands.now) c.apply_all.new.outcomes.items refl c.persist.ensures.steps.same.1 c.apply_all.ensures.answered));
  empty = search rules;
  at_once = search rules;
  idle = search rules;
}

pub returns-in_err-persist-clause-refuses : goal.returns-in_err-persist-clause-refuses
returns-in_err-persist-clause-refuses g c = record {
  broken = search rules;
  only_broken = search rules;
  unready = search rules;
  only_unready = search rules;
  memory = search rules;
  fault = search rules;
  kinds = search rules;
}

pub returns-in_err-persist-clause-calls : goal.returns-in_err-persist-clause-calls
returns-in_err-persist-clause-calls g c = record {
  calls = search rules;
  some_calls = λ honest.
      let self = c.args.self.now in
      let these = given g.row.A.Denot c.deref.result.now in
      let recorded = recorded_after g.row.A.Denot self.register self.register c.apply_all.new.register c.persist.new.self.register
      (asked c.args.commands.now) c.deref.result.now c.apply_all.new.accepted.items refl c.deref.ensures.value c.persist.ensures.steps.same.1
      c.apply_all.ensures.accepted.recorded in
      let some = c.persist.ensures.calls.some_calls honest in
      (these, some.0, recorded, some.1, some.2);
  calls_on_any_disk = search rules;
  some_calls_on_any_disk =
      let self = c.args.self.now in
      let these = given g.row.A.Denot c.deref.result.now in
      let recorded = recorded_after g.row.A.Denot self.register self.register c.apply_all.new.register c.persist.new.self.register
      (asked c.args.commands.now) c.deref.result.now c.apply_all.new.accepted.items refl c.deref.ensures.value c.persist.ensures.steps.same.1
      c.apply_all.ensures.accepted.recorded in
      let some = c.persist.ensures.calls.some_calls_on_any_disk in
      (these, some.0, some.1, recorded, some.2, some.3);
}

pub returns-in_err-persist-clause-on_disk : goal.returns-in_err-persist-clause-on_disk
returns-in_err-persist-clause-on_disk g c =
    let any : StopsLeave g.row.A.Denot g.D.Disk.view (view_of c.args.self.now) (view_of c.persist.new.self)
    (OpensToEither g.row.A.Denot c.args.self.now.register c.persist.new.self.register) = λ honest stored.
    let s = c.args.self.now.register in
    let t = c.apply_all.new.register in
    let history = batch_history s t c.deref.result.now c.apply_all.new.accepted.items c.deref.ensures.value c.apply_all.ensures.accepted.history in
    let made = batch_made s t c.deref.result.now c.apply_all.new.accepted.items c.deref.ensures.value c.apply_all.ensures.accepted.state in
    batch_leaves g.row.A.Denot s t c.persist.new.self.register c.persist.ensures.steps.same.1 (g.D.Disk.view c.args.self.now.disk)
    (g.D.Disk.view c.persist.new.self.disk) (c.persist.ensures.on_disk.any_moment s history made honest stored) in
    record {
      any_moment = any;
      kept = search rules;
      acknowledged = search rules;
      answered = search rules;
      unanswered =
          let call : (g.D.Disk.view c.args.self.now.disk).honest → IsUnansweredCall g.row.A.Denot g.D.Disk.view (view_of c.args.self.now) (asked c.args.commands.now)
          (view_of c.persist.new.self) = λ honest.
          is_unanswered g.row.A.Denot g.D.Disk.view (view_of c.args.self.now) (view_of c.persist.new.self) (asked c.args.commands.now) (c.persist.ensures.steps.honest honest)
          (any honest) (λ whole stored. absurd (true≢false (sym c.persist.ensures.steps.in_call ∙ whole))) c.if-self.false
          ((returns-in_err-persist-clause-calls g c).some_calls honest).0 ((returns-in_err-persist-clause-calls g c).some_calls honest).2 in
          on_err _ call;
    }

pub invariant_of-self-2 : goal.invariant_of-self-2
invariant_of-self-2 g c =
    let s = c.args.self.now.register in
    let t = c.apply_all.new.register in
    let history = batch_history s t c.deref.result.now c.apply_all.new.accepted.items c.deref.ensures.value c.apply_all.ensures.accepted.history in
    let made = batch_made s t c.deref.result.now c.apply_all.new.accepted.items c.deref.ensures.value c.apply_all.ensures.accepted.state in
    let self = c.persist.new.self in
    record {
      room = self.room;
      limits = self.limits;
      first = self.first;
      end = self.end;
      next = self.next;
      counts = self.counts;
      other = self.other;
      stored = ∥∥₁_map c.args.self.now.stored (λ is whole found.
          let was = is c.if-self.false (subst (λ (disk : g.row.D.Denot). (g.D.Disk.view disk).honest) c.persist.ensures.steps.same.3 found) in (
            c.persist.ensures.steps.honest was.0,
            batch_kept g.row.A.Denot self.layout self.side self.epoch self.journal self.ongoing t self.register (g.D.Disk.view self.disk)
                c.persist.ensures.steps.same.1 (c.in_ok-persist.ensures.on_disk.kept s history made was.0 was.1),
          ));
    }

pub returns-clause-keeps : goal.returns-clause-keeps
returns-clause-keeps g c = record {
  fault = search rules;
  sectors = search rules;
  later = search rules;
  honest = search rules;
}

pub returns-clause-answers : goal.returns-clause-answers
returns-clause-answers g c = record {
  outcomes = search rules;
  sound = search rules;
  register = search rules;
  empty = search rules;
  at_once = search rules;
  idle = search rules;
}

pub returns-clause-refuses : goal.returns-clause-refuses
returns-clause-refuses g c = record {
  broken = search rules;
  only_broken = search rules;
  unready = search rules;
  only_unready = search rules;
  memory = search rules;
  fault = search rules;
  kinds = search rules;
}

pub returns-clause-calls : goal.returns-clause-calls
returns-clause-calls g c = record {
  calls = λ honest.
      let self = c.args.self.now in
      let these = given g.row.A.Denot c.deref.result.now in
      let recorded = recorded_after g.row.A.Denot self.register self.register c.apply_all.new.register c.persist.new.self.register
      (asked c.args.commands.now) c.deref.result.now c.apply_all.new.accepted.items refl c.deref.ensures.value c.persist.ensures.steps.same.1
      c.apply_all.ensures.accepted.recorded in
      let kept = kept_from _ (view_of self) (view_of c.persist.new.self) these c.in_ok-persist.ensures.on_disk.goes refl refl refl refl refl in
      let last = kept_so (view_of c.persist.new.self) false (view_of self) these kept in
      (these, recorded, last, c.in_ok-persist.ensures.calls.calls honest);
  some_calls = λ honest.
      let self = c.args.self.now in
      let these = given g.row.A.Denot c.deref.result.now in
      let recorded = recorded_after g.row.A.Denot self.register self.register c.apply_all.new.register c.persist.new.self.register
      (asked c.args.commands.now) c.deref.result.now c.apply_all.new.accepted.items refl c.deref.ensures.value c.persist.ensures.steps.same.1
      c.apply_all.ensures.accepted.recorded in
      let some = c.persist.ensures.calls.some_calls honest in
      (these, some.0, recorded, some.1, some.2);
  calls_on_any_disk =
      let self = c.args.self.now in
      let these = given g.row.A.Denot c.deref.result.now in
      let recorded = recorded_after g.row.A.Denot self.register self.register c.apply_all.new.register c.persist.new.self.register
      (asked c.args.commands.now) c.deref.result.now c.apply_all.new.accepted.items refl c.deref.ensures.value c.persist.ensures.steps.same.1
      c.apply_all.ensures.accepted.recorded in
      let kept = kept_from _ (view_of self) (view_of c.persist.new.self) these c.in_ok-persist.ensures.on_disk.goes refl refl refl refl refl in
      let last = kept_so (view_of c.persist.new.self) false (view_of self) these kept in
      let all = c.in_ok-persist.ensures.calls.calls_on_any_disk in
      (these, all.0, recorded, last, all.1);
  some_calls_on_any_disk =
      let self = c.args.self.now in
      let these = given g.row.A.Denot c.deref.result.now in
      let recorded = recorded_after g.row.A.Denot self.register self.register c.apply_all.new.register c.persist.new.self.register
      (asked c.args.commands.now) c.deref.result.now c.apply_all.new.accepted.items refl c.deref.ensures.value c.persist.ensures.steps.same.1
      c.apply_all.ensures.accepted.recorded in
      let some = c.persist.ensures.calls.some_calls_on_any_disk in
      (these, some.0, some.1, recorded, some.2, some.3);
}

pub returns-clause-on_disk : goal.returns-clause-on_disk
returns-clause-on_disk g c =
    let any : StopsLeave g.row.A.Denot g.D.Disk.view (view_of c.args.self.now) (record (view_of c.persist.new.self) { broken = false })
    (OpensToEither g.row.A.Denot c.args.self.now.register c.persist.new.self.register) = λ honest stored.
    let s = c.args.self.now.register in
    let t = c.apply_all.new.register in
    let history = batch_history s t c.deref.result.now c.apply_all.new.accepted.items c.deref.ensures.value c.apply_all.ensures.accepted.history in
    let made = batch_made s t c.deref.result.now c.apply_all.new.accepted.items c.deref.ensures.value c.apply_all.ensures.accepted.state in
    batch_leaves g.row.A.Denot s t c.persist.new.self.register c.persist.ensures.steps.same.1 (g.D.Disk.view c.args.self.now.disk)
    (g.D.Disk.view c.persist.new.self.disk) (c.persist.ensures.on_disk.any_moment s history made honest stored) in
    let stays : StaysKept g.row.A.Denot g.D.Disk.view (view_of c.args.self.now) (record (view_of c.persist.new.self) { broken = false }) = λ honest stored.
    let s = c.args.self.now.register in
    let t = c.apply_all.new.register in
    let history = batch_history s t c.deref.result.now c.apply_all.new.accepted.items c.deref.ensures.value c.apply_all.ensures.accepted.history in
    let made = batch_made s t c.deref.result.now c.apply_all.new.accepted.items c.deref.ensures.value c.apply_all.ensures.accepted.state in
    let self = c.persist.new.self in
    batch_kept g.row.A.Denot self.layout self.side self.epoch self.journal self.ongoing t self.register (g.D.Disk.view self.disk)
    c.persist.ensures.steps.same.1 (c.in_ok-persist.ensures.on_disk.kept s history made honest stored) in
    record {
      any_moment = any;
      kept = stays;
      acknowledged = λ honest stored.
          let self = c.persist.new.self in
          stored_opens g.row.A.Denot self.layout self.side self.epoch self.journal self.register (g.D.Disk.view self.disk) (stays honest stored).stored;
      answered = λ honest.
          is_answered g.row.A.Denot g.D.Disk.view (view_of c.args.self.now) (record (view_of c.persist.new.self) { broken = false }) (asked c.args.commands.now) (c.persist.ensures.steps.honest honest)
          (any honest) (λ whole. stays honest) c.if-self.false
          c.apply_all.new.outcomes.items
          (answered_later c.args.self.now.register c.args.self.now.register c.apply_all.new.register c.persist.new.self.register (asked c.args.commands.now)
          c.apply_all.new.outcomes.items refl c.persist.ensures.steps.same.1 c.apply_all.ensures.answered)
          refl;
      unanswered = search rules;
    }
