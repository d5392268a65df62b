use Rattle.std.proofs.Common.{rules, ◌≡◌, ◌≤◌, [], length, false, inl, ap, subst, sym, refl, ◌∙◌}
use Rattle.std.proofs.lemmas.Bool.{true≢false}
use Rattle.std.proofs.lemmas.Result.{on_ok_weaker}
use Rattle.sector_disk.specs.Run.{LeavesOnly}
use Rattle.sector_disk.proofs.Moments.{weaker}
use Rattle.gated_journal.specs.Half.{is_open}
use Rattle.std.proofs.lemmas.List.{append-nil, nil_from_length}
use Rattle.sector_disk.proofs.Made.{made_none}
use Rattle.centre_core.specs.State.{State}
use Rattle.centre_core.specs.History.{after}
use Rattle.checkpoint.specs.Calls.{is_root_open}
use Rattle.checkpoint.specs.Layout.{other_of}
use Rattle.recovery.specs.Lives.{view_of}
use Rattle.recovery.specs.Outcomes.{OpensToEither, asked}
use Rattle.recovery.specs.UnderWay.{IsKept}
use Rattle.recovery.proofs.KeptOn.{kept_by, made_all, made_record, made_some, then_as_it_is}
use Rattle.recovery.proofs.Stored.{no_length, nothing_done, some_length}
use Rattle.recovery.proofs.store.Store.persist.Goals as goal

pub returns-then-is_empty-clause-on_disk : goal.returns-then-is_empty-clause-on_disk
returns-then-is_empty-clause-on_disk g c = record {
  any_moment = λ state history made honest kept.
      let none : c.args.accepted.now ≡ [] = nil_from_length c.args.accepted.now (no_length (length c.args.accepted.now) (sym c.is_empty.ensures ∙ c.if-is_empty.true)) in
      let same : c.args.self.now.register ≡ state = rw none at made in
      weaker (g.D.Disk.view c.args.self.now.disk) (g.D.Disk.view c.args.self.now.disk) _ _
      (nothing_done g.row.A.Denot c.args.self.now.layout c.args.self.now.side c.args.self.now.epoch c.args.self.now.journal state
      (g.D.Disk.view c.args.self.now.disk) kept.stored (g.met.D.Disk.sound c.args.self.now.disk honest)) (λ image is. inl is);
  kept = λ state history made honest kept.
      let none : c.args.accepted.now ≡ [] = nil_from_length c.args.accepted.now (no_length (length c.args.accepted.now) (sym c.is_empty.ensures ∙ c.if-is_empty.true)) in
      let same : c.args.self.now.register ≡ state = rw none at made in
      rw same kept;
  goes =
      let none : c.args.accepted.now ≡ [] = nil_from_length c.args.accepted.now (no_length (length c.args.accepted.now) (sym c.is_empty.ensures ∙ c.if-is_empty.true)) in
      rw none (record { side = refl; epoch = refl; journal = refl }, refl);
}

pub returns-then-is_empty-clause-calls : goal.returns-then-is_empty-clause-calls
returns-then-is_empty-clause-calls g c = record {
  calls = λ honest.
      let none : c.args.accepted.now ≡ [] = nil_from_length c.args.accepted.now (no_length (length c.args.accepted.now) (sym c.is_empty.ensures ∙ c.if-is_empty.true)) in
      rw none (sym (append-nil (g.D.Disk.view c.args.self.now.disk).calls));
  some_calls = λ honest. (false, λ is. absurd (true≢false (sym is)), made_none (g.D.Disk.view c.args.self.now.disk) _);
  calls_on_any_disk =
      let none : c.args.accepted.now ≡ [] = nil_from_length c.args.accepted.now (no_length (length c.args.accepted.now) (sym c.is_empty.ensures ∙ c.if-is_empty.true)) in
      (false, rw none (sym (append-nil (g.D.Disk.view c.args.self.now.disk).calls)));
  some_calls_on_any_disk = (false, false, λ is. absurd (true≢false (sym is)), made_none (g.D.Disk.view c.args.self.now.disk) _);
}

pub returns-then-is_empty-clause-steps : goal.returns-then-is_empty-clause-steps
returns-then-is_empty-clause-steps g c = record {
  same = search rules;
  in_call = search rules;
  fault = search rules;
  sectors = search rules;
  later = search rules;
  honest = search rules;
}

pub returns-in_err-add_record-clause-on_disk : goal.returns-in_err-add_record-clause-on_disk
returns-in_err-add_record-clause-on_disk g c = record {
  any_moment = λ state history made honest kept.
      subst (λ (t : State). LeavesOnly (g.D.Disk.view c.args.self.now.disk) (g.D.Disk.view c.add_record.new.self.disk)
      (OpensToEither g.row.A.Denot state t)) (sym made) (c.add_record.ensures.adds.any_moment state history honest kept);
  kept = search rules;
  goes = search rules;
}

pub returns-in_err-add_record-clause-calls : goal.returns-in_err-add_record-clause-calls
returns-in_err-add_record-clause-calls g c = record {
  calls = search rules;
  some_calls = λ honest.
      let some : 1 ≤ length c.args.accepted.now = some_length (length c.args.accepted.now) (sym c.is_empty.ensures ∙ c.if-is_empty.false) in (
        false,
        λ is. absurd (true≢false (sym is)),
        made_record c.args.self.now.layout c.args.self.now.side c.args.self.now.epoch c.args.self.now.journal
            c.args.self.now.ongoing c.args.accepted.now some false (is_root_open (other_of c.args.self.now.side) (g.D.Disk.view c.args.self.now.disk).reads)
            (g.D.Disk.view c.args.self.now.disk) (g.D.Disk.view c.add_record.new.self.disk) c.add_record.ensures.adds.some_calls,
      );
  calls_on_any_disk = search rules;
  some_calls_on_any_disk =
      let some : 1 ≤ length c.args.accepted.now = some_length (length c.args.accepted.now) (sym c.is_empty.ensures ∙ c.if-is_empty.false) in (
        false,
        false,
        λ is. absurd (true≢false (sym is)),
        made_record c.args.self.now.layout c.args.self.now.side c.args.self.now.epoch
            c.args.self.now.journal c.args.self.now.ongoing c.args.accepted.now some false false (g.D.Disk.view c.args.self.now.disk)
            (g.D.Disk.view c.add_record.new.self.disk) c.add_record.ensures.adds.some_calls,
      );
}

pub returns-in_err-add_record-clause-steps : goal.returns-in_err-add_record-clause-steps
returns-in_err-add_record-clause-steps g c = record {
  same = search rules;
  in_call = search rules;
  fault = search rules;
  sectors = search rules;
  later = search rules;
  honest = search rules;
}

pub returns-clause-on_disk : goal.returns-clause-on_disk
returns-clause-on_disk g c = record {
  any_moment = λ state history made honest kept.
      let mid_honest = c.add_record.ensures.adds.honest honest in
      let register : c.add_record.new.self.register ≡ after state (asked c.args.accepted.now) = c.add_record.ensures.adds.same.3 ∙ made in
      let mid_kept : IsKept g.row.A.Denot c.add_record.new.self.layout c.add_record.new.self.side c.add_record.new.self.epoch
      c.add_record.new.self.journal c.add_record.new.self.ongoing c.add_record.new.self.register (g.D.Disk.view c.add_record.new.self.disk) =
      subst (λ (t : State). IsKept g.row.A.Denot c.add_record.new.self.layout c.add_record.new.self.side c.add_record.new.self.epoch
      c.add_record.new.self.journal c.add_record.new.self.ongoing t (g.D.Disk.view c.add_record.new.self.disk)) (sym register)
      (c.in_ok-add_record.ensures.adds.kept state history honest kept) in
      let same : c.args.self.now.register ≡ c.add_record.new.self.register = sym c.add_record.ensures.adds.same.3 in
      subst (λ (t : State). LeavesOnly (g.D.Disk.view c.args.self.now.disk) (g.D.Disk.view c.advance_checkpoint.new.self.disk) (OpensToEither g.row.A.Denot state t)) (sym same)
      (then_as_it_is g.row.A.Denot state (after state (asked c.args.accepted.now)) c.add_record.new.self.register (g.D.Disk.view c.args.self.now.disk)
      (g.D.Disk.view c.add_record.new.self.disk) (g.D.Disk.view c.advance_checkpoint.new.self.disk) register
      (c.add_record.ensures.adds.any_moment state history honest kept) (c.advance_checkpoint.ensures.on_disk.any_moment mid_honest mid_kept));
  kept =
      on_ok_weaker c.advance_checkpoint.result (λ then state history made honest kept.
      let mid_honest = c.add_record.ensures.adds.honest honest in
      let register : c.add_record.new.self.register ≡ after state (asked c.args.accepted.now) = c.add_record.ensures.adds.same.3 ∙ made in
      let mid_kept : IsKept g.row.A.Denot c.add_record.new.self.layout c.add_record.new.self.side c.add_record.new.self.epoch
      c.add_record.new.self.journal c.add_record.new.self.ongoing c.add_record.new.self.register (g.D.Disk.view c.add_record.new.self.disk) =
      subst (λ (t : State). IsKept g.row.A.Denot c.add_record.new.self.layout c.add_record.new.self.side c.add_record.new.self.epoch
      c.add_record.new.self.journal c.add_record.new.self.ongoing t (g.D.Disk.view c.add_record.new.self.disk)) (sym register)
      (c.in_ok-add_record.ensures.adds.kept state history honest kept) in
      let same : c.advance_checkpoint.new.self.register ≡ c.args.self.now.register = c.advance_checkpoint.ensures.steps.same.1 ∙ c.add_record.ensures.adds.same.3 in
      subst (λ (t : State). IsKept g.row.A.Denot c.advance_checkpoint.new.self.layout c.advance_checkpoint.new.self.side
      c.advance_checkpoint.new.self.epoch c.advance_checkpoint.new.self.journal c.advance_checkpoint.new.self.ongoing t
      (g.D.Disk.view c.advance_checkpoint.new.self.disk)) same (then mid_honest mid_kept)) c.advance_checkpoint.ensures.on_disk.kept;
  goes =
      let some : 1 ≤ length c.args.accepted.now = some_length (length c.args.accepted.now) (sym c.is_empty.ensures ∙ c.if-is_empty.false) in
      on_ok_weaker c.advance_checkpoint.result
      (λ goes. kept_by (view_of c.args.self.now) (view_of c.add_record.new.self) (view_of c.advance_checkpoint.new.self) c.args.accepted.now some
      c.add_record.ensures.adds.same.0 c.add_record.ensures.adds.same.1 c.add_record.ensures.adds.same.2 c.in_ok-add_record.ensures.adds.journals.0
      c.in_ok-add_record.ensures.adds.journals.1 goes) c.advance_checkpoint.ensures.goes;
}

pub returns-clause-calls : goal.returns-clause-calls
returns-clause-calls g c = record {
  calls =
      let some : 1 ≤ length c.args.accepted.now = some_length (length c.args.accepted.now) (sym c.is_empty.ensures ∙ c.if-is_empty.false) in
      on_ok_weaker c.advance_checkpoint.result (λ then honest.
      let root : is_root_open (other_of c.args.self.now.side) (g.D.Disk.view c.add_record.new.self.disk).reads ≡ is_root_open
      (other_of c.args.self.now.side) (g.D.Disk.view c.args.self.now.disk).reads = ap is_open (c.in_ok-add_record.ensures.adds.root honest) in
      let made = rw (c.add_record.ensures.adds.same.0, c.add_record.ensures.adds.same.1, c.add_record.ensures.adds.same.2, root) at (then (c.add_record.ensures.adds.honest honest)) in
      made_all c.args.self.now.layout c.args.self.now.side c.args.self.now.epoch c.args.self.now.journal c.args.self.now.ongoing c.args.accepted.now
      some _ _ (g.D.Disk.view c.args.self.now.disk) (g.D.Disk.view c.add_record.new.self.disk) (g.D.Disk.view c.advance_checkpoint.new.self.disk)
      c.in_ok-add_record.ensures.adds.calls c.add_record.new.self.ongoing c.in_ok-add_record.ensures.adds.journals.1 made)
      c.advance_checkpoint.ensures.calls.calls;
  some_calls = λ honest.
      let some : 1 ≤ length c.args.accepted.now = some_length (length c.args.accepted.now) (sym c.is_empty.ensures ∙ c.if-is_empty.false) in
      let root : is_root_open (other_of c.args.self.now.side) (g.D.Disk.view c.add_record.new.self.disk).reads ≡ is_root_open
      (other_of c.args.self.now.side) (g.D.Disk.view c.args.self.now.disk).reads = ap is_open (c.in_ok-add_record.ensures.adds.root honest) in
      let then = c.advance_checkpoint.ensures.calls.some_calls (c.add_record.ensures.adds.honest honest) in
      let made = rw (c.add_record.ensures.adds.same.0, c.add_record.ensures.adds.same.1, c.add_record.ensures.adds.same.2, root) at then.2 in
      let may = rw (c.add_record.ensures.adds.same.0, c.add_record.ensures.adds.same.2, c.in_ok-add_record.ensures.adds.journals.0) at then.1 in (
        then.0,
        may,
        made_some c.args.self.now.layout c.args.self.now.side c.args.self.now.epoch c.args.self.now.journal c.args.self.now.ongoing
            c.args.accepted.now some then.0 _ (g.D.Disk.view c.args.self.now.disk) (g.D.Disk.view c.add_record.new.self.disk)
            (g.D.Disk.view c.advance_checkpoint.new.self.disk) c.in_ok-add_record.ensures.adds.calls c.add_record.new.self.ongoing
            c.in_ok-add_record.ensures.adds.journals.1 made,
      );
  calls_on_any_disk =
      let some : 1 ≤ length c.args.accepted.now = some_length (length c.args.accepted.now) (sym c.is_empty.ensures ∙ c.if-is_empty.false) in
      on_ok_weaker c.advance_checkpoint.result (λ then.
      let made = rw (c.add_record.ensures.adds.same.0, c.add_record.ensures.adds.same.1, c.add_record.ensures.adds.same.2) at then.1 in (
        then.0,
        made_all c.args.self.now.layout c.args.self.now.side c.args.self.now.epoch c.args.self.now.journal c.args.self.now.ongoing
            c.args.accepted.now some _ then.0 (g.D.Disk.view c.args.self.now.disk) (g.D.Disk.view c.add_record.new.self.disk)
            (g.D.Disk.view c.advance_checkpoint.new.self.disk) c.in_ok-add_record.ensures.adds.calls c.add_record.new.self.ongoing
            c.in_ok-add_record.ensures.adds.journals.1 made,
      )) c.advance_checkpoint.ensures.calls.calls_on_any_disk;
  some_calls_on_any_disk =
      let some : 1 ≤ length c.args.accepted.now = some_length (length c.args.accepted.now) (sym c.is_empty.ensures ∙ c.if-is_empty.false) in
      let then = c.advance_checkpoint.ensures.calls.some_calls_on_any_disk in
      let made = rw (c.add_record.ensures.adds.same.0, c.add_record.ensures.adds.same.1, c.add_record.ensures.adds.same.2) at then.3 in
      let may = rw (c.add_record.ensures.adds.same.0, c.add_record.ensures.adds.same.2, c.in_ok-add_record.ensures.adds.journals.0) at then.2 in (
        then.0,
        then.1,
        may,
        made_some c.args.self.now.layout c.args.self.now.side c.args.self.now.epoch c.args.self.now.journal c.args.self.now.ongoing
            c.args.accepted.now some then.0 then.1 (g.D.Disk.view c.args.self.now.disk) (g.D.Disk.view c.add_record.new.self.disk)
            (g.D.Disk.view c.advance_checkpoint.new.self.disk) c.in_ok-add_record.ensures.adds.calls c.add_record.new.self.ongoing
            c.in_ok-add_record.ensures.adds.journals.1 made,
      );
}

pub returns-clause-steps : goal.returns-clause-steps
returns-clause-steps g c = record {
  same = search rules;
  in_call = search rules;
  fault = search rules;
  sectors = search rules;
  later = search rules;
  honest = search rules;
}
