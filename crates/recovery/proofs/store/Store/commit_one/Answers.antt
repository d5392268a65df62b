use mathlib.Core.Logic.{∥∥₁_map}
use Rattle.std.proofs.Common.{rules, ◌∷◌, [], false, inl, refl, sym, subst, ap, ◌≡◌, true, length, ◌∙◌, arith}
use Rattle.std.specs.Prelude.{is_some}
use Rattle.std.proofs.lemmas.Bool.{true≢false}
use Rattle.sector_disk.proofs.Made.{made_none, made_of_more}
use Rattle.centre_core.specs.History.{is_acceptance}
use Rattle.gated_journal.specs.Record.{given}
use Rattle.checkpoint.specs.Calls.{is_root_open}
use Rattle.checkpoint.specs.Layout.{other_of}
use Rattle.recovery.specs.declared.outcome.Outcome.TheVariants.{Replied}
use Rattle.recovery.specs.Calls.{fits_in, room_calls, room_calls_by}
use Rattle.recovery.specs.AfterCommit.{with_room}
use Rattle.recovery.specs.Lives.{view_of}
use Rattle.recovery.proofs.Batches.{ends_counted, ends_history, ends_recorded, ends_size, ends_state, none_recorded, recorded_after}
use Rattle.recovery.proofs.Committed.{batch_kept, begins_none, belongs_later, counts_ongoing, desk_leaves, it_fits, kept_from, kept_so, made_then}
use Rattle.recovery.proofs.Committed.{room_calls_are, room_calls_read, room_kept, room_may, some_then}
use Rattle.recovery.proofs.InCall.{in_call}
use Rattle.recovery.proofs.Limited.{result_limits}
use Rattle.recovery.proofs.OneCommand.{after_one, by_room, err_part, few_kept, one_ends, result_counts}
use Rattle.recovery.proofs.Stored.{fewer_fit, nothing_done, only_before}
use Rattle.recovery.proofs.store.Store.commit_one.Goals as goal

pub returns-then-self-clause-on_disk : goal.returns-then-self-clause-on_disk
returns-then-self-clause-on_disk g c = record {
  register = inl refl;
  any_moment = λ honest stored.
      only_before g.row.A.Denot c.args.self.now.register c.args.self.now.register (g.D.Disk.view c.args.self.now.disk)
      (g.D.Disk.view c.args.self.now.disk)
      (nothing_done g.row.A.Denot c.args.self.now.layout c.args.self.now.side c.args.self.now.epoch c.args.self.now.journal c.args.self.now.register
      (g.D.Disk.view c.args.self.now.disk) stored.stored (g.met.D.Disk.sound c.args.self.now.disk honest));
  kept = search rules;
}

pub returns-then-self-clause-calls : goal.returns-then-self-clause-calls
returns-then-self-clause-calls g c = record {
  calls = search rules;
  some_calls = λ honest. (
    [],
    false,
    false,
    none_recorded g.row.A.Denot c.args.self.now.register c.args.self.now.register (c.args.command.now ∷ []) refl,
    begins_none (view_of c.args.self.now) (fits_in g.row.A.Denot c.args.self.now.journal (c.args.command ∷ [])) [],
    made_none (g.D.Disk.view c.args.self.now.disk) _,
  );
  calls_on_any_disk = search rules;
  some_calls_on_any_disk = (
    [],
    false,
    false,
    false,
    none_recorded g.row.A.Denot c.args.self.now.register c.args.self.now.register (c.args.command.now ∷ []) refl,
    begins_none (view_of c.args.self.now) (fits_in g.row.A.Denot c.args.self.now.journal (c.args.command ∷ [])) [],
    made_none (g.D.Disk.view c.args.self.now.disk) _,
  );
}

pub returns-then-self-clause-refuses : goal.returns-then-self-clause-refuses
returns-then-self-clause-refuses g c = record {
  broken = search rules;
  only_broken = search rules;
  sound = search rules;
  memory = search rules;
  place = search rules;
  epochs = search rules;
  full = search rules;
  fault = search rules;
  kinds = search rules;
}

pub returns-in_err-make_room-clause-on_disk : goal.returns-in_err-make_room-clause-on_disk
returns-in_err-make_room-clause-on_disk g c = record {
  register = inl c.make_room.ensures.stays.same.1;
  any_moment = λ honest stored.
      only_before g.row.A.Denot c.args.self.now.register c.make_room.new.self.register (g.D.Disk.view c.args.self.now.disk)
      (g.D.Disk.view c.make_room.new.self.disk) (c.make_room.ensures.on_disk.any_moment honest stored);
  kept = λ sound.
      by_room c.make_room.result c.make_room.ensures.on_disk.kept c.make_room.ensures.fails.kinds
      (λ is honest stored. rw (c.make_room.ensures.fails.only_broken is).1 stored)
      (λ is honest stored.
      let stays = err_part is c.make_room.ensures.stays.unmoved in
      rw (c.make_room.ensures.stays.same.0, c.make_room.ensures.stays.same.1, stays.0, stays.1, stays.2, (c.make_room.ensures.fails.epochs is).1, (c.make_room.ensures.fails.epochs is).3) stored)
      (λ is honest stored. absurd (true≢false (sym (c.make_room.ensures.fails.fault is).0 ∙ sound)));
}

pub returns-in_err-make_room-clause-calls : goal.returns-in_err-make_room-clause-calls
returns-in_err-make_room-clause-calls g c = record {
  calls = search rules;
  some_calls = λ honest.
      let self = c.args.self.now in
      let fits = fits_in g.row.A.Denot self.journal (c.args.command ∷ []) in
      let old = g.D.Disk.view self.disk in (
        [],
        false,
        false,
        none_recorded g.row.A.Denot self.register c.make_room.new.self.register (c.args.command.now ∷ []) c.make_room.ensures.stays.same.1,
        begins_none (view_of self) fits [],
        made_of_more old (g.D.Disk.view c.make_room.new.self.disk) (room_calls self.layout self.side self.epoch self.register old.reads fits) [] (c.make_room.ensures.calls.some_calls honest),
      );
  calls_on_any_disk = search rules;
  some_calls_on_any_disk =
      let self = c.args.self.now in
      let fits = fits_in g.row.A.Denot self.journal (c.args.command ∷ []) in
      let old = g.D.Disk.view self.disk in
      let all = c.make_room.ensures.calls.some_calls_on_any_disk in (
        [],
        false,
        all.0,
        false,
        none_recorded g.row.A.Denot self.register c.make_room.new.self.register (c.args.command.now ∷ []) c.make_room.ensures.stays.same.1,
        begins_none (view_of self) fits [],
        made_of_more old (g.D.Disk.view c.make_room.new.self.disk) (room_calls_by self.layout self.side self.epoch self.register all.0 fits) [] all.1,
      );
}

pub returns-in_err-make_room-clause-refuses : goal.returns-in_err-make_room-clause-refuses
returns-in_err-make_room-clause-refuses g c = record {
  broken = search rules;
  only_broken = search rules;
  sound = search rules;
  memory = search rules;
  place = search rules;
  epochs = search rules;
  full = search rules;
  fault = search rules;
  kinds = search rules;
}

pub returns-in_default-clause-on_disk : goal.returns-in_default-clause-on_disk
returns-in_default-clause-on_disk g c = record {
  register = inl (c.in_default.ensures.err ∙ c.make_room.ensures.stays.same.1);
  any_moment = λ honest stored.
      only_before g.row.A.Denot c.args.self.now.register c.apply.new.self (g.D.Disk.view c.args.self.now.disk) (g.D.Disk.view c.make_room.new.self.disk)
      (c.make_room.ensures.on_disk.any_moment honest stored);
  kept = λ sound honest stored. rw c.in_default.ensures.err (c.in_ok-make_room.ensures.on_disk.kept honest stored);
}

pub returns-in_default-clause-calls : goal.returns-in_default-clause-calls
returns-in_default-clause-calls g c = record {
  calls = search rules;
  some_calls = λ honest.
      let self = c.args.self.now in
      let fits = fits_in g.row.A.Denot self.journal (c.args.command ∷ []) in
      let old = g.D.Disk.view self.disk in (
        [],
        false,
        false,
        none_recorded g.row.A.Denot self.register c.apply.new.self (c.args.command.now ∷ []) (c.in_default.ensures.err ∙ c.make_room.ensures.stays.same.1),
        begins_none (view_of self) fits [],
        made_of_more old (g.D.Disk.view c.make_room.new.self.disk) (room_calls self.layout self.side self.epoch self.register old.reads fits) [] (c.make_room.ensures.calls.some_calls honest),
      );
  calls_on_any_disk = search rules;
  some_calls_on_any_disk =
      let self = c.args.self.now in
      let fits = fits_in g.row.A.Denot self.journal (c.args.command ∷ []) in
      let old = g.D.Disk.view self.disk in
      let all = c.make_room.ensures.calls.some_calls_on_any_disk in (
        [],
        false,
        all.0,
        false,
        none_recorded g.row.A.Denot self.register c.apply.new.self (c.args.command.now ∷ []) (c.in_default.ensures.err ∙ c.make_room.ensures.stays.same.1),
        begins_none (view_of self) fits [],
        made_of_more old (g.D.Disk.view c.make_room.new.self.disk) (room_calls_by self.layout self.side self.epoch self.register all.0 fits) [] all.1,
      );
}

pub returns-in_default-clause-refuses : goal.returns-in_default-clause-refuses
returns-in_default-clause-refuses g c = record {
  broken = search rules;
  only_broken = search rules;
  sound = search rules;
  memory = search rules;
  place = search rules;
  epochs = search rules;
  full = search rules;
  fault = search rules;
  kinds = search rules;
}

pub invariant_of-self : goal.invariant_of-self
invariant_of-self g c =
    let self = c.make_room.new.self in
    let more = result_counts self.register c.apply.new.self c.args.command.now c.apply.result c.apply.ensures.ok c.apply.ensures.err in
    record {
      room = self.room;
      limits = result_limits self.register c.apply.new.self c.args.command.now c.apply.result c.apply.ensures.ok c.apply.ensures.err ∙ self.limits;
      first = self.first;
      end = self.end;
      next = self.next;
      counts = omega (arith, self.counts, more);
      other = belongs_later self.layout self.side self.epoch self.journal self.register.count c.apply.new.self.count self.ongoing self.other more;
      stored = in_call true refl;
    }

pub persist-requires : goal.persist-requires
persist-requires g c = record {
  in_call = search rules;
  few = few_kept (is_acceptance c.in-Ok.reply) c.args.command c.if_accepted.result.now c.if_accepted.ensures;
  fits =
      let kept = c.if_accepted.result.now in
      let ends = one_ends c.make_room.new.self.register c.apply.new.self c.in-Ok.reply c.args.command.now c.in-Ok.ensures.ok c.args.command kept refl c.if_accepted.ensures in
      fewer_fit g.row.A.Denot c.make_room.new.self.journal kept kept (c.args.command ∷ []) _ refl
      (ends_size c.make_room.new.self.register c.apply.new.self (c.args.command ∷ []) kept (Replied c.in-Ok.reply ∷ []) ends)
      c.in_ok-make_room.ensures.fits;
  counted =
      let kept = c.if_accepted.result.now in
      let ends = one_ends c.make_room.new.self.register c.apply.new.self c.in-Ok.reply c.args.command.now c.in-Ok.ensures.ok c.args.command kept refl c.if_accepted.ensures in
      omega (arith, ends_counted c.make_room.new.self.register c.apply.new.self (c.args.command ∷ []) kept (Replied c.in-Ok.reply ∷ []) ends, c.make_room.new.self.counts);
  other_counted =
      let self = c.make_room.new.self in
      let m = c.make_room.new.self.register in
      let t = c.apply.new.self in
      let kept = c.if_accepted.result.now in
      let one = Replied c.in-Ok.reply ∷ [] in
      let ends = one_ends m t c.in-Ok.reply c.args.command.now c.in-Ok.ensures.ok c.args.command kept refl c.if_accepted.ensures in
      counts_ongoing self.layout self.side self.epoch self.journal self.register.count t.count self.ongoing self.other (length kept)
      (omega (arith, ends_counted m t (c.args.command ∷ []) kept one ends));
}

pub returns-in_err-persist-clause-on_disk : goal.returns-in_err-persist-clause-on_disk
returns-in_err-persist-clause-on_disk g c = record {
  register = after_one c.make_room.new.self.register c.apply.new.self c.in-Ok.reply c.args.command.now c.in-Ok.ensures.ok
      c.args.self.now.register c.persist.new.self.register c.make_room.ensures.stays.same.1 c.persist.ensures.steps.same.1;
  any_moment = λ honest stored.
      let self = c.args.self.now in
      let m = c.make_room.new.self.register in
      let t = c.apply.new.self in
      let kept = c.if_accepted.result.now in
      let one = Replied c.in-Ok.reply ∷ [] in
      let ends = one_ends m t c.in-Ok.reply c.args.command.now c.in-Ok.ensures.ok c.args.command kept refl c.if_accepted.ensures in
      desk_leaves g.row.A.Denot self.register m t c.persist.new.self.register c.make_room.ensures.stays.same.1 c.persist.ensures.steps.same.1
      (g.D.Disk.view self.disk) (g.D.Disk.view c.make_room.new.self.disk) (g.D.Disk.view c.persist.new.self.disk) (c.make_room.ensures.on_disk.any_moment honest stored)
      (c.persist.ensures.on_disk.any_moment m (ends_history m t (c.args.command ∷ []) kept one ends) (ends_state m t (c.args.command ∷ []) kept one ends)
      (c.make_room.ensures.keeps.honest honest) (c.in_ok-make_room.ensures.on_disk.kept honest stored));
  kept = search rules;
}

pub returns-in_err-persist-clause-calls : goal.returns-in_err-persist-clause-calls
returns-in_err-persist-clause-calls g c = record {
  calls = search rules;
  some_calls = λ honest.
      let self = c.args.self.now in
      let room = c.make_room.new.self in
      let m = c.make_room.new.self.register in
      let t = c.apply.new.self in
      let kept = c.if_accepted.result.now in
      let one = Replied c.in-Ok.reply ∷ [] in
      let ends = one_ends m t c.in-Ok.reply c.args.command.now c.in-Ok.ensures.ok c.args.command kept refl c.if_accepted.ensures in
      let fits = fits_in g.row.A.Denot self.journal (c.args.command ∷ []) in
      let now = with_room fits (view_of self) in
      let old = g.D.Disk.view self.disk in
      let mid = g.D.Disk.view room.disk in
      let new = g.D.Disk.view c.persist.new.self.disk in
      let these = given g.row.A.Denot kept in
      let recorded = recorded_after g.row.A.Denot self.register m t c.persist.new.self.register (c.args.command.now ∷ []) kept kept
      c.make_room.ensures.stays.same.1 refl c.persist.ensures.steps.same.1 (ends_recorded m t (c.args.command ∷ []) kept one ends g.row.A.Denot) in
      let place = c.in_ok-make_room.ensures.place in
      let was_open = is_root_open (other_of self.side) old.reads in
      let also = is_root_open (other_of room.side) mid.reads in
      let same : fits ≡ true → also ≡ was_open = λ is. ap (λ store. is_root_open (other_of store.side) (g.D.Disk.view store.disk).reads)
      (c.make_room.ensures.untouched (it_fits g.row.A.Denot self.journal (c.args.command ∷ []) is)).1 in
      let some = c.persist.ensures.calls.some_calls (c.make_room.ensures.keeps.honest honest) in (
        these,
        some.0,
        also,
        recorded,
        room_may (view_of room) (view_of self) fits c.make_room.ensures.stays.same.0 place these some.0 some.1,
        some_then old mid new (room_calls self.layout self.side self.epoch self.register old.reads fits) _ _ (c.in_ok-make_room.ensures.calls.calls honest)
            (room_calls_read (view_of room) (view_of self) fits c.make_room.ensures.stays.same.0 place these some.0 was_open also same) some.2,
      );
  calls_on_any_disk = search rules;
  some_calls_on_any_disk =
      let self = c.args.self.now in
      let room = c.make_room.new.self in
      let m = c.make_room.new.self.register in
      let t = c.apply.new.self in
      let kept = c.if_accepted.result.now in
      let one = Replied c.in-Ok.reply ∷ [] in
      let ends = one_ends m t c.in-Ok.reply c.args.command.now c.in-Ok.ensures.ok c.args.command kept refl c.if_accepted.ensures in
      let fits = fits_in g.row.A.Denot self.journal (c.args.command ∷ []) in
      let now = with_room fits (view_of self) in
      let old = g.D.Disk.view self.disk in
      let mid = g.D.Disk.view room.disk in
      let new = g.D.Disk.view c.persist.new.self.disk in
      let these = given g.row.A.Denot kept in
      let recorded = recorded_after g.row.A.Denot self.register m t c.persist.new.self.register (c.args.command.now ∷ []) kept kept
      c.make_room.ensures.stays.same.1 refl c.persist.ensures.steps.same.1 (ends_recorded m t (c.args.command ∷ []) kept one ends g.row.A.Denot) in
      let place = c.in_ok-make_room.ensures.place in
      let all = c.in_ok-make_room.ensures.calls.calls_on_any_disk in
      let some = c.persist.ensures.calls.some_calls_on_any_disk in (
        these,
        some.0,
        all.0,
        some.1,
        recorded,
        room_may (view_of room) (view_of self) fits c.make_room.ensures.stays.same.0 place these some.0 some.2,
        some_then old mid new (room_calls_by self.layout self.side self.epoch self.register all.0 fits) _ _ all.1
            (room_calls_are (view_of room) (view_of self) fits c.make_room.ensures.stays.same.0 place these some.0 some.1) some.3,
      );
}

pub returns-in_err-persist-clause-refuses : goal.returns-in_err-persist-clause-refuses
returns-in_err-persist-clause-refuses g c = record {
  broken = search rules;
  only_broken = search rules;
  sound = search rules;
  memory = search rules;
  place = search rules;
  epochs = search rules;
  full = search rules;
  fault = search rules;
  kinds = search rules;
}

pub returns-clause-on_disk : goal.returns-clause-on_disk
returns-clause-on_disk g c = record {
  register = after_one c.make_room.new.self.register c.apply.new.self c.in-Ok.reply c.args.command.now c.in-Ok.ensures.ok
      c.args.self.now.register c.persist.new.self.register c.make_room.ensures.stays.same.1 c.persist.ensures.steps.same.1;
  any_moment = λ honest stored.
      let self = c.args.self.now in
      let m = c.make_room.new.self.register in
      let t = c.apply.new.self in
      let kept = c.if_accepted.result.now in
      let one = Replied c.in-Ok.reply ∷ [] in
      let ends = one_ends m t c.in-Ok.reply c.args.command.now c.in-Ok.ensures.ok c.args.command kept refl c.if_accepted.ensures in
      desk_leaves g.row.A.Denot self.register m t c.persist.new.self.register c.make_room.ensures.stays.same.1 c.persist.ensures.steps.same.1
      (g.D.Disk.view self.disk) (g.D.Disk.view c.make_room.new.self.disk) (g.D.Disk.view c.persist.new.self.disk) (c.make_room.ensures.on_disk.any_moment honest stored)
      (c.persist.ensures.on_disk.any_moment m (ends_history m t (c.args.command ∷ []) kept one ends) (ends_state m t (c.args.command ∷ []) kept one ends)
      (c.make_room.ensures.keeps.honest honest) (c.in_ok-make_room.ensures.on_disk.kept honest stored));
  kept = λ sound honest stored.
      let m = c.make_room.new.self.register in
      let t = c.apply.new.self in
      let kept = c.if_accepted.result.now in
      let one = Replied c.in-Ok.reply ∷ [] in
      let ends = one_ends m t c.in-Ok.reply c.args.command.now c.in-Ok.ensures.ok c.args.command kept refl c.if_accepted.ensures in
      let new = c.persist.new.self in
      batch_kept g.row.A.Denot new.layout new.side new.epoch new.journal new.ongoing t new.register (g.D.Disk.view new.disk) c.persist.ensures.steps.same.1
      (c.in_ok-persist.ensures.on_disk.kept m (ends_history m t (c.args.command ∷ []) kept one ends) (ends_state m t (c.args.command ∷ []) kept one ends)
      (c.make_room.ensures.keeps.honest honest) (c.in_ok-make_room.ensures.on_disk.kept honest stored));
}

pub returns-clause-calls : goal.returns-clause-calls
returns-clause-calls g c = record {
  calls = λ honest.
      let self = c.args.self.now in
      let room = c.make_room.new.self in
      let m = c.make_room.new.self.register in
      let t = c.apply.new.self in
      let kept = c.if_accepted.result.now in
      let one = Replied c.in-Ok.reply ∷ [] in
      let ends = one_ends m t c.in-Ok.reply c.args.command.now c.in-Ok.ensures.ok c.args.command kept refl c.if_accepted.ensures in
      let fits = fits_in g.row.A.Denot self.journal (c.args.command ∷ []) in
      let now = with_room fits (view_of self) in
      let old = g.D.Disk.view self.disk in
      let mid = g.D.Disk.view room.disk in
      let new = g.D.Disk.view c.persist.new.self.disk in
      let these = given g.row.A.Denot kept in
      let recorded = recorded_after g.row.A.Denot self.register m t c.persist.new.self.register (c.args.command.now ∷ []) kept kept
      c.make_room.ensures.stays.same.1 refl c.persist.ensures.steps.same.1 (ends_recorded m t (c.args.command ∷ []) kept one ends g.row.A.Denot) in
      let place = c.in_ok-make_room.ensures.place in
      let was_open = is_root_open (other_of self.side) old.reads in
      let also = is_root_open (other_of room.side) mid.reads in
      let same : fits ≡ true → also ≡ was_open = λ is. ap (λ store. is_root_open (other_of store.side) (g.D.Disk.view store.disk).reads)
      (c.make_room.ensures.untouched (it_fits g.row.A.Denot self.journal (c.args.command ∷ []) is)).1 in
      let begins = is_some c.persist.new.self.ongoing in (
        these,
        also,
        recorded,
        room_kept (view_of room) (view_of self) fits c.make_room.ensures.stays.same.0 place these (record (view_of c.persist.new.self) { broken = false })
            (kept_so (view_of c.persist.new.self) false (view_of room) these (kept_from _ (view_of room) (view_of c.persist.new.self) these c.in_ok-persist.ensures.on_disk.goes refl refl refl refl refl)),
        made_then old mid new (room_calls self.layout self.side self.epoch self.register old.reads fits) _ _ (c.in_ok-make_room.ensures.calls.calls honest)
            (room_calls_read (view_of room) (view_of self) fits c.make_room.ensures.stays.same.0 place these begins was_open also same)
            (c.in_ok-persist.ensures.calls.calls (c.make_room.ensures.keeps.honest honest)),
      );
  some_calls = λ honest.
      let self = c.args.self.now in
      let room = c.make_room.new.self in
      let m = c.make_room.new.self.register in
      let t = c.apply.new.self in
      let kept = c.if_accepted.result.now in
      let one = Replied c.in-Ok.reply ∷ [] in
      let ends = one_ends m t c.in-Ok.reply c.args.command.now c.in-Ok.ensures.ok c.args.command kept refl c.if_accepted.ensures in
      let fits = fits_in g.row.A.Denot self.journal (c.args.command ∷ []) in
      let now = with_room fits (view_of self) in
      let old = g.D.Disk.view self.disk in
      let mid = g.D.Disk.view room.disk in
      let new = g.D.Disk.view c.persist.new.self.disk in
      let these = given g.row.A.Denot kept in
      let recorded = recorded_after g.row.A.Denot self.register m t c.persist.new.self.register (c.args.command.now ∷ []) kept kept
      c.make_room.ensures.stays.same.1 refl c.persist.ensures.steps.same.1 (ends_recorded m t (c.args.command ∷ []) kept one ends g.row.A.Denot) in
      let place = c.in_ok-make_room.ensures.place in
      let was_open = is_root_open (other_of self.side) old.reads in
      let also = is_root_open (other_of room.side) mid.reads in
      let same : fits ≡ true → also ≡ was_open = λ is. ap (λ store. is_root_open (other_of store.side) (g.D.Disk.view store.disk).reads)
      (c.make_room.ensures.untouched (it_fits g.row.A.Denot self.journal (c.args.command ∷ []) is)).1 in
      let some = c.persist.ensures.calls.some_calls (c.make_room.ensures.keeps.honest honest) in (
        these,
        some.0,
        also,
        recorded,
        room_may (view_of room) (view_of self) fits c.make_room.ensures.stays.same.0 place these some.0 some.1,
        some_then old mid new (room_calls self.layout self.side self.epoch self.register old.reads fits) _ _ (c.in_ok-make_room.ensures.calls.calls honest)
            (room_calls_read (view_of room) (view_of self) fits c.make_room.ensures.stays.same.0 place these some.0 was_open also same) some.2,
      );
  calls_on_any_disk =
      let self = c.args.self.now in
      let room = c.make_room.new.self in
      let m = c.make_room.new.self.register in
      let t = c.apply.new.self in
      let kept = c.if_accepted.result.now in
      let one = Replied c.in-Ok.reply ∷ [] in
      let ends = one_ends m t c.in-Ok.reply c.args.command.now c.in-Ok.ensures.ok c.args.command kept refl c.if_accepted.ensures in
      let fits = fits_in g.row.A.Denot self.journal (c.args.command ∷ []) in
      let now = with_room fits (view_of self) in
      let old = g.D.Disk.view self.disk in
      let mid = g.D.Disk.view room.disk in
      let new = g.D.Disk.view c.persist.new.self.disk in
      let these = given g.row.A.Denot kept in
      let recorded = recorded_after g.row.A.Denot self.register m t c.persist.new.self.register (c.args.command.now ∷ []) kept kept
      c.make_room.ensures.stays.same.1 refl c.persist.ensures.steps.same.1 (ends_recorded m t (c.args.command ∷ []) kept one ends g.row.A.Denot) in
      let place = c.in_ok-make_room.ensures.place in
      let begins = is_some c.persist.new.self.ongoing in
      let all = c.in_ok-make_room.ensures.calls.calls_on_any_disk in
      let also = c.in_ok-persist.ensures.calls.calls_on_any_disk in (
        these,
        all.0,
        also.0,
        recorded,
        room_kept (view_of room) (view_of self) fits c.make_room.ensures.stays.same.0 place these (record (view_of c.persist.new.self) { broken = false })
            (kept_so (view_of c.persist.new.self) false (view_of room) these (kept_from _ (view_of room) (view_of c.persist.new.self) these c.in_ok-persist.ensures.on_disk.goes refl refl refl refl refl)),
        made_then old mid new (room_calls_by self.layout self.side self.epoch self.register all.0 fits) _ _ all.1
            (room_calls_are (view_of room) (view_of self) fits c.make_room.ensures.stays.same.0 place these begins also.0) also.1,
      );
  some_calls_on_any_disk =
      let self = c.args.self.now in
      let room = c.make_room.new.self in
      let m = c.make_room.new.self.register in
      let t = c.apply.new.self in
      let kept = c.if_accepted.result.now in
      let one = Replied c.in-Ok.reply ∷ [] in
      let ends = one_ends m t c.in-Ok.reply c.args.command.now c.in-Ok.ensures.ok c.args.command kept refl c.if_accepted.ensures in
      let fits = fits_in g.row.A.Denot self.journal (c.args.command ∷ []) in
      let now = with_room fits (view_of self) in
      let old = g.D.Disk.view self.disk in
      let mid = g.D.Disk.view room.disk in
      let new = g.D.Disk.view c.persist.new.self.disk in
      let these = given g.row.A.Denot kept in
      let recorded = recorded_after g.row.A.Denot self.register m t c.persist.new.self.register (c.args.command.now ∷ []) kept kept
      c.make_room.ensures.stays.same.1 refl c.persist.ensures.steps.same.1 (ends_recorded m t (c.args.command ∷ []) kept one ends g.row.A.Denot) in
      let place = c.in_ok-make_room.ensures.place in
      let all = c.in_ok-make_room.ensures.calls.calls_on_any_disk in
      let some = c.persist.ensures.calls.some_calls_on_any_disk in (
        these,
        some.0,
        all.0,
        some.1,
        recorded,
        room_may (view_of room) (view_of self) fits c.make_room.ensures.stays.same.0 place these some.0 some.2,
        some_then old mid new (room_calls_by self.layout self.side self.epoch self.register all.0 fits) _ _ all.1
            (room_calls_are (view_of room) (view_of self) fits c.make_room.ensures.stays.same.0 place these some.0 some.1) some.3,
      );
}

pub returns-clause-refuses : goal.returns-clause-refuses
returns-clause-refuses g c = record {
  broken = search rules;
  only_broken = search rules;
  sound = search rules;
  memory = search rules;
  place = search rules;
  epochs = search rules;
  full = search rules;
  fault = search rules;
  kinds = search rules;
}

pub returns-clause-replied : goal.returns-clause-replied
returns-clause-replied g c = rw (c.persist.ensures.steps.same.1, sym c.make_room.ensures.stays.same.1) c.in-Ok.ensures.ok

pub invariant_of-self-2-clause-stored : goal.invariant_of-self-2-clause-stored
invariant_of-self-2-clause-stored g c = ∥∥₁_map c.make_room.new.self.stored (λ is whole found.
    let m = c.make_room.new.self.register in
    let t = c.apply.new.self in
    let kept = c.if_accepted.result.now in
    let one = Replied c.in-Ok.reply ∷ [] in
    let ends = one_ends m t c.in-Ok.reply c.args.command.now c.in-Ok.ensures.ok c.args.command kept refl c.if_accepted.ensures in
    let self = c.persist.new.self in
    let was = is (c.in_ok-make_room.ensures.sound c.if-self.false) (subst (λ (disk : g.row.D.Denot). (g.D.Disk.view disk).honest) c.persist.ensures.steps.same.3 found) in (
      c.persist.ensures.steps.honest was.0,
      batch_kept g.row.A.Denot self.layout self.side self.epoch self.journal self.ongoing t self.register (g.D.Disk.view self.disk) c.persist.ensures.steps.same.1
          (c.in_ok-persist.ensures.on_disk.kept m (ends_history m t (c.args.command ∷ []) kept one ends) (ends_state m t (c.args.command ∷ []) kept one ends) was.0 was.1),
    ))

pub invariant_of-self-in_default-clause-stored : goal.invariant_of-self-in_default-clause-stored
invariant_of-self-in_default-clause-stored g c =
    let self = c.make_room.new.self in
    let same : c.apply.new.self ≡ self.register = c.in_default.ensures.err in
    ∥∥₁_map self.stored (λ is whole found. rw same (is (c.in_ok-make_room.ensures.sound c.if-self.false) found))
