use Rattle.std.proofs.Common.{rules, inl, ap, sym, ◌∙◌, refl, arith}
use Rattle.checkpoint.specs.Layout.{other_of}
use Rattle.checkpoint.proofs.Apart.{lies}
use Rattle.gated_journal.specs.declared.place.Place.{Place}
use Rattle.recovery.specs.Inside.BothHalves.{MayAddToBoth}
use Rattle.recovery.proofs.Called.{recorded_by_both}
use Rattle.recovery.proofs.InCall.{in_call}
use Rattle.recovery.proofs.Recorded.{also_after, apart, belongs_after, both_leaves, fits_other, kept_both, ok_part, place_after, root_before, settled_also, settled_this, some_of}
use Rattle.recovery.proofs.Stored.{some_sectors}
use Rattle.recovery.proofs.store.Store.append_two.Goals as goal

pub append_ongoing-added-requires-clause-room : goal.append_ongoing-added-requires-clause-room
append_ongoing-added-requires-clause-room g c =
    let some = some_of c.args.self.now.ongoing c.requires.under_way in
    let belongs = rw some.1 at c.args.self.now.other in
    let places = lies c.args.self.now.layout (other_of c.args.self.now.side) in
    let here = lies c.args.self.now.layout c.args.self.now.side in
    let end = belongs.end in
    let counted = rw some.1 at c.requires.room.other_counted in
    let room : MayAddToBoth g.row.A.Denot (g.D.Disk.view c.args.self.now.disk).sectors c.args.self.now.journal some.0.journal c.args.accepted.now = record {
      within = (omega (arith, c.args.self.now.end, here.half, c.args.self.now.room), omega (arith, end, places.half, c.args.self.now.room));
      apart = apart c.args.self.now.layout c.args.self.now.side c.args.self.now.journal some.0.journal c.args.self.now.first c.args.self.now.end
          belongs.first belongs.end;
      some = c.requires.some;
      few = c.requires.room.few;
      fits = c.requires.room.fits;
      other_fits = fits_other c.args.self.now.layout c.args.self.now.side c.args.self.now.epoch c.args.self.now.journal
          c.args.self.now.register.count some.0 c.args.self.now.first c.args.self.now.end belongs c.args.accepted.now c.requires.room.fits;
      counts = omega (arith, c.requires.room.counted, c.registers.ensures.state.count);
      other_counts = omega (arith, counted, c.registers.ensures.state.count);
    } in
    rw some.1 room

pub invariant_of-self-else-is_err : goal.invariant_of-self-else-is_err
invariant_of-self-else-is_err g c =
    let some = some_of c.args.self.now.ongoing c.requires.under_way in
    let added = rw some.1 at c.append_ongoing-added.ensures.adds in
    let belongs = rw some.1 at c.args.self.now.other in
    let is = ok_part c.append_ongoing-added.result (sym c.is_err.ensures.value ∙ c.if-is_err.false) added.2.next in
    let next_is = rw some.1 at (ok_part c.append_ongoing-added.result (sym c.is_err.ensures.value ∙ c.if-is_err.false) c.append_ongoing-added.ensures.ongoing_next) in
    let next = ap (λ (p : Place). p.next) is in
    let counted = rw some.1 at c.requires.room.other_counted in
    record {
      room = omega (arith, c.append_ongoing-added.ensures.keeps.sectors, c.args.self.now.room);
      limits = c.args.self.now.limits;
      first = ap (λ (p : Place). p.first) is ∙ c.args.self.now.first;
      end = ap (λ (p : Place). p.end) is ∙ c.args.self.now.end;
      next = omega (arith, next, c.requires.room.fits, some_sectors g.row.A.Denot c.args.self.now.journal c.args.accepted.now, c.args.self.now.end);
      counts = omega (arith, ap (λ (p : Place). p.count) is, c.requires.room.counted);
      other = belongs_after c.args.self.now.layout c.args.self.now.side c.args.self.now.epoch c.args.self.now.journal c.args.self.now.register.count
          some.0 c.args.self.now.first c.args.self.now.end belongs c.args.accepted.now c.requires.room.fits c.append_ongoing-added.new.journal _
          c.append_ongoing-added.new.ongoing is refl next_is counted;
      stored = in_call c.args.self.now.broken c.requires.room.in_call;
    }

pub returns-then-is_err : goal.returns-then-is_err
returns-then-is_err g c = record {
  adds = record {
    any_moment = λ state history honest kept.
        let some = some_of c.args.self.now.ongoing c.requires.under_way in
        let added = rw some.1 at c.append_ongoing-added.ensures.adds in
        let belongs = rw some.1 at c.args.self.now.other in
        let also = rw some.1 at kept.under_way in
        let state_is = rw some.1 at c.append_ongoing-added.ensures.state in
        let any = added.2.any_moment in
        let this = settled_this g.row.A.Denot c.args.self.now.layout c.args.self.now.side c.args.self.now.epoch c.args.self.now.journal
        c.args.self.now.first c.args.self.now.end c.args.self.now.next c.args.self.now.register.count some.0 belongs state_is state
        (g.D.Disk.view c.args.self.now.disk) kept.stored also in
        let that = settled_also g.row.A.Denot c.args.self.now.layout c.args.self.now.side c.args.self.now.epoch c.args.self.now.journal
        c.args.self.now.first c.args.self.now.end c.args.self.now.next c.args.self.now.register.count some.0 belongs state_is state
        (g.D.Disk.view c.args.self.now.disk) kept.stored also in
        let leaves = any kept.stored.base.count some.0.register.count kept.stored.entries also.entries honest this that in
        both_leaves g.row.A.Denot c.args.self.now.layout c.args.self.now.side c.args.self.now.epoch c.args.self.now.journal c.args.self.now.first
        c.args.self.now.end c.args.self.now.next c.args.self.now.register.count some.0 belongs state_is state (g.D.Disk.view c.args.self.now.disk)
        kept.stored also c.args.accepted.now history (g.D.Disk.view c.append_ongoing-added.new.disk) leaves;
    kept = tt;
    journals = tt;
    calls = tt;
    some_calls =
        let some = some_of c.args.self.now.ongoing c.requires.under_way in
        let added = rw some.1 at c.append_ongoing-added.ensures.adds in
        let made = added.2.some_calls in
        rw (some.1, recorded_by_both g.row.A.Denot c.args.self.now.journal some.0 c.args.accepted.now c.requires.some) made;
    root = λ honest. tt;
    same = search rules;
    fault = (refl, c.append_ongoing-added.ensures.keeps.fault (sym c.is_err.ensures.value ∙ c.if-is_err.true));
    in_call = search rules;
    sectors = search rules;
    later = search rules;
    honest = search rules;
  };
}

pub returns : goal.returns
returns g c = record {
  adds = record {
    any_moment = λ state history honest kept.
        let some = some_of c.args.self.now.ongoing c.requires.under_way in
        let added = rw some.1 at c.append_ongoing-added.ensures.adds in
        let belongs = rw some.1 at c.args.self.now.other in
        let also = rw some.1 at kept.under_way in
        let state_is = rw some.1 at c.append_ongoing-added.ensures.state in
        let any = added.2.any_moment in
        let this = settled_this g.row.A.Denot c.args.self.now.layout c.args.self.now.side c.args.self.now.epoch c.args.self.now.journal
        c.args.self.now.first c.args.self.now.end c.args.self.now.next c.args.self.now.register.count some.0 belongs state_is state
        (g.D.Disk.view c.args.self.now.disk) kept.stored also in
        let that = settled_also g.row.A.Denot c.args.self.now.layout c.args.self.now.side c.args.self.now.epoch c.args.self.now.journal
        c.args.self.now.first c.args.self.now.end c.args.self.now.next c.args.self.now.register.count some.0 belongs state_is state
        (g.D.Disk.view c.args.self.now.disk) kept.stored also in
        let leaves = any kept.stored.base.count some.0.register.count kept.stored.entries also.entries honest this that in
        both_leaves g.row.A.Denot c.args.self.now.layout c.args.self.now.side c.args.self.now.epoch c.args.self.now.journal c.args.self.now.first
        c.args.self.now.end c.args.self.now.next c.args.self.now.register.count some.0 belongs state_is state (g.D.Disk.view c.args.self.now.disk)
        kept.stored also c.args.accepted.now history (g.D.Disk.view c.append_ongoing-added.new.disk) leaves;
    kept = λ state history honest kept.
        let some = some_of c.args.self.now.ongoing c.requires.under_way in
        let added = rw some.1 at c.append_ongoing-added.ensures.adds in
        let belongs = rw some.1 at c.args.self.now.other in
        let also = rw some.1 at kept.under_way in
        let state_is = rw some.1 at c.append_ongoing-added.ensures.state in
        let any = added.2.any_moment in
        let this = settled_this g.row.A.Denot c.args.self.now.layout c.args.self.now.side c.args.self.now.epoch c.args.self.now.journal
        c.args.self.now.first c.args.self.now.end c.args.self.now.next c.args.self.now.register.count some.0 belongs state_is state
        (g.D.Disk.view c.args.self.now.disk) kept.stored also in
        let that = settled_also g.row.A.Denot c.args.self.now.layout c.args.self.now.side c.args.self.now.epoch c.args.self.now.journal
        c.args.self.now.first c.args.self.now.end c.args.self.now.next c.args.self.now.register.count some.0 belongs state_is state
        (g.D.Disk.view c.args.self.now.disk) kept.stored also in
        let leaves = any kept.stored.base.count some.0.register.count kept.stored.entries also.entries honest this that in
        let is = ok_part c.append_ongoing-added.result (sym c.is_err.ensures.value ∙ c.if-is_err.false) added.2.next in
        let next_is = rw some.1 at (ok_part c.append_ongoing-added.result (sym c.is_err.ensures.value ∙ c.if-is_err.false) c.append_ongoing-added.ensures.ongoing_next) in
        let sound = g.met.D.Disk.sound c.append_ongoing-added.new.disk (c.append_ongoing-added.ensures.keeps.honest honest) in
        let elsewhere = ok_part c.append_ongoing-added.result (sym c.is_err.ensures.value ∙ c.if-is_err.false) (added.2.elsewhere honest) in
        let after = ok_part c.append_ongoing-added.result (sym c.is_err.ensures.value ∙ c.if-is_err.false) added.2.other_next in
        let both = rw after at (ok_part c.append_ongoing-added.result (sym c.is_err.ensures.value ∙ c.if-is_err.false) added.2.acknowledged) in
        kept_both g.row.A.Denot c.args.self.now.layout c.args.self.now.side c.args.self.now.epoch c.args.self.now.journal c.args.self.now.first
        c.args.self.now.end c.args.self.now.next c.args.self.now.register.count some.0 belongs state_is state (g.D.Disk.view c.args.self.now.disk)
        kept.stored also c.args.accepted.now history (g.D.Disk.view c.append_ongoing-added.new.disk) c.append_ongoing-added.new.journal _
        c.append_ongoing-added.new.ongoing is refl next_is leaves sound elsewhere
        (both kept.stored.base.count some.0.register.count kept.stored.entries also.entries honest this that);
    journals =
        let some = some_of c.args.self.now.ongoing c.requires.under_way in
        let added = rw some.1 at c.append_ongoing-added.ensures.adds in
        let is = ok_part c.append_ongoing-added.result (sym c.is_err.ensures.value ∙ c.if-is_err.false) added.2.next in
        let next_is = rw some.1 at (ok_part c.append_ongoing-added.result (sym c.is_err.ensures.value ∙ c.if-is_err.false) c.append_ongoing-added.ensures.ongoing_next) in (
          place_after g.row.A.Denot c.args.self.now.journal c.args.accepted.now c.append_ongoing-added.new.journal is,
          also_after some.0 c.args.accepted.now c.args.self.now.ongoing c.append_ongoing-added.new.ongoing _ some.1 refl next_is,
        );
    calls =
        let some = some_of c.args.self.now.ongoing c.requires.under_way in
        let added = rw some.1 at c.append_ongoing-added.ensures.adds in
        let made = ok_part c.append_ongoing-added.result (sym c.is_err.ensures.value ∙ c.if-is_err.false) added.2.calls in
        rw (some.1, recorded_by_both g.row.A.Denot c.args.self.now.journal some.0 c.args.accepted.now c.requires.some) made;
    some_calls =
        let some = some_of c.args.self.now.ongoing c.requires.under_way in
        let added = rw some.1 at c.append_ongoing-added.ensures.adds in
        let made = added.2.some_calls in
        rw (some.1, recorded_by_both g.row.A.Denot c.args.self.now.journal some.0 c.args.accepted.now c.requires.some) made;
    root = λ honest.
        let some = some_of c.args.self.now.ongoing c.requires.under_way in
        let added = rw some.1 at c.append_ongoing-added.ensures.adds in
        let belongs = rw some.1 at c.args.self.now.other in
        let root = other_of c.args.self.now.side in
        let elsewhere = ok_part c.append_ongoing-added.result (sym c.is_err.ensures.value ∙ c.if-is_err.false) (added.2.elsewhere honest) in
        elsewhere _ (inl (root_before c.args.self.now.layout c.args.self.now.side c.args.self.now.journal c.args.self.now.first root))
        (inl (root_before c.args.self.now.layout (other_of c.args.self.now.side) some.0.journal belongs.first root));
    same = search rules;
    fault = tt;
    in_call = search rules;
    sectors = search rules;
    later = search rules;
    honest = search rules;
  };
}
