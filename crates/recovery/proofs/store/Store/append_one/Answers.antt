use Rattle.std.proofs.Common.{rules, ◌≡◌, ◌+◌, length, ap, sym, ◌∙◌, refl, arith}
use Rattle.gated_journal.specs.declared.place.Place.{Place}
use Rattle.recovery.proofs.InCall.{in_call}
use Rattle.recovery.proofs.Called.{recorded_by_one}
use Rattle.recovery.proofs.Recorded.{ok_part, place_after}
use Rattle.recovery.proofs.Stored.{append_leaves, settled, some_sectors, stored_append}
use Rattle.recovery.proofs.store.Store.append_one.Goals as goal

pub invariant_of-self-else-is_err : goal.invariant_of-self-else-is_err
invariant_of-self-else-is_err g c =
    let is = ok_part c.append.result (sym c.is_err.ensures.value ∙ c.if-is_err.false) c.append.ensures.adds.next in
    let next = ap (λ (p : Place). p.next) is in
    record {
      room = omega (arith, c.append.ensures.keeps.sectors, c.args.self.now.room);
      limits = c.args.self.now.limits;
      first = ap (λ (p : Place). p.first) is ∙ c.args.self.now.first;
      end = ap (λ (p : Place). p.end) is ∙ c.args.self.now.end;
      next = omega (arith, next, c.requires.room.fits, some_sectors g.row.A.Denot c.args.self.now.journal c.args.accepted.now, c.args.self.now.end);
      counts = omega (arith, ap (λ (p : Place). p.count) is, c.requires.room.counted);
      other = rw c.requires.idle tt;
      stored = in_call c.args.self.now.broken c.requires.room.in_call;
    }

pub returns-then-is_err : goal.returns-then-is_err
returns-then-is_err g c = record {
  adds = record {
    any_moment = λ state history honest kept.
        append_leaves g.row.A.Denot c.args.self.now.layout c.args.self.now.side c.args.self.now.epoch c.args.self.now.journal c.args.self.now.first
        c.args.self.now.end c.args.self.now.next state (g.D.Disk.view c.args.self.now.disk) kept.stored c.args.accepted.now history
        (g.D.Disk.view c.append.new.disk)
        (c.append.ensures.adds.any_moment kept.stored.base.count kept.stored.entries honest
        (settled g.row.A.Denot c.args.self.now.layout c.args.self.now.side c.args.self.now.epoch c.args.self.now.journal c.args.self.now.first
        c.args.self.now.end c.args.self.now.next state (g.D.Disk.view c.args.self.now.disk) kept.stored));
    kept = tt;
    journals = tt;
    calls = tt;
    some_calls = rw (c.requires.idle, recorded_by_one g.row.A.Denot c.args.self.now.journal c.args.accepted.now c.requires.some) c.append.ensures.adds.some_calls;
    root = λ honest. tt;
    same = search rules;
    fault = search rules;
    in_call = search rules;
    sectors = search rules;
    later = search rules;
    honest = search rules;
  };
}

pub returns : goal.returns
returns g c = record {
  adds = record {
    any_moment = λ state history honest kept.
        append_leaves g.row.A.Denot c.args.self.now.layout c.args.self.now.side c.args.self.now.epoch c.args.self.now.journal c.args.self.now.first
        c.args.self.now.end c.args.self.now.next state (g.D.Disk.view c.args.self.now.disk) kept.stored c.args.accepted.now history
        (g.D.Disk.view c.append.new.disk)
        (c.append.ensures.adds.any_moment kept.stored.base.count kept.stored.entries honest
        (settled g.row.A.Denot c.args.self.now.layout c.args.self.now.side c.args.self.now.epoch c.args.self.now.journal c.args.self.now.first
        c.args.self.now.end c.args.self.now.next state (g.D.Disk.view c.args.self.now.disk) kept.stored));
    kept = λ state history honest kept.
        let is = ok_part c.append.result (sym c.is_err.ensures.value ∙ c.if-is_err.false) c.append.ensures.adds.next in
        let here = settled g.row.A.Denot c.args.self.now.layout c.args.self.now.side c.args.self.now.epoch c.args.self.now.journal c.args.self.now.first
        c.args.self.now.end c.args.self.now.next state (g.D.Disk.view c.args.self.now.disk) kept.stored in
        let leaves = c.append.ensures.adds.any_moment kept.stored.base.count kept.stored.entries honest here in
        let sound = g.met.D.Disk.sound c.append.new.disk (c.append.ensures.keeps.honest honest) in
        let first : c.append.new.self.first ≡ c.args.self.now.journal.first = ap (λ (p : Place). p.first) is in
        let end : c.append.new.self.end ≡ c.args.self.now.journal.end = ap (λ (p : Place). p.end) is in
        let form : c.append.new.self.form ≡ c.args.self.now.journal.form = ap (λ (p : Place). p.form) is in
        let count : c.append.new.self.count ≡ c.args.self.now.journal.count + length c.args.accepted.now = ap (λ (p : Place). p.count) is in
        record {
          stored = stored_append g.row.A.Denot c.args.self.now.layout c.args.self.now.side c.args.self.now.epoch c.args.self.now.journal
              c.args.self.now.first c.args.self.now.end c.args.self.now.next state (g.D.Disk.view c.args.self.now.disk) kept.stored c.args.accepted.now
              history (g.D.Disk.view c.append.new.disk) c.append.new.self first end form count leaves sound
              (ok_part c.append.result (sym c.is_err.ensures.value ∙ c.if-is_err.false) c.append.ensures.adds.acknowledged kept.stored.base.count
              kept.stored.entries honest here);
          under_way = rw c.requires.idle tt;
        };
    journals = (
      place_after g.row.A.Denot c.args.self.now.journal c.args.accepted.now c.append.new.self
          (ok_part c.append.result (sym c.is_err.ensures.value ∙ c.if-is_err.false) c.append.ensures.adds.next),
      rw c.requires.idle refl,
    );
    calls = rw (c.requires.idle, recorded_by_one g.row.A.Denot c.args.self.now.journal c.args.accepted.now c.requires.some)
        (ok_part c.append.result (sym c.is_err.ensures.value ∙ c.if-is_err.false) c.append.ensures.adds.calls);
    some_calls = rw (c.requires.idle, recorded_by_one g.row.A.Denot c.args.self.now.journal c.args.accepted.now c.requires.some) c.append.ensures.adds.some_calls;
    root = search rules;
    same = search rules;
    fault = tt;
    in_call = search rules;
    sectors = search rules;
    later = search rules;
    honest = search rules;
  };
}
