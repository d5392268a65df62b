use Rattle.std.proofs.Common.{rules, ◌≡◌, [], true, false, refl, sym, ◌∙◌}
use Rattle.std.proofs.lemmas.List.{append-nil}
use Rattle.std.proofs.lemmas.Result.{on_ok_weaker}
use Rattle.checkpoint.specs.Layout.{other_of}
use Rattle.sector_disk.proofs.Made.{made_none}
use Rattle.recovery.specs.Calls.{fits_in}
use Rattle.recovery.proofs.Stored.{fits_fresh, nothing_done}
use Rattle.recovery.specs.Lives.{fails, view_of}
use Rattle.recovery.proofs.Events.{nothing_accepted}
use Rattle.recovery.proofs.store.Store.make_room.Goals as goal

pub returns-then-has_room-clause-on_disk : goal.returns-then-has_room-clause-on_disk
returns-then-has_room-clause-on_disk g c = record {
  any_moment = λ honest stored.
      nothing_done g.row.A.Denot c.args.self.now.layout c.args.self.now.side c.args.self.now.epoch c.args.self.now.journal c.args.self.now.register
      (g.D.Disk.view c.args.self.now.disk) stored.stored (g.met.D.Disk.sound c.args.self.now.disk honest);
  kept = search rules;
}

pub returns-then-has_room-clause-keeps : goal.returns-then-has_room-clause-keeps
returns-then-has_room-clause-keeps g c = record {
  fault = search rules;
  sectors = search rules;
  later = search rules;
  honest = search rules;
}

pub returns-then-has_room-clause-stays : goal.returns-then-has_room-clause-stays
returns-then-has_room-clause-stays g c = record {
  same = search rules;
  unmoved = search rules;
}

pub returns-then-has_room-clause-fails : goal.returns-then-has_room-clause-fails
returns-then-has_room-clause-fails g c = record {
  only_broken = search rules;
  epochs = search rules;
  fault = search rules;
  kinds = search rules;
}

pub returns-clause-on_disk : goal.returns-clause-on_disk
returns-clause-on_disk g c = c.checkpoint.ensures.on_disk

pub returns-clause-keeps : goal.returns-clause-keeps
returns-clause-keeps g c = c.checkpoint.ensures.keeps

pub returns-clause-stays : goal.returns-clause-stays
returns-clause-stays g c = c.checkpoint.ensures.stays

pub returns-clause-fails : goal.returns-clause-fails
returns-clause-fails g c = c.checkpoint.ensures.fails

pub returns-then-has_room-clause-calls : goal.returns-then-has_room-clause-calls
returns-then-has_room-clause-calls g c = record {
  calls = λ honest.
      let fits : fits_in g.row.A.Denot c.args.self.now.journal c.args.commands.now ≡ true = sym c.has_room.ensures.exact ∙ c.if-has_room.true in
      rw fits (sym (append-nil (g.D.Disk.view c.args.self.now.disk).calls));
  some_calls = λ honest. made_none (g.D.Disk.view c.args.self.now.disk) _;
  calls_on_any_disk =
      let fits : fits_in g.row.A.Denot c.args.self.now.journal c.args.commands.now ≡ true = sym c.has_room.ensures.exact ∙ c.if-has_room.true in
      (false, rw fits (sym (append-nil (g.D.Disk.view c.args.self.now.disk).calls)));
  some_calls_on_any_disk = (false, made_none (g.D.Disk.view c.args.self.now.disk) _);
}

pub returns-clause-calls : goal.returns-clause-calls
returns-clause-calls g c =
    let fits : fits_in g.row.A.Denot c.args.self.now.journal c.args.commands.now ≡ false = sym c.has_room.ensures.exact ∙ c.if-has_room.false in
    rw fits c.checkpoint.ensures.calls

pub returns-clause-place : goal.returns-clause-place
returns-clause-place g c =
    let fits : fits_in g.row.A.Denot c.args.self.now.journal c.args.commands.now ≡ false = sym c.has_room.ensures.exact ∙ c.if-has_room.false in
    rw fits c.checkpoint.ensures.sides

pub returns-clause-fits : goal.returns-clause-fits
returns-clause-fits g c = fits_fresh g.row.A.Denot c.checkpoint.result c.args.self.now.layout (other_of c.args.self.now.side)
    c.args.self.now.register.count c.checkpoint.new.self.journal c.args.commands.now c.has_room.ensures.most
    (on_ok_weaker c.checkpoint.result (λ sides. sides.0.journal) c.checkpoint.ensures.sides)

pub returns-then-has_room-clause-place : goal.returns-then-has_room-clause-place
returns-then-has_room-clause-place g c =
    let fits : fits_in g.row.A.Denot c.args.self.now.journal c.args.commands.now ≡ true = sym c.has_room.ensures.exact ∙ c.if-has_room.true in
    rw fits (record { side = refl; epoch = refl; journal = refl }, refl)

pub returns-then-has_room-clause-call : goal.returns-then-has_room-clause-call
returns-then-has_room-clause-call g c = λ honest. fails _ _ [] (nothing_accepted g.row.A.Denot g.D.Disk.view (view_of c.args.self.now) honest (g.met.D.Disk.sound c.args.self.now.disk honest))
