use Rattle.std.proofs.lemmas.Result.{err_from_is_err_and}
use Rattle.sector_disk.proofs.Effects.{keeps_on}
use Rattle.std.proofs.Common.{rules, ◌+◌, ◌≤◌, [], ◌∷◌, arith, ap, sym, refl, slice_index}
use Rattle.gated_journal.specs.Record.{data_sector, data_size}
use Rattle.gated_journal.proofs.Kept.{keeps_where}
use Rattle.gated_journal.proofs.Append.{in_fill, in_gate, at_end, reads_elsewhere}
use Rattle.gated_journal.proofs.OneHalf.{next_read}
use Rattle.gated_journal.proofs.Called.{calls_in_text, calls_in_gate, calls_at_end, open_gate_is}
use Rattle.gated_journal.proofs.place.Place.append_text.Goals as goal

pub returns-in_err-settle-clause-adds : goal.returns-in_err-settle-clause-adds
returns-in_err-settle-clause-adds g c =
    let p = err_from_is_err_and c.from_residual.result c.from_residual.ensures.1 in
    rw (p.1, p.2) (record {
      any_moment = λ before entries commands is honest settled.
          let place = c.args.self.now in
          let room : place.next + data_size c.args.data.now.text.now + 2 ≤ place.end = omega (arith, c.sectors_for-size.ensures) in
          in_fill place before entries commands c.args.data.now.text.now (next_read place before entries commands c.args.data.now.text.now is settled.counts room) room _ _ _
          settled (rw c.sectors_for-size.ensures at (c.in_err-settle.ensures.effect honest));
      acknowledged = tt;
      durable = λ honest. tt;
      elsewhere = λ honest. tt;
      next = tt;
      calls = tt;
      some_calls =
          calls_in_text c.args.self.now.next c.args.data.now.text.now (g.D.Disk.view c.args.disk.now)
          (g.D.Disk.view c.settle.new.disk) (rw c.sectors_for-size.ensures at c.settle.ensures.runs.some_calls);
    })

pub returns-in_err-settle-2-clause-adds : goal.returns-in_err-settle-2-clause-adds
returns-in_err-settle-2-clause-adds g c =
    let p = err_from_is_err_and c.from_residual-in_err-settle-2.result c.from_residual-in_err-settle-2.ensures.1 in
    rw (p.1, p.2) (record {
      any_moment = λ before entries commands is honest settled.
          let place = c.args.self.now in
          let room : place.next + data_size c.args.data.now.text.now + 2 ≤ place.end = omega (arith, c.sectors_for-size.ensures) in
          let whole = (g.met.D.Disk.sound c.args.disk.now honest).reads_left in
          let has = rw c.sectors_for-size.ensures at (c.in_ok-settle.ensures.effect honest) in
          in_gate place before entries commands c.args.data.now.text.now (next_read place before entries commands c.args.data.now.text.now is settled.counts room) room _ _
          whole settled has (c.in_ok-settle.ensures.durable honest) _ _ _ (c.in_err-settle-2.ensures.effect has.honest);
      acknowledged = tt;
      durable = λ honest. tt;
      elsewhere = λ honest. tt;
      next = tt;
      calls = tt;
      some_calls =
          calls_in_gate c.args.self.now.next c.args.data.now.text.now (g.D.Disk.view c.args.disk.now)
          (g.D.Disk.view c.settle.new.disk) (g.D.Disk.view c.settle-2.new.disk) (rw c.sectors_for-size.ensures at c.in_ok-settle.ensures.runs.calls)
          c.settle-2.ensures.runs.some_calls;
    })

pub returns-clause-adds : goal.returns-clause-adds
returns-clause-adds g c = record {
  any_moment = λ before entries commands is honest settled.
      let place = c.args.self.now in
      let room : place.next + data_size c.args.data.now.text.now + 2 ≤ place.end = omega (arith, c.sectors_for-size.ensures) in
      let whole = (g.met.D.Disk.sound c.args.disk.now honest).reads_left in
      let has = rw c.sectors_for-size.ensures at (c.in_ok-settle.ensures.effect honest) in
      in_gate place before entries commands c.args.data.now.text.now (next_read place before entries commands c.args.data.now.text.now is settled.counts room) room _ _
      whole settled has (c.in_ok-settle.ensures.durable honest) _ _ _ (c.in_ok-settle-2.ensures.effect has.honest);
  acknowledged = λ before entries commands is honest settled.
      let place = c.args.self.now in
      let room : place.next + data_size c.args.data.now.text.now + 2 ≤ place.end = omega (arith, c.sectors_for-size.ensures) in
      let whole = (g.met.D.Disk.sound c.args.disk.now honest).reads_left in
      let has = rw c.sectors_for-size.ensures at (c.in_ok-settle.ensures.effect honest) in
      rw c.sectors_for-size.ensures
      (at_end place before entries commands c.args.data.now.text.now (next_read place before entries commands c.args.data.now.text.now is settled.counts room) room _ _
      whole settled has (c.in_ok-settle.ensures.durable honest) _ _ (c.in_ok-settle-2.ensures.effect has.honest)
      (c.in_ok-settle-2.ensures.durable has.honest)
      (ap (λ bytes. slice_index bytes 0) (sym open_gate_is)));
  durable = λ honest.
      let has = c.in_ok-settle.ensures.effect honest in c.in_ok-settle-2.ensures.durable has.honest;
  elsewhere = λ honest.
      let place = c.args.self.now in
      let room : place.next + data_size c.args.data.now.text.now + 2 ≤ place.end = omega (arith, c.sectors_for-size.ensures) in
      let has = rw c.sectors_for-size.ensures at (c.in_ok-settle.ensures.effect honest) in
      reads_elsewhere place c.args.data.now.text.now c.requires.up room (g.D.Disk.view c.args.disk.now) (g.D.Disk.view c.settle.new.disk)
      (g.D.Disk.view c.settle-2.new.disk) (data_sector c.args.data.now.text.now) (data_sector (1 ∷ [])) _ _ has (c.in_ok-settle-2.ensures.effect has.honest);
  next = search rules;
  calls =
      calls_at_end c.args.self.now.next c.args.data.now.text.now (g.D.Disk.view c.args.disk.now) (g.D.Disk.view c.settle.new.disk)
      (g.D.Disk.view c.settle-2.new.disk) (rw c.sectors_for-size.ensures at c.in_ok-settle.ensures.runs.calls) c.in_ok-settle-2.ensures.runs.calls;
  some_calls =
      calls_in_gate c.args.self.now.next c.args.data.now.text.now (g.D.Disk.view c.args.disk.now) (g.D.Disk.view c.settle.new.disk)
      (g.D.Disk.view c.settle-2.new.disk) (rw c.sectors_for-size.ensures at c.in_ok-settle.ensures.runs.calls) c.settle-2.ensures.runs.some_calls;
}

pub returns-in_err-settle-clause-keeps : goal.returns-in_err-settle-clause-keeps
returns-in_err-settle-clause-keeps g c = keeps_where (g.D.Disk.view c.args.disk.now) (g.D.Disk.view c.settle.new.disk) c.in_err-settle.ensures.runs.keeps (λ e. refl)

pub returns-in_err-settle-2-clause-keeps : goal.returns-in_err-settle-2-clause-keeps
returns-in_err-settle-2-clause-keeps g c = keeps_on (g.D.Disk.view c.args.disk.now) (g.D.Disk.view c.settle.new.disk) (g.D.Disk.view c.settle-2.new.disk)
    c.in_ok-settle.ensures.runs.keeps c.in_err-settle-2.ensures.runs.keeps (λ e. refl)

pub returns-clause-keeps : goal.returns-clause-keeps
returns-clause-keeps g c = keeps_on (g.D.Disk.view c.args.disk.now) (g.D.Disk.view c.settle.new.disk) (g.D.Disk.view c.settle-2.new.disk)
    c.in_ok-settle.ensures.runs.keeps c.in_ok-settle-2.ensures.runs.keeps (λ e. absurd cc)
