use Rattle.std.proofs.lemmas.Result.{err_from_is_err_and}
use Rattle.sector_disk.proofs.Effects.{keeps_on}
use Rattle.std.proofs.Common.{rules, ap, refl, sym, slice_index, [], ◌∷◌}
use Rattle.gated_journal.specs.declared.place.Place.{Place}
use Rattle.gated_journal.specs.Record.{data_sector}
use Rattle.gated_journal.proofs.Kept.{keeps_where}
use Rattle.gated_journal.proofs.TwoHalves.{at_end, elsewhere, fills, gates_apart, is_adding, opens, texts_apart}
use Rattle.gated_journal.proofs.BothCalls.{made_at_end, made_in_gates, made_in_texts}
use Rattle.gated_journal.proofs.Called.{open_gate_is}
use Rattle.gated_journal.proofs.both.append_texts.Goals as goal

pub settle_both-requires-clause-apart : goal.settle_both-requires-clause-apart
settle_both-requires-clause-apart g c =
    rw (c.sectors_for-size.ensures, c.sectors_for-other_size.ensures)
    (texts_apart c.args.place.now c.args.other.now c.args.data.now.text.now c.args.other_data.now.text.now c.requires.apart c.requires.up c.requires.other_up
    c.requires.fits c.requires.other_fits)

pub settle_both-requires-2-clause-apart : goal.settle_both-requires-2-clause-apart
settle_both-requires-2-clause-apart g c = gates_apart c.args.place.now c.args.other.now c.args.data.now.text.now c.args.other_data.now.text.now c.requires.apart
    c.requires.up c.requires.other_up c.requires.fits c.requires.other_fits

pub returns-in_err-settle_both-clause-adds : goal.returns-in_err-settle_both-clause-adds
returns-in_err-settle_both-clause-adds g c =
    let p = err_from_is_err_and c.from_residual.result c.from_residual.ensures.1 in
    rw (p.1, p.2) (record {
      any_moment = λ before start entries others commands is other_is honest settled also.
          let x : Place = c.args.place.now in
          let y : Place = c.args.other.now in
          fills x y before start entries others commands c.args.data.now.text.now c.args.other_data.now.text.now
          (is_adding x before entries commands c.args.data.now.text.now is settled.counts c.requires.fits)
          (is_adding y start others commands c.args.other_data.now.text.now other_is also.counts c.requires.other_fits) c.requires.apart
          (g.D.Disk.view c.args.disk.now) (g.met.D.Disk.sound c.args.disk.now honest).reads_left settled also (g.D.Disk.view c.settle_both.new.disk) _
          (rw (c.sectors_for-size.ensures, c.sectors_for-other_size.ensures) at (c.in_err-settle_both.ensures.effect honest));
      acknowledged = tt;
      durable = λ honest. tt;
      elsewhere = λ honest. tt;
      next = tt;
      other_next = tt;
      calls = tt;
      some_calls =
          made_in_texts c.args.place.now.next c.args.data.now.text.now c.args.other.now.next c.args.other_data.now.text.now
          (g.D.Disk.view c.args.disk.now) (g.D.Disk.view c.settle_both.new.disk)
          (rw (c.sectors_for-size.ensures, c.sectors_for-other_size.ensures) at c.settle_both.ensures.runs.some_calls);
    })

pub returns-in_err-settle_both-2-clause-adds : goal.returns-in_err-settle_both-2-clause-adds
returns-in_err-settle_both-2-clause-adds g c =
    let p = err_from_is_err_and c.from_residual-in_err-settle_both-2.result c.from_residual-in_err-settle_both-2.ensures.1 in
    rw (p.1, p.2) (record {
      any_moment = λ before start entries others commands is other_is honest settled also.
          let x : Place = c.args.place.now in
          let y : Place = c.args.other.now in
          let has = rw (c.sectors_for-size.ensures, c.sectors_for-other_size.ensures) at (c.in_ok-settle_both.ensures.effect honest) in
          opens x y before start entries others commands c.args.data.now.text.now c.args.other_data.now.text.now
          (is_adding x before entries commands c.args.data.now.text.now is settled.counts c.requires.fits)
          (is_adding y start others commands c.args.other_data.now.text.now other_is also.counts c.requires.other_fits) c.requires.apart
          (g.D.Disk.view c.args.disk.now) (g.met.D.Disk.sound c.args.disk.now honest).reads_left settled also (g.D.Disk.view c.settle_both.new.disk) has
          (c.in_ok-settle_both.ensures.durable honest) (g.D.Disk.view c.settle_both-2.new.disk) (data_sector (1 ∷ [])) (data_sector (1 ∷ [])) _
          (c.in_err-settle_both-2.ensures.effect has.honest);
      acknowledged = tt;
      durable = λ honest. tt;
      elsewhere = λ honest. tt;
      next = tt;
      other_next = tt;
      calls = tt;
      some_calls =
          made_in_gates c.args.place.now.next c.args.data.now.text.now c.args.other.now.next c.args.other_data.now.text.now
          (g.D.Disk.view c.args.disk.now) (g.D.Disk.view c.settle_both.new.disk) (g.D.Disk.view c.settle_both-2.new.disk)
          (rw (c.sectors_for-size.ensures, c.sectors_for-other_size.ensures) at c.in_ok-settle_both.ensures.runs.calls) c.settle_both-2.ensures.runs.some_calls;
    })

pub returns-clause-adds : goal.returns-clause-adds
returns-clause-adds g c = record {
  any_moment = λ before start entries others commands is other_is honest settled also.
      let x : Place = c.args.place.now in
      let y : Place = c.args.other.now in
      let has = rw (c.sectors_for-size.ensures, c.sectors_for-other_size.ensures) at (c.in_ok-settle_both.ensures.effect honest) in
      opens x y before start entries others commands c.args.data.now.text.now c.args.other_data.now.text.now
      (is_adding x before entries commands c.args.data.now.text.now is settled.counts c.requires.fits)
      (is_adding y start others commands c.args.other_data.now.text.now other_is also.counts c.requires.other_fits) c.requires.apart
      (g.D.Disk.view c.args.disk.now) (g.met.D.Disk.sound c.args.disk.now honest).reads_left settled also (g.D.Disk.view c.settle_both.new.disk) has
      (c.in_ok-settle_both.ensures.durable honest) (g.D.Disk.view c.settle_both-2.new.disk) (data_sector (1 ∷ [])) (data_sector (1 ∷ [])) _
      (c.in_ok-settle_both-2.ensures.effect has.honest);
  acknowledged = λ before start entries others commands is other_is honest settled also.
      let x : Place = c.args.place.now in
      let y : Place = c.args.other.now in
      let has = rw (c.sectors_for-size.ensures, c.sectors_for-other_size.ensures) at (c.in_ok-settle_both.ensures.effect honest) in
      let opened = ap (λ bytes. slice_index bytes 0) (sym open_gate_is) in
      rw (c.sectors_for-size.ensures, c.sectors_for-other_size.ensures)
      (at_end x y before start entries others commands c.args.data.now.text.now c.args.other_data.now.text.now
      (is_adding x before entries commands c.args.data.now.text.now is settled.counts c.requires.fits)
      (is_adding y start others commands c.args.other_data.now.text.now other_is also.counts c.requires.other_fits) c.requires.apart
      (g.D.Disk.view c.args.disk.now) (g.met.D.Disk.sound c.args.disk.now honest).reads_left settled also (g.D.Disk.view c.settle_both.new.disk) has
      (c.in_ok-settle_both.ensures.durable honest) (g.D.Disk.view c.settle_both-2.new.disk) (data_sector (1 ∷ [])) (data_sector (1 ∷ []))
      (c.in_ok-settle_both-2.ensures.effect has.honest) (c.in_ok-settle_both-2.ensures.durable has.honest) opened opened);
  durable = λ honest.
      let has = c.in_ok-settle_both.ensures.effect honest in c.in_ok-settle_both-2.ensures.durable has.honest;
  elsewhere = λ honest.
      let has = rw (c.sectors_for-size.ensures, c.sectors_for-other_size.ensures) at (c.in_ok-settle_both.ensures.effect honest) in
      elsewhere c.args.place.now c.args.other.now c.args.data.now.text.now c.args.other_data.now.text.now c.requires.up c.requires.other_up c.requires.fits
      c.requires.other_fits (g.D.Disk.view c.args.disk.now) (g.D.Disk.view c.settle_both.new.disk) (g.D.Disk.view c.settle_both-2.new.disk)
      (data_sector c.args.data.now.text.now) (data_sector c.args.other_data.now.text.now) (data_sector (1 ∷ [])) (data_sector (1 ∷ [])) _ _ has
      (c.in_ok-settle_both-2.ensures.effect has.honest);
  next = search rules;
  other_next = search rules;
  calls =
      made_at_end c.args.place.now.next c.args.data.now.text.now c.args.other.now.next c.args.other_data.now.text.now
      (g.D.Disk.view c.args.disk.now) (g.D.Disk.view c.settle_both.new.disk) (g.D.Disk.view c.settle_both-2.new.disk)
      (rw (c.sectors_for-size.ensures, c.sectors_for-other_size.ensures) at c.in_ok-settle_both.ensures.runs.calls) c.in_ok-settle_both-2.ensures.runs.calls;
  some_calls =
      made_in_gates c.args.place.now.next c.args.data.now.text.now c.args.other.now.next c.args.other_data.now.text.now
      (g.D.Disk.view c.args.disk.now) (g.D.Disk.view c.settle_both.new.disk) (g.D.Disk.view c.settle_both-2.new.disk)
      (rw (c.sectors_for-size.ensures, c.sectors_for-other_size.ensures) at c.in_ok-settle_both.ensures.runs.calls) c.settle_both-2.ensures.runs.some_calls;
}

pub returns-in_err-settle_both-clause-keeps : goal.returns-in_err-settle_both-clause-keeps
returns-in_err-settle_both-clause-keeps g c =
    keeps_where (g.D.Disk.view c.args.disk.now) (g.D.Disk.view c.settle_both.new.disk) c.in_err-settle_both.ensures.runs.keeps (λ e. refl)

pub returns-in_err-settle_both-2-clause-keeps : goal.returns-in_err-settle_both-2-clause-keeps
returns-in_err-settle_both-2-clause-keeps g c =
    keeps_on (g.D.Disk.view c.args.disk.now) (g.D.Disk.view c.settle_both.new.disk) (g.D.Disk.view c.settle_both-2.new.disk)
    c.in_ok-settle_both.ensures.runs.keeps c.in_err-settle_both-2.ensures.runs.keeps (λ e. refl)

pub returns-clause-keeps : goal.returns-clause-keeps
returns-clause-keeps g c = keeps_on (g.D.Disk.view c.args.disk.now) (g.D.Disk.view c.settle_both.new.disk) (g.D.Disk.view c.settle_both-2.new.disk)
    c.in_ok-settle_both.ensures.runs.keeps c.in_ok-settle_both-2.ensures.runs.keeps (λ e. absurd cc)

pub returns-in_err-settle_both-clause-in_range : goal.returns-in_err-settle_both-clause-in_range
returns-in_err-settle_both-clause-in_range g c =
    let p = err_from_is_err_and c.from_residual.result c.from_residual.ensures.1 in
    rw (p.1, p.2) c.in_err-settle_both.ensures.runs.in_range

pub returns-in_err-settle_both-2-clause-in_range : goal.returns-in_err-settle_both-2-clause-in_range
returns-in_err-settle_both-2-clause-in_range g c =
    let p = err_from_is_err_and c.from_residual-in_err-settle_both-2.result c.from_residual-in_err-settle_both-2.ensures.1 in
    rw (p.1, p.2) c.in_err-settle_both-2.ensures.runs.in_range
