use Rattle.std.proofs.Common.{◌≡◌, ℕ, ◌+◌, List, ◌∷◌, [], ◌++◌, Ok, refl, ap, sym, ◌∙◌, arith}
use Rattle.std.proofs.lemmas.Result.{err_from_is_err_and}
use Rattle.sector_disk.specs.Disk.{View}
use Rattle.gated_journal.specs.Half.{RecordAt, Half, half_of}
use Rattle.gated_journal.specs.declared.place.Place.{Place}
use Rattle.sector_disk.proofs.Effects.{reads_on}
use Rattle.gated_journal.proofs.Halves.{error_on, prefix_closed, prefix_more, prefix_none}
use Rattle.gated_journal.proofs.Kept.{err_as, reads_none}
use Rattle.gated_journal.proofs.reading.judge_half.Goals as goal

gate_is : {A : Type 0} (held : List (RecordAt A) × ℕ) (entries : List (RecordAt A)) (gate : ℕ) → ◌≡◌ {A = Half A} (Ok held) (Ok (entries, gate)) → held.1 ≡ gate
gate_is held entries gate is = let same : held ≡ (entries, gate) = cc in ap (λ x. x.1) same

pub loop-count-init : goal.loop-count-init
loop-count-init g c = record {
  end = refl;
  form = refl;
  up = omega arith;
  within = c.requires.half.before;
  counts = c.requires.half.counts;
  capacity = omega arith;
  reads = reads_none _ (λ e. e);
  calls = refl;
  so_far = λ honest. ([], prefix_none _);
}

pub returns-in_err-count-clause-reads : goal.returns-in_err-count-clause-reads
returns-in_err-count-clause-reads g c =
    let p = err_from_is_err_and c.from_residual.result c.from_residual.ensures.1 in
    rw (p.1, p.2) (record {
      reads = reads_on (g.D.Disk.view c.args.disk.now) (g.D.Disk.view c.loop-count.disk) _ c.loop-count.invariant.reads c.in_err-count.ensures.reads.reads (err_as _ _);
      exact = λ honest.
          let old : View = g.D.Disk.view c.args.disk.now in
          let rest : Place = c.loop-count.rest in
          let only_read = c.loop-count.invariant.reads.only_read honest in
          let read = rw only_read.reads at (c.in_err-count.ensures.reads.exact only_read.honest) in
          let prefix = c.loop-count.invariant.so_far honest in
          (error_on rest.form rest.count old.reads rest.next rest.end prefix.0
          (half_of c.args.place.now.form c.args.place.now.count old.reads c.args.place.now.next c.args.place.now.end) c.loop-count.invariant.within
          prefix.1 c.in_err-count.field-0.0 read);
      capacity = omega (arith, c.in_err-count.ensures.reads.capacity, c.loop-count.invariant.capacity);
    })

pub returns-in_err-count-clause-kinds : goal.returns-in_err-count-clause-kinds
returns-in_err-count-clause-kinds g c =
    let p = err_from_is_err_and c.from_residual.result c.from_residual.ensures.1 in
    rw (p.1, p.2) (rw c.loop-count.invariant.end at c.in_err-count.ensures.kinds)

pub loop-count-preserved : goal.loop-count-preserved
loop-count-preserved g c =
    let old : View = g.D.Disk.view c.args.disk.now in
    let mid : View = g.D.Disk.view c.loop-count.disk in
    let rest : Place = c.loop-count.rest in
    let on = rw c.in-Some.is at c.in_ok-count.ensures.on in
    let calls = rw c.in-Some.is at c.in_ok-count.ensures.calls in
    record {
      end = c.loop-count.invariant.end;
      form = c.loop-count.invariant.form;
      up = omega (arith, on.0, c.loop-count.invariant.up);
      within = on.1;
      counts = omega (arith, on.0, on.1, on.2, c.loop-count.invariant.counts);
      capacity = omega (arith, c.in_ok-count.ensures.reads.capacity, c.loop-count.invariant.capacity);
      reads = reads_on old mid _ c.loop-count.invariant.reads c.in_ok-count.ensures.reads.reads (λ e. absurd e);
      calls = omega (arith, on.0, calls, c.loop-count.invariant.calls);
      so_far = λ honest.
          let only_read = c.loop-count.invariant.reads.only_read honest in
          let read = rw (c.in-Some.is, only_read.reads) at (c.in_ok-count.ensures.reads.exact only_read.honest) in
          let prefix = c.loop-count.invariant.so_far honest in (
            prefix.0 ++ (rest.next + 1, read.0) ∷ [],
            rw (← read.1) (prefix_more rest.form rest.count old.reads rest.next rest.end prefix.0
                (half_of c.args.place.now.form c.args.place.now.count old.reads c.args.place.now.next c.args.place.now.end)
                c.loop-count.invariant.within prefix.1 read.0 c.in-Some.next read.2),
          );
    }

pub returns-clause-reads : goal.returns-clause-reads
returns-clause-reads g c = record {
  reads = reads_on (g.D.Disk.view c.args.disk.now) (g.D.Disk.view c.loop-count.disk) _ c.loop-count.invariant.reads c.in_ok-count.ensures.reads.reads (λ e. absurd cc);
  exact = λ honest.
      let old : View = g.D.Disk.view c.args.disk.now in
      let rest : Place = c.loop-count.rest in
      let only_read = c.loop-count.invariant.reads.only_read honest in
      let read = rw (c.in_default.is, only_read.reads) at (c.in_ok-count.ensures.reads.exact only_read.honest) in
      let prefix = c.loop-count.invariant.so_far honest in (
        (prefix.0, rest.next),
        prefix_closed rest.form rest.count old.reads rest.next rest.end prefix.0
            (half_of c.args.place.now.form c.args.place.now.count old.reads c.args.place.now.next c.args.place.now.end) c.loop-count.invariant.within
            prefix.1 read,
      );
  capacity = omega (arith, c.in_ok-count.ensures.reads.capacity, c.loop-count.invariant.capacity);
}

pub returns-clause-calls : goal.returns-clause-calls
returns-clause-calls g c honest held is =
    let old : View = g.D.Disk.view c.args.disk.now in
    let rest : Place = c.loop-count.rest in
    let only_read = c.loop-count.invariant.reads.only_read honest in
    let read = rw (c.in_default.is, only_read.reads) at (c.in_ok-count.ensures.reads.exact only_read.honest) in
    let prefix = c.loop-count.invariant.so_far honest in
    let ends = prefix_closed rest.form rest.count old.reads rest.next rest.end prefix.0
    (half_of c.args.place.now.form c.args.place.now.count old.reads c.args.place.now.next c.args.place.now.end) c.loop-count.invariant.within prefix.1 read in
    let gate : held.1 ≡ rest.next = gate_is held prefix.0 rest.next (sym is ∙ ends) in
    let one = rw c.in_default.is at c.in_ok-count.ensures.calls in
    omega (arith, one, gate, c.loop-count.invariant.up, c.loop-count.invariant.calls)

pub judge_record-requires : goal.judge_record-requires
judge_record-requires g c = record {
  gate = record {
    before = c.loop-count.invariant.within;
    within = omega (arith, c.loop-count.invariant.reads.sectors, c.loop-count.invariant.end, c.requires.half.within);
    counts = c.loop-count.invariant.counts;
    room = omega (arith, c.loop-count.invariant.capacity, c.requires.half.room);
  };
}
