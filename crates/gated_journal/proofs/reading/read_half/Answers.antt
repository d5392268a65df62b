use Rattle.std.proofs.Common.{rules, ◌≡◌, ◌+◌, ◌∷◌, [], ◌++◌, ◌∙◌, ℕ, length, sym, ap, arith, refl}
use Rattle.std.proofs.lemmas.Result.{err_from_is_err_and}
use Rattle.std.proofs.lemmas.List.{map_push}
use Rattle.sector_disk.specs.Disk.{View}
use Rattle.gated_journal.specs.Half.{half_of}
use Rattle.gated_journal.specs.Reading.{entry_view, entries_view}
use Rattle.gated_journal.specs.declared.place.Place.{Place}
use Rattle.sector_disk.proofs.Effects.{reads_on}
use Rattle.gated_journal.proofs.Halves.{counted_more, prefix_more, prefix_closed, error_on}
use Rattle.gated_journal.proofs.Kept.{err_as, reads_none}
use Rattle.gated_journal.proofs.reading.read_half.Goals as goal

pub returns-in_err-commands-clause-reads : goal.returns-in_err-commands-clause-reads
returns-in_err-commands-clause-reads g c =
    let p = err_from_is_err_and c.from_residual-in_err-commands.result c.from_residual-in_err-commands.ensures.1 in
    rw (p.1, p.2) (record {
      reads = reads_on (g.D.Disk.view c.args.disk.now) (g.D.Disk.view c.loop-entries.disk) _ c.loop-entries.invariant.reads c.in_err-commands.ensures.reads.reads (err_as _ _);
      exact = λ honest.
          let old : View = g.D.Disk.view c.args.disk.now in
          let rest : Place = c.loop-entries.rest in
          let only_read = c.loop-entries.invariant.reads.only_read honest in
          let read = rw only_read.reads at (c.in_err-commands.ensures.reads.exact only_read.honest) in
          (error_on rest.form rest.count old.reads rest.next rest.end (entries_view c.loop-entries.entries.items)
          (half_of c.args.place.now.form c.args.place.now.count old.reads c.args.place.now.next c.args.place.now.end)
          c.loop-entries.invariant.within (c.loop-entries.invariant.so_far honest) c.in_err-commands.field-0.0 read);
      capacity = omega (arith, c.in_err-commands.ensures.reads.capacity, c.loop-entries.invariant.capacity);
    })

pub returns-in_err-commands-clause-kinds : goal.returns-in_err-commands-clause-kinds
returns-in_err-commands-clause-kinds g c =
    let p = err_from_is_err_and c.from_residual-in_err-commands.result c.from_residual-in_err-commands.ensures.1 in
    rw (p.1, p.2) (rw c.loop-entries.invariant.end at c.in_err-commands.ensures.kinds)

pub loop-entries-preserved : goal.loop-entries-preserved
loop-entries-preserved g c =
    let old : View = g.D.Disk.view c.args.disk.now in
    let mid : View = g.D.Disk.view c.loop-entries.disk in
    let rest : Place = c.loop-entries.rest in
    let on = rw c.in-Some.is at c.in_ok-commands.ensures.on in
    let pushed : entries_view c.push.new.self.items ≡ entries_view c.loop-entries.entries.items ++ (rest.next + 1, c.in-Some.commands.items) ∷ [] =
    rw c.in_ok-push.ensures.items (map_push entry_view c.loop-entries.entries.items (rest.next + 1, c.in-Some.commands)) in
    let many : c.len.result ≡ length c.in-Some.commands.items = search rules in
    record {
      first = c.loop-entries.invariant.first;
      end = c.loop-entries.invariant.end;
      form = c.loop-entries.invariant.form;
      up = omega (arith, on.0, c.loop-entries.invariant.up);
      within = on.1;
      counts = omega (arith, many, on.0, on.1, on.2, c.loop-entries.invariant.counts);
      counted = rw (many, pushed) (ap (λ (n : ℕ). n + length c.in-Some.commands.items) c.loop-entries.invariant.counted ∙
          sym (counted_more c.args.place.now.count (entries_view c.loop-entries.entries.items) (rest.next + 1, c.in-Some.commands.items)));
      capacity = omega (arith, c.in_ok-commands.ensures.reads.capacity, c.loop-entries.invariant.capacity);
      reads = reads_on old mid _ c.loop-entries.invariant.reads c.in_ok-commands.ensures.reads.reads (λ e. absurd e);
      so_far = λ honest.
          let only_read = c.loop-entries.invariant.reads.only_read honest in
          let read = rw (c.in-Some.is, only_read.reads) at (c.in_ok-commands.ensures.reads.exact only_read.honest) in
          rw (many, pushed) (prefix_more rest.form rest.count old.reads rest.next rest.end (entries_view c.loop-entries.entries.items)
          (half_of c.args.place.now.form c.args.place.now.count old.reads c.args.place.now.next c.args.place.now.end)
          c.loop-entries.invariant.within (c.loop-entries.invariant.so_far honest) c.in-Some.commands.items c.in-Some.next read);
    }

pub returns-clause-reads : goal.returns-clause-reads
returns-clause-reads g c = record {
  reads = reads_on (g.D.Disk.view c.args.disk.now) (g.D.Disk.view c.loop-entries.disk) _ c.loop-entries.invariant.reads c.in_ok-commands.ensures.reads.reads (λ e. absurd cc);
  exact = λ honest.
      let old : View = g.D.Disk.view c.args.disk.now in
      let rest : Place = c.loop-entries.rest in
      let only_read = c.loop-entries.invariant.reads.only_read honest in
      let read = rw (c.in_default.is, only_read.reads) at (c.in_ok-commands.ensures.reads.exact only_read.honest) in
      prefix_closed rest.form rest.count old.reads rest.next rest.end (entries_view c.loop-entries.entries.items)
      (half_of c.args.place.now.form c.args.place.now.count old.reads c.args.place.now.next c.args.place.now.end)
      c.loop-entries.invariant.within (c.loop-entries.invariant.so_far honest) read;
  capacity = omega (arith, c.in_ok-commands.ensures.reads.capacity, c.loop-entries.invariant.capacity);
}

pub read_record-requires : goal.read_record-requires
read_record-requires g c = record {
  gate = record {
    before = c.loop-entries.invariant.within;
    within = omega (arith, c.loop-entries.invariant.reads.sectors, c.loop-entries.invariant.end, c.requires.half.within);
    counts = c.loop-entries.invariant.counts;
    room = omega (arith, c.loop-entries.invariant.capacity, c.requires.half.room);
  };
}

pub loop-entries-init : goal.loop-entries-init
loop-entries-init g c = record {
  first = refl;
  end = refl;
  form = refl;
  up = omega arith;
  within = c.requires.half.before;
  counts = c.requires.half.counts;
  counted = search rules;
  capacity = omega arith;
  reads = reads_none _ (λ e. e);
  so_far = search rules;
}

pub returns-clause-continues : goal.returns-clause-continues
returns-clause-continues g c = record {
  first = c.loop-entries.invariant.first;
  end = c.loop-entries.invariant.end;
  form = c.loop-entries.invariant.form;
  up = c.loop-entries.invariant.up;
  within = omega (arith, c.loop-entries.invariant.within, c.loop-entries.invariant.end);
  count = c.loop-entries.invariant.counted;
}

pub returns-in_err-push-clause-reads : goal.returns-in_err-push-clause-reads
returns-in_err-push-clause-reads g c =
    let p = err_from_is_err_and c.from_residual-in_err-push.result c.from_residual-in_err-push.ensures.1 in
    rw (p.1, p.2) (record {
      reads = reads_on (g.D.Disk.view c.args.disk.now) (g.D.Disk.view c.loop-entries.disk) _ c.loop-entries.invariant.reads c.in_ok-commands.ensures.reads.reads (λ e. absurd cc);
      exact = λ honest. tt;
      capacity = omega (arith, c.in_ok-commands.ensures.reads.capacity, c.loop-entries.invariant.capacity);
    })
