use Rattle.std.proofs.Common.{◌≡◌, ◌+◌, ◌<◌, ◌≤◌, inl, inr, List, ℕ, Ok, Err, Some, slice_index, sym, ap, refl, ◌∙◌, arith}
use Rattle.std.proofs.lemmas.Result.{err_from_is_err_and}
use Rattle.sector_disk.specs.Disk.{View, sector}
use Rattle.sector_disk.specs.Effects.{OnlyReads}
use Rattle.sector_disk.specs.declared.record.Call.TheVariants.{Read}
use Rattle.sector_disk.proofs.Effects.{reads_on}
use Rattle.gated_journal.specs.Half.{stated_size, data_from}
use Rattle.gated_journal.specs.Record.{most_data_sectors}
use Rattle.gated_journal.specs.declared.form.Form.{Form}
use Rattle.gated_journal.specs.declared.form.Form.TheVariants.{Numbered, Plain}
use Rattle.gated_journal.proofs.Kept.{one_call, reads_one, reads_where}
use Rattle.gated_journal.proofs.Steps.{bytes_found, data_one, gate_closed, gate_last, too_long}
use Rattle.gated_journal.proofs.reading.read_data.Goals as goal

pub returns-in_err-read-clause-reads : goal.returns-in_err-read-clause-reads
returns-in_err-read-clause-reads g c =
    let old : View = g.D.Disk.view c.args.disk.now in
    let mid : View = g.D.Disk.view c.read.new.self in
    let inside : c.args.place.now.next < old.sectors = omega (arith, c.requires.gate.before, c.requires.gate.within) in
    let p = err_from_is_err_and c.from_residual.result c.from_residual.ensures.1 in
    let first = c.in_err-read.ensures in
    rw (p.1, p.2) (record {
      reads = reads_where old mid (reads_one old mid c.args.place.now.next _ (Err c.in_err-read.field-0.0) inside first.effect first.cause first.called first.in_range) (λ e. refl);
      exact = λ honest. tt;
      capacity = omega arith;
    })

pub returns-then-bytes-ne1-clause-reads : goal.returns-then-bytes-ne1-clause-reads
returns-then-bytes-ne1-clause-reads g c =
    let old : View = g.D.Disk.view c.args.disk.now in
    let mid : View = g.D.Disk.view c.read.new.self in
    let inside : c.args.place.now.next < old.sectors = omega (arith, c.requires.gate.before, c.requires.gate.within) in
    let first = c.in_ok-read.ensures in
    let one : OnlyReads old mid ⊥ = reads_where old mid (reads_one old mid c.args.place.now.next _ _ inside first.effect first.cause first.called first.in_range) (λ e. absurd e) in
    record {
      reads = reads_where old mid one (λ e. absurd cc);
      exact = λ honest. gate_closed c.args.place.now.form old.reads c.args.place.now.next c.args.place.now.end
          (λ opened. c.if-bytes-ne1.true (ap (λ (bytes : List ℕ). slice_index bytes 0) (first.effect inside honest).given ∙ opened));
      capacity = omega arith;
    }

pub returns-then-at-place-clause-reads : goal.returns-then-at-place-clause-reads
returns-then-at-place-clause-reads g c =
    let old : View = g.D.Disk.view c.args.disk.now in
    let mid : View = g.D.Disk.view c.read.new.self in
    let inside : c.args.place.now.next < old.sectors = omega (arith, c.requires.gate.before, c.requires.gate.within) in
    let first = c.in_ok-read.ensures in
    let one : OnlyReads old mid ⊥ = reads_where old mid (reads_one old mid c.args.place.now.next _ _ inside first.effect first.cause first.called first.in_range) (λ e. absurd e) in
    let gate : old.honest → slice_index (sector old.reads c.args.place.now.next) 0 ≡ 1 = λ honest.
    ap (λ (bytes : List ℕ). slice_index bytes 0) (sym (first.effect inside honest).given) ∙ omega (arith, c.if-bytes-ne1.false) in
    record {
      reads = reads_where old mid one (λ e. absurd cc);
      exact = λ honest. gate_last c.args.place.now.form old.reads c.args.place.now.next c.args.place.now.end (gate honest) (omega (arith, c.if-at-place.true));
      capacity = omega arith;
    }

pub returns-in_err-read-2-clause-reads : goal.returns-in_err-read-2-clause-reads
returns-in_err-read-2-clause-reads g c =
    let old : View = g.D.Disk.view c.args.disk.now in
    let mid : View = g.D.Disk.view c.read.new.self in
    let inside : c.args.place.now.next < old.sectors = omega (arith, c.requires.gate.before, c.requires.gate.within) in
    let first = c.in_ok-read.ensures in
    let one : OnlyReads old mid ⊥ = reads_where old mid (reads_one old mid c.args.place.now.next _ _ inside first.effect first.cause first.called first.in_range) (λ e. absurd e) in
    let new : View = g.D.Disk.view c.read-2.new.self in
    let lt : c.args.place.now.next + 1 < c.args.place.now.end = omega (arith, c.requires.gate.before, c.if-at-place.false) in
    let inside_2 : c.args.place.now.next + 1 < mid.sectors = omega (arith, lt, c.requires.gate.within, one.sectors) in
    let p = err_from_is_err_and c.from_residual-in_err-read-2.result c.from_residual-in_err-read-2.ensures.1 in
    let second = c.in_err-read-2.ensures in
    rw (p.1, p.2) (record {
      reads = reads_on old mid new one (reads_one mid new (c.args.place.now.next + 1) _ (Err c.in_err-read-2.field-0.0) inside_2 second.effect second.cause second.called
          second.in_range) (λ e. refl);
      exact = λ honest. tt;
      capacity = omega arith;
    })

pub returns-then-size-gt-MOST_SECTORS-clause-reads : goal.returns-then-size-gt-MOST_SECTORS-clause-reads
returns-then-size-gt-MOST_SECTORS-clause-reads g c =
    let old : View = g.D.Disk.view c.args.disk.now in
    let mid : View = g.D.Disk.view c.read.new.self in
    let inside : c.args.place.now.next < old.sectors = omega (arith, c.requires.gate.before, c.requires.gate.within) in
    let first = c.in_ok-read.ensures in
    let one : OnlyReads old mid ⊥ = reads_where old mid (reads_one old mid c.args.place.now.next _ _ inside first.effect first.cause first.called first.in_range) (λ e. absurd e) in
    let gate : old.honest → slice_index (sector old.reads c.args.place.now.next) 0 ≡ 1 = λ honest.
    ap (λ (bytes : List ℕ). slice_index bytes 0) (sym (first.effect inside honest).given) ∙ omega (arith, c.if-bytes-ne1.false) in
    let new : View = g.D.Disk.view c.read-2.new.self in
    let lt : c.args.place.now.next + 1 < c.args.place.now.end = omega (arith, c.requires.gate.before, c.if-at-place.false) in
    let inside_2 : c.args.place.now.next + 1 < mid.sectors = omega (arith, lt, c.requires.gate.within, one.sectors) in
    let second = c.in_ok-read-2.ensures in
    let both : OnlyReads old new ⊥ = reads_on old mid new one (reads_where mid new {Y = ⊥}
    (reads_one mid new (c.args.place.now.next + 1) _ _ inside_2 second.effect second.cause second.called second.in_range) (λ e. absurd e)) (λ e. e) in
    let size = c.stated_size-size.result in
    let form = c.args.place.now.form in
    let stated : old.honest → stated_size form (sector old.reads (c.args.place.now.next + 1)) ≡ size = λ honest.
    let was = first.effect inside honest in
    let here : sector old.reads (c.args.place.now.next + 1) ≡ c.read-2.new.bytes = sym ((second.effect inside_2 was.honest).given ∙
    ap (λ (reads : List (List ℕ)). sector reads (c.args.place.now.next + 1)) was.reads) in
    ap (stated_size form) here ∙ sym c.stated_size-size.ensures in
    record {
      reads = reads_where old new both (λ e. absurd cc);
      exact = λ honest. too_long form old.reads c.args.place.now.next c.args.place.now.end size lt (gate honest) (stated honest)
          (inl (omega (arith, c.if-size-gt-MOST_SECTORS.true)));
      capacity = omega arith;
    }

pub returns-then-place-at-clause-reads : goal.returns-then-place-at-clause-reads
returns-then-place-at-clause-reads g c =
    let old : View = g.D.Disk.view c.args.disk.now in
    let mid : View = g.D.Disk.view c.read.new.self in
    let inside : c.args.place.now.next < old.sectors = omega (arith, c.requires.gate.before, c.requires.gate.within) in
    let first = c.in_ok-read.ensures in
    let one : OnlyReads old mid ⊥ = reads_where old mid (reads_one old mid c.args.place.now.next _ _ inside first.effect first.cause first.called first.in_range) (λ e. absurd e) in
    let gate : old.honest → slice_index (sector old.reads c.args.place.now.next) 0 ≡ 1 = λ honest.
    ap (λ (bytes : List ℕ). slice_index bytes 0) (sym (first.effect inside honest).given) ∙ omega (arith, c.if-bytes-ne1.false) in
    let new : View = g.D.Disk.view c.read-2.new.self in
    let lt : c.args.place.now.next + 1 < c.args.place.now.end = omega (arith, c.requires.gate.before, c.if-at-place.false) in
    let inside_2 : c.args.place.now.next + 1 < mid.sectors = omega (arith, lt, c.requires.gate.within, one.sectors) in
    let second = c.in_ok-read-2.ensures in
    let both : OnlyReads old new ⊥ = reads_on old mid new one (reads_where mid new {Y = ⊥}
    (reads_one mid new (c.args.place.now.next + 1) _ _ inside_2 second.effect second.cause second.called second.in_range) (λ e. absurd e)) (λ e. e) in
    let size = c.stated_size-size.result in
    let form = c.args.place.now.form in
    let stated : old.honest → stated_size form (sector old.reads (c.args.place.now.next + 1)) ≡ size = λ honest.
    let was = first.effect inside honest in
    let here : sector old.reads (c.args.place.now.next + 1) ≡ c.read-2.new.bytes = sym ((second.effect inside_2 was.honest).given ∙
    ap (λ (reads : List (List ℕ)). sector reads (c.args.place.now.next + 1)) was.reads) in
    ap (stated_size form) here ∙ sym c.stated_size-size.ensures in
    record {
      reads = reads_where old new both (λ e. absurd cc);
      exact = λ honest. too_long form old.reads c.args.place.now.next c.args.place.now.end size lt (gate honest) (stated honest)
          (inr (omega (arith, lt, c.if-place-at.true)));
      capacity = omega arith;
    }

pub returns-in_err-read_sectors-clause-reads : goal.returns-in_err-read_sectors-clause-reads
returns-in_err-read_sectors-clause-reads g c =
    let old : View = g.D.Disk.view c.args.disk.now in
    let mid : View = g.D.Disk.view c.read.new.self in
    let inside : c.args.place.now.next < old.sectors = omega (arith, c.requires.gate.before, c.requires.gate.within) in
    let first = c.in_ok-read.ensures in
    let one : OnlyReads old mid ⊥ = reads_where old mid (reads_one old mid c.args.place.now.next _ _ inside first.effect first.cause first.called first.in_range) (λ e. absurd e) in
    let new : View = g.D.Disk.view c.read-2.new.self in
    let lt : c.args.place.now.next + 1 < c.args.place.now.end = omega (arith, c.requires.gate.before, c.if-at-place.false) in
    let inside_2 : c.args.place.now.next + 1 < mid.sectors = omega (arith, lt, c.requires.gate.within, one.sectors) in
    let second = c.in_ok-read-2.ensures in
    let both : OnlyReads old new ⊥ = reads_on old mid new one (reads_where mid new {Y = ⊥}
    (reads_one mid new (c.args.place.now.next + 1) _ _ inside_2 second.effect second.cause second.called second.in_range) (λ e. absurd e)) (λ e. e) in
    let size = c.stated_size-size.result in
    let form = c.args.place.now.form in
    let stated : old.honest → stated_size form (sector old.reads (c.args.place.now.next + 1)) ≡ size = λ honest.
    let was = first.effect inside honest in
    let here : sector old.reads (c.args.place.now.next + 1) ≡ c.read-2.new.bytes = sym ((second.effect inside_2 was.honest).given ∙
    ap (λ (reads : List (List ℕ)). sector reads (c.args.place.now.next + 1)) was.reads) in
    ap (stated_size form) here ∙ sym c.stated_size-size.ensures in
    let p = err_from_is_err_and c.from_residual-in_err-read_sectors.result c.from_residual-in_err-read_sectors.ensures.1 in
    let third = c.in_err-read_sectors.ensures in
    rw (p.1, p.2) (record {
      reads = reads_on old new _ both third.reads (λ e. refl);
      exact = λ honest. tt;
      capacity = omega (arith, c.clear.ensures.capacity, c.add.ensures.capacity, third.capacity);
    })

pub returns-clause-reads : goal.returns-clause-reads
returns-clause-reads g c =
    let old : View = g.D.Disk.view c.args.disk.now in
    let mid : View = g.D.Disk.view c.read.new.self in
    let inside : c.args.place.now.next < old.sectors = omega (arith, c.requires.gate.before, c.requires.gate.within) in
    let first = c.in_ok-read.ensures in
    let one : OnlyReads old mid ⊥ = reads_where old mid (reads_one old mid c.args.place.now.next _ _ inside first.effect first.cause first.called first.in_range) (λ e. absurd e) in
    let gate : old.honest → slice_index (sector old.reads c.args.place.now.next) 0 ≡ 1 = λ honest.
    ap (λ (bytes : List ℕ). slice_index bytes 0) (sym (first.effect inside honest).given) ∙ omega (arith, c.if-bytes-ne1.false) in
    let new : View = g.D.Disk.view c.read-2.new.self in
    let lt : c.args.place.now.next + 1 < c.args.place.now.end = omega (arith, c.requires.gate.before, c.if-at-place.false) in
    let inside_2 : c.args.place.now.next + 1 < mid.sectors = omega (arith, lt, c.requires.gate.within, one.sectors) in
    let second = c.in_ok-read-2.ensures in
    let both : OnlyReads old new ⊥ = reads_on old mid new one (reads_where mid new {Y = ⊥}
    (reads_one mid new (c.args.place.now.next + 1) _ _ inside_2 second.effect second.cause second.called second.in_range) (λ e. absurd e)) (λ e. e) in
    let size = c.stated_size-size.result in
    let form = c.args.place.now.form in
    let stated : old.honest → stated_size form (sector old.reads (c.args.place.now.next + 1)) ≡ size = λ honest.
    let was = first.effect inside honest in
    let here : sector old.reads (c.args.place.now.next + 1) ≡ c.read-2.new.bytes = sym ((second.effect inside_2 was.honest).given ∙
    ap (λ (reads : List (List ℕ)). sector reads (c.args.place.now.next + 1)) was.reads) in
    ap (stated_size form) here ∙ sym c.stated_size-size.ensures in
    let third = c.in_ok-read_sectors.ensures in
    let within : c.args.place.now.next + 1 + size < c.args.place.now.end = omega (arith, lt, c.if-place-at.false) in
    let few : size ≤ most_data_sectors = omega (arith, c.if-size-gt-MOST_SECTORS.false) in
    record {
      reads = reads_on old new _ both third.reads (λ e. absurd cc);
      exact = λ honest.
          let was = both.only_read honest in
          let one_more : c.add.new.self.items ≡ data_from new.reads (c.args.place.now.next + 1) 1 =
          c.add.ensures.items ∙ data_one new.reads (c.args.place.now.next + 1) c.clear.new.self.items c.read-2.new.bytes c.clear.ensures.items
          ((second.effect inside_2 (first.effect inside honest).honest).given ∙
          ap (λ (reads : List (List ℕ)). sector reads (c.args.place.now.next + 1)) (sym (second.effect inside_2 (first.effect inside honest).honest).reads)) in
          let text : c.read_sectors.new.buffer.items ≡ data_from old.reads (c.args.place.now.next + 1) size = third.bytes was.honest one_more ∙
          ap (λ (reads : List (List ℕ)). data_from reads (c.args.place.now.next + 1) size) was.reads in
          bytes_found form old.reads c.args.place.now.next c.args.place.now.end size few within (gate honest) (stated honest) ∙
          ap (λ (bytes : List ℕ). Ok (Some (bytes, c.args.place.now.next + 1 + size))) (sym text);
      capacity = omega (arith, c.clear.ensures.capacity, c.add.ensures.capacity, third.capacity);
    }

-- a record takes a sector at least
some_sectors : (form : Form) (bytes : List ℕ) → 1 ≤ stated_size form bytes
some_sectors Plain bytes = omega arith
some_sectors Numbered bytes = omega arith

pub returns-then-bytes-ne1-clause-calls : goal.returns-then-bytes-ne1-clause-calls
returns-then-bytes-ne1-clause-calls g c = one_call (g.D.Disk.view c.args.disk.now) (g.D.Disk.view c.read.new.self) (Read c.args.place.now.next) c.in_ok-read.ensures.called.made

pub returns-clause-calls : goal.returns-clause-calls
returns-clause-calls g c =
    let mid : View = g.D.Disk.view c.read.new.self in
    let new : View = g.D.Disk.view c.read-2.new.self in
    let first = one_call (g.D.Disk.view c.args.disk.now) mid (Read c.args.place.now.next) c.in_ok-read.ensures.called.made in
    let second = one_call mid new (Read (c.args.place.now.next + 1)) c.in_ok-read-2.ensures.called.made in
    let some : 1 ≤ c.stated_size-size.result = rw c.stated_size-size.ensures (some_sectors c.args.place.now.form c.read-2.new.bytes) in
    omega (arith, first, second, some, c.in_ok-read_sectors.ensures.calls)
