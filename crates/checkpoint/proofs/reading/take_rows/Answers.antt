use Rattle.std.proofs.Common.{◌≡◌, ℕ, ◌+◌, ◌<◌, ◌≤◌, None, refl, sym, ap, ◌∙◌, arith}
use Rattle.std.proofs.lemmas.Result.{err_from_is_err_and}
use Rattle.sector_disk.specs.Disk.{View, IsSector, sector}
use Rattle.sector_disk.proofs.Effects.{reads_on}
use Rattle.image_rows.specs.Loading.{Loading, finished}
use Rattle.checkpoint.proofs.OnlyReading.{none_read, not_refused, reads_as}
use Rattle.checkpoint.proofs.ReadCalls.{calls_at, read_made, made_at, no_read_yet, one_read_more, some_reads}
use Rattle.checkpoint.proofs.Readback.{all_came, bad_after, damaged_is, none_whole, one_taken, rest_bad, rest_begun, rest_ended, rest_next}
use Rattle.checkpoint.proofs.Readback.{rest_whole, slot_fits, slot_is, some_whole, taken_begun, whole_limits}
use Rattle.checkpoint.proofs.reading.take_rows.Goals as goal

pub loop-first-init : goal.loop-first-init
loop-first-init g c =
    let layout = c.args.layout.now in
    let old : View = g.D.Disk.view c.args.disk.now in
    record {
      few = omega arith;
      reads = none_read _ (λ e. e);
      limits = ap (λ (l : Loading). l.state.registered.limits) c.requires.begun;
      calls = no_read_yet _ _;
      rest = λ honest. rest_begun old.reads c.slot-first.result c.slot_len-sectors.result layout.limits c.args.loader.now c.requires.begun;
      taken = λ honest. taken_begun layout.limits c.args.loader.now c.requires.begun;
    }

pub overflow_add-first : goal.overflow_add-first
overflow_add-first g c =
    let layout = c.args.layout.now in
    let side = c.args.side in
    let first = c.slot-first.result in
    let size = c.slot_len-sectors.result in
    let k = c.loop-first.read in
    let so_far = c.loop-first.invariant in
    let lt : k < size = omega (arith, so_far.few, c.if-read-sectors.false) in
    let fits = slot_fits layout side first size c.slot-first.ensures c.slot_len-sectors.ensures.value in
    omega (arith, lt, fits)

pub take_row-requires : goal.take_row-requires
take_row-requires g c =
    let size = c.slot_len-sectors.result in
    let k = c.loop-first.read in
    let so_far = c.loop-first.invariant in
    let lt : k < size = omega (arith, so_far.few, c.if-read-sectors.false) in
    let inside = c.requires.inside in
    omega (arith, lt, c.slot-first.ensures, c.slot_len-sectors.ensures.value, inside, so_far.reads.sectors)

pub loop-first-preserved : goal.loop-first-preserved
loop-first-preserved g c =
    let layout = c.args.layout.now in
    let old : View = g.D.Disk.view c.args.disk.now in
    let mid : View = g.D.Disk.view c.loop-first.disk in
    let first = c.slot-first.result in
    let size = c.slot_len-sectors.result in
    let k = c.loop-first.read in
    let l = c.loop-first.loader in
    let so_far = c.loop-first.invariant in
    let more : finished l ≡ None = none_whole _ c.loop-first-test.ensures in
    let lt : k < size = omega (arith, so_far.few, c.if-read-sectors.false) in
    let slot = c.requires.inside in
    let inside : first + k < old.sectors = omega (arith, lt, c.slot-first.ensures, c.slot_len-sectors.ensures.value, slot) in
    record {
      few = omega (arith, lt);
      reads = reads_on old mid _ so_far.reads c.in_ok-take_row.ensures.reads (λ e. absurd e);
      limits = c.in_ok-take_row.ensures.limits ∙ so_far.limits;
      calls = one_read_more old.calls mid.calls _ first k so_far.calls c.in_ok-take_row.ensures.made.calls;
      rest = λ honest.
          let only_read = so_far.reads.only_read honest in
          let taken = rw only_read.reads at (c.in_ok-take_row.ensures.taken only_read.honest) in
          sym (rest_next old.reads first size k l more lt c.take_row.new.loader taken) ∙ so_far.rest honest;
      taken = λ honest.
          let only_read = so_far.reads.only_read honest in
          let sound = g.met.D.Disk.sound c.args.disk.now honest in
          let taken = rw only_read.reads at (c.in_ok-take_row.ensures.taken only_read.honest) in
          let bytes : IsSector (sector old.reads (first + k)) = sound.reads_left.whole (first + k) (omega (arith, inside, sound.count)) in
          one_taken layout.limits k l c.take_row.new.loader (sector old.reads (first + k)) bytes taken (so_far.taken honest);
    }

pub returns-then-read-sectors-clause-refused : goal.returns-then-read-sectors-clause-refused
returns-then-read-sectors-clause-refused g c =
    let layout = c.args.layout.now in
    let side = c.args.side in
    let old : View = g.D.Disk.view c.args.disk.now in
    let mid : View = g.D.Disk.view c.loop-first.disk in
    let first = c.slot-first.result in
    let size = c.slot_len-sectors.result in
    let k = c.loop-first.read in
    let l = c.loop-first.loader in
    let so_far = c.loop-first.invariant in
    let more : finished l ≡ None = none_whole _ c.loop-first-test.ensures in
    let slot = slot_is layout side first size c.slot-first.ensures c.slot_len-sectors.ensures.value old.reads in
    let all : size ≤ k = omega (arith, c.if-read-sectors.true) in
    record {
      damaged = λ at e honest.
          (k, sym (so_far.rest honest ∙ slot) ∙ rest_ended old.reads first size k l more all, sym (damaged_is (first + k) at e) ∙ ap (λ (at : ℕ). at + k) c.slot-first.ensures);
      on_disk = λ at e.
          let here : first + k ≡ at = damaged_is (first + k) at e in
          let few = so_far.few in
          let inside = c.requires.inside in
          omega (arith, here, few, inside, c.slot-first.ensures, c.slot_len-sectors.ensures.value);
      memory = λ e. absurd cc;
    }

pub returns-then-read-sectors-clause-reads : goal.returns-then-read-sectors-clause-reads
returns-then-read-sectors-clause-reads g c =
    reads_as (g.D.Disk.view c.args.disk.now) (g.D.Disk.view c.loop-first.disk) c.loop-first.invariant.reads (λ e. cc)

pub returns-then-read-sectors-clause-some_calls : goal.returns-then-read-sectors-clause-some_calls
returns-then-read-sectors-clause-some_calls g c =
    let old : View = g.D.Disk.view c.args.disk.now in
    let mid : View = g.D.Disk.view c.loop-first.disk in
    let first = c.slot-first.result in
    let size = c.slot_len-sectors.result in
    let k = c.loop-first.read in
    let so_far = c.loop-first.invariant in
    made_at old mid first _ size _ c.slot-first.ensures c.slot_len-sectors.ensures.value (some_reads old mid first k size so_far.few so_far.calls)

pub returns-in_err-take_row-clause-refused : goal.returns-in_err-take_row-clause-refused
returns-in_err-take_row-clause-refused g c =
    let layout = c.args.layout.now in
    let side = c.args.side in
    let old : View = g.D.Disk.view c.args.disk.now in
    let mid : View = g.D.Disk.view c.loop-first.disk in
    let first = c.slot-first.result in
    let size = c.slot_len-sectors.result in
    let k = c.loop-first.read in
    let l = c.loop-first.loader in
    let so_far = c.loop-first.invariant in
    let new : View = g.D.Disk.view c.take_row.new.disk in
    let more : finished l ≡ None = none_whole _ c.loop-first-test.ensures in
    let lt : k < size = omega (arith, so_far.few, c.if-read-sectors.false) in
    let slot = slot_is layout side first size c.slot-first.ensures c.slot_len-sectors.ensures.value old.reads in
    let p = err_from_is_err_and c.from_residual.result c.from_residual.ensures.1 in
    record {
      damaged = λ at e honest.
          let stated = c.in_err-take_row.ensures.damaged at (rw (p.1, p.2) at e) in
          let only_read = so_far.reads.only_read honest in
          let bad = rw only_read.reads at (stated.1 only_read.honest) in
          (k, sym (so_far.rest honest ∙ slot) ∙ rest_bad old.reads first size k l more lt bad, stated.0 ∙ ap (λ (at : ℕ). at + k) c.slot-first.ensures);
      on_disk = λ at e.
          let stated = c.in_err-take_row.ensures.damaged at (rw (p.1, p.2) at e) in
          let here = stated.0 in
          let inside = c.requires.inside in
          omega (arith, here, lt, inside, c.slot-first.ensures, c.slot_len-sectors.ensures.value);
      memory = λ e honest.
          let stated = c.in_err-take_row.ensures.memory (rw (p.1, p.2) at e) in
          let only_read = so_far.reads.only_read honest in
          let good = rw only_read.reads at (stated.1 only_read.honest) in
          record {
            read = k + 1;
            calls = calls_at old.calls new.calls first _ (k + 1) _ c.slot-first.ensures refl (one_read_more old.calls mid.calls new.calls first k so_far.calls stated.0);
            good = λ place is. bad_after old.reads first size k l more lt good place (so_far.rest honest ∙ slot ∙ is);
          };
    }

pub returns-in_err-take_row-clause-reads : goal.returns-in_err-take_row-clause-reads
returns-in_err-take_row-clause-reads g c =
    let p = err_from_is_err_and c.from_residual.result c.from_residual.ensures.1 in
    reads_on (g.D.Disk.view c.args.disk.now) (g.D.Disk.view c.loop-first.disk) (g.D.Disk.view c.take_row.new.disk) c.loop-first.invariant.reads c.in_err-take_row.ensures.reads
    (λ e. rw (p.1, p.2) at e)

pub returns-in_err-take_row-clause-some_calls : goal.returns-in_err-take_row-clause-some_calls
returns-in_err-take_row-clause-some_calls g c =
    let old : View = g.D.Disk.view c.args.disk.now in
    let mid : View = g.D.Disk.view c.loop-first.disk in
    let first = c.slot-first.result in
    let size = c.slot_len-sectors.result in
    let k = c.loop-first.read in
    let so_far = c.loop-first.invariant in
    let lt : k < size = omega (arith, so_far.few, c.if-read-sectors.false) in
    made_at old _ first _ size _ c.slot-first.ensures c.slot_len-sectors.ensures.value (read_made old mid _ first k size lt so_far.calls c.take_row.ensures.made.some_calls)

pub returns-clause-image : goal.returns-clause-image
returns-clause-image g c =
    let layout = c.args.layout.now in
    let side = c.args.side in
    let old : View = g.D.Disk.view c.args.disk.now in
    let mid : View = g.D.Disk.view c.loop-first.disk in
    let first = c.slot-first.result in
    let size = c.slot_len-sectors.result in
    let k = c.loop-first.read in
    let l = c.loop-first.loader in
    let so_far = c.loop-first.invariant in
    let whole = some_whole (finished l) c.loop-first-test.ensures in
    rw whole.1 (record {
      exact = λ honest.
          let slot = slot_is layout side first size c.slot-first.ensures c.slot_len-sectors.ensures.value old.reads in
          sym (so_far.rest honest ∙ slot) ∙ rest_whole old.reads first size k l whole.0 whole.1;
      limits = whole_limits l whole.0 whole.1 ∙ so_far.limits;
      calls = λ honest.
          let so_many = all_came layout.limits k l whole.0 whole.1 (so_far.taken honest) in
          calls_at old.calls mid.calls first _ k _ c.slot-first.ensures so_many so_far.calls;
    })

pub returns-clause-refused : goal.returns-clause-refused
returns-clause-refused g c = not_refused c.args.layout.now c.args.side (g.D.Disk.view c.args.disk.now) (g.D.Disk.view c.loop-first.disk) tt

pub returns-clause-reads : goal.returns-clause-reads
returns-clause-reads g c = reads_as (g.D.Disk.view c.args.disk.now) (g.D.Disk.view c.loop-first.disk) c.loop-first.invariant.reads (λ e. cc)

pub returns-clause-some_calls : goal.returns-clause-some_calls
returns-clause-some_calls g c =
    let old : View = g.D.Disk.view c.args.disk.now in
    let mid : View = g.D.Disk.view c.loop-first.disk in
    let first = c.slot-first.result in
    let size = c.slot_len-sectors.result in
    let k = c.loop-first.read in
    let so_far = c.loop-first.invariant in
    made_at old mid first _ size _ c.slot-first.ensures c.slot_len-sectors.ensures.value (some_reads old mid first k size so_far.few so_far.calls)

pub returns-in_err-take_row-clause-limits : goal.returns-in_err-take_row-clause-limits
returns-in_err-take_row-clause-limits g c = c.take_row.ensures.limits ∙ c.loop-first.invariant.limits
