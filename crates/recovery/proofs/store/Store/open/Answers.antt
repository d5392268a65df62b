use Rattle.std.proofs.Common.{rules, ◌≡◌, ◌<◌, ◌≤◌, length, Ok, ap, subst, sym, ◌∙◌, arith, inl, inr, refl}
use Rattle.sector_disk.specs.Disk.{View}
use Rattle.sector_disk.specs.Reading.{before_reads}
use Rattle.sector_disk.proofs.Reading.{one_sync}
use Rattle.checkpoint.specs.Layout.{disk_size}
use Rattle.checkpoint.specs.OnSide.{slot_form}
use Rattle.recovery.specs.Inside.Opened.{opened_view}
use Rattle.recovery.specs.Opens.{Opening, opens}
use Rattle.recovery.specs.Lives.{opens_not, opens_to}
use Rattle.recovery.proofs.FromOpening.{stored_so}
use Rattle.recovery.proofs.Synced.{after_sync, no_image_arises, one_image}
use Rattle.recovery.proofs.store.Store.open.Goals as goal

pub returns-in-Ok-read_all-clause-opened : goal.returns-in-Ok-read_all-clause-opened
returns-in-Ok-read_all-clause-opened g c = record {
  opened =
      λ honest.
      let syncs = c.in-Ok.ensures.effect honest in
      let only_read = c.in-Ok-read_all.ensures.reads.only_read syncs.honest in
      record {
        honest = only_read.honest;
        opened = ap (opens g.row.A.Denot) (sym syncs.reads) ∙ c.in-Ok-read_all.ensures.exact syncs.honest;
        kept =
            let given : View = g.D.Disk.view c.args.disk in
            let synced : View = g.D.Disk.view c.sync.new.self in
            let now : View = g.D.Disk.view c.read_all.new.disk in
            let syncs = c.in-Ok.ensures.effect honest in
            let only_read = c.in-Ok-read_all.ensures.reads.only_read syncs.honest in
            let o : Opening = opened_view c.in-Ok-read_all.opened in
            let there : opens g.row.A.Denot synced.reads ≡ Ok o = c.in-Ok-read_all.ensures.exact syncs.honest in
            let last : opens g.row.A.Denot now.reads ≡ Ok o = ap (opens g.row.A.Denot) only_read.reads ∙ there in
            let sound = g.met.D.Disk.sound c.read_all.new.disk only_read.honest in
            let room : disk_size o.layout ≤ synced.sectors = c.in-Ok-read_all.ensures.room in
            let some : 0 < length now.reads = omega (arith, room, sound.count, c.read_all.ensures.reads.sectors) in
            let form : c.in-Ok-read_all.opened.journal.form ≡ slot_form o.layout o.side now.reads = rw only_read.reads (c.in-Ok-read_all.ensures.form syncs.honest) in
            let stored = stored_so g.row.A.Denot now o c.in-Ok-read_all.opened.journal (one_image given synced now syncs only_read)
            (sound.reads_left.whole 0 some).bytes last c.in-Ok-read_all.ensures.whole.next refl form c.in-Ok-read_all.ensures.whole.counts in
            record { stored = stored; under_way = tt };
        found = c.of-found.ensures;
        left =
            let given : View = g.D.Disk.view c.args.disk in
            let synced : View = g.D.Disk.view c.sync.new.self in
            let now : View = g.D.Disk.view c.read_all.new.disk in
            let syncs = c.in-Ok.ensures.effect honest in
            let only_read = c.in-Ok-read_all.ensures.reads.only_read syncs.honest in
            no_image_arises given synced now (Ok tt) (g.met.D.Disk.sound c.args.disk honest) syncs only_read;
      };
  only = λ honest image is.
      let given : View = g.D.Disk.view c.args.disk in
      let synced : View = g.D.Disk.view c.sync.new.self in
      let now : View = g.D.Disk.view c.read_all.new.disk in
      let syncs = c.in-Ok.ensures.effect honest in
      let only_read = c.in-Ok-read_all.ensures.reads.only_read syncs.honest in
      one_image given synced now syncs only_read image is ∙ only_read.reads ∙ syncs.reads;
  sound = search rules;
  idle = search rules;
  found = search rules;
  calls =
      let given : View = g.D.Disk.view c.args.disk in
      c.read_all.ensures.reads.only_reads ∙ ap before_reads c.in-Ok.ensures.called.made ∙ one_sync given.calls;
}

pub invariant_of-result-clause-stored : goal.invariant_of-result-clause-stored
invariant_of-result-clause-stored g c = ∣ (λ whole found.
    let honest : (g.D.Disk.view c.args.disk).honest = subst (λ (disk : g.row.D.Denot). (g.D.Disk.view disk).honest) c.of-found.ensures found in
    let given : View = g.D.Disk.view c.args.disk in
    let synced : View = g.D.Disk.view c.sync.new.self in
    let now : View = g.D.Disk.view c.read_all.new.disk in
    let syncs = c.in-Ok.ensures.effect honest in
    let only_read = c.in-Ok-read_all.ensures.reads.only_read syncs.honest in
    let o : Opening = opened_view c.in-Ok-read_all.opened in
    let there : opens g.row.A.Denot synced.reads ≡ Ok o = c.in-Ok-read_all.ensures.exact syncs.honest in
    let last : opens g.row.A.Denot now.reads ≡ Ok o = ap (opens g.row.A.Denot) only_read.reads ∙ there in
    let sound = g.met.D.Disk.sound c.read_all.new.disk only_read.honest in
    let room : disk_size o.layout ≤ synced.sectors = c.in-Ok-read_all.ensures.room in
    let some : 0 < length now.reads = omega (arith, room, sound.count, c.read_all.ensures.reads.sectors) in
    let form : c.in-Ok-read_all.opened.journal.form ≡ slot_form o.layout o.side now.reads = rw only_read.reads (c.in-Ok-read_all.ensures.form syncs.honest) in
    let stored = stored_so g.row.A.Denot now o c.in-Ok-read_all.opened.journal (one_image given synced now syncs only_read)
    (sound.reads_left.whole 0 some).bytes last c.in-Ok-read_all.ensures.whole.next refl form c.in-Ok-read_all.ensures.whole.counts in
    (only_read.honest, record { stored = stored; under_way = tt })) ∣₁

pub returns-in-Ok-read_all-clause-call : goal.returns-in-Ok-read_all-clause-call
returns-in-Ok-read_all-clause-call g c = λ honest. opens_to _ _ ((returns-in-Ok-read_all-clause-opened g c).opened honest)

pub returns-in-Err-clause-refused : goal.returns-in-Err-clause-refused
returns-in-Err-clause-refused g c = record {
  refused = search rules;
  left = λ honest.
      let given : View = g.D.Disk.view c.args.disk in
      let synced : View = g.D.Disk.view c.sync.new.self in
      let now : View = g.D.Disk.view c.read_all.new.disk in
      let syncs = c.in-Ok.ensures.effect honest in
      let only_read = c.read_all.ensures.reads.only_read syncs.honest in
      record { honest = only_read.honest; left = no_image_arises given synced now (Ok tt) (g.met.D.Disk.sound c.args.disk honest) syncs only_read };
  on_disk = search rules;
  memory = search rules;
  fault = search rules;
  kinds = search rules;
  some_calls =
      let given : View = g.D.Disk.view c.args.disk in
      inl (c.read_all.ensures.reads.only_reads ∙ ap before_reads c.in-Ok.ensures.called.made ∙ one_sync given.calls);
}

pub returns-in-Err-clause-call_by : goal.returns-in-Err-clause-call_by
returns-in-Err-clause-call_by g c = λ honest. opens_not _ _ ((returns-in-Err-clause-refused g c).left honest)

pub returns-in_default-clause-refused : goal.returns-in_default-clause-refused
returns-in_default-clause-refused g c = record {
  refused = search rules;
  left = λ honest.
      let syncs = c.in_default.ensures.effect honest in
      record {
        honest = syncs.honest;
        left =
            after_sync (g.D.Disk.view c.args.disk) (g.D.Disk.view c.sync.new.self) (g.D.Disk.view c.sync.new.self) _
            (g.met.D.Disk.sound c.args.disk honest) syncs;
      };
  on_disk = search rules;
  memory = search rules;
  fault = search rules;
  kinds = search rules;
  some_calls =
      let given : View = g.D.Disk.view c.args.disk in
      elim c.in_default.ensures.called.tried [
        | inl none ↦ inr (refl, none)
        | inr one ↦ inl (ap before_reads one ∙ one_sync given.calls)
      ];
}

pub returns-in_default-clause-call_by : goal.returns-in_default-clause-call_by
returns-in_default-clause-call_by g c = λ honest. opens_not _ _ ((returns-in_default-clause-refused g c).left honest)
