use Rattle.std.proofs.Common.{rules, inl, inr, refl}
use Rattle.recovery.specs.Figures.{figures_at}
use Rattle.recovery.specs.Lives.{view_of}
use Rattle.recovery.specs.Opens.{opening}
use Rattle.served_disk.proofs.AtOpening.{opened_figures}
use Rattle.served_disk.proofs.Reasons.{is_there, passed, unlike}
use Rattle.served_disk.proofs.showing_disk.show_on.Goals as goal

pub returns-in-Ok-clause-shown : goal.returns-in-Ok-clause-shown
returns-in-Ok-clause-shown g c =
    let s = c.in_ok-store.store in
    let opened = c.in_ok-store.ensures.opened in
    record {
      figures = figures_at (view_of s);
      register = s.register;
      kept = λ honest. record {
        opened = opening s.layout s.side s.epoch s.journal.next s.register;
        opens_to = (opened.opened honest).opened;
        figures_are = opened_figures g.row.A.Denot s.layout s.side s.epoch s.journal s.register (g.D.Disk.view s.disk) _ (opened.opened honest).kept.stored
            (g.met.D.Disk.sound s.disk (opened.opened honest).honest) (opened.only honest);
        state = refl;
      };
      shown = c.in-Ok.ensures;
    }

pub returns-in-Err-clause-refused : goal.returns-in-Err-clause-refused
returns-in-Err-clause-refused g c = record {
  kind = tt;
  there = λ honest. tt;
  device = λ same. absurd (unlike same);
  memory = λ same honest. inr (is_there _ _ ((c.in_ok-store.ensures.opened.opened honest).opened));
}

pub returns-in_err-store-clause-refused : goal.returns-in_err-store-clause-refused
returns-in_err-store-clause-refused g c =
    let why = c.in_err-store.ensures.refused in
    passed _ c.from_residual.result c.in_err-store.field-0.0 (search rules) (record {
      kind = why.kinds;
      there = why.refused;
      device = why.fault;
      memory = λ same honest. inl (why.memory same honest);
    })
