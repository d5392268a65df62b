use Rattle.std.proofs.Common.{sym, ◌∙◌, ap, subst}
use mathlib.Core.List.{IsPrefix}
use Rattle.centre_core.specs.History.{after}
use Rattle.centre_core.specs.Histories.{IsHistory}
use Rattle.snapshots.specs.Views.{IsSnapshot}
use Rattle.snapshots.proofs.Keeping.{turns}
use Rattle.snapshots.proofs.publishing.publish_writer.Goals as goal

pub publish_as-requires : goal.publish_as-requires
publish_as-requires g c next is =
    let r = c.requires.next in
    let state = ap (λ p. p.0) is in
    let list = ap (λ p. p.1) is in
    let is_so : IsSnapshot g.J.Centre.base g.J.Centre.book next = (
      state ∙ r.0 ∙ ap (λ l. after g.J.Centre.base l.log) (sym list),
      subst (λ l. IsHistory g.J.Centre.base l.log) (sym list) r.1,
      ap (λ l. l.book) list ∙ r.2,
    ) in
    turns g.J.Centre.base g.J.Centre.book _ _ c.args.writer.desk.shown.value next is_so (subst (λ l. IsPrefix c.args.writer.desk.shown.value.list.log l) (sym (ap (λ l. l.log) list)) r.3)
