use Rattle.recovery.proofs.Labelled.{layout_made_of, limits_made_of, stated_made}
use Rattle.recovery.proofs.label.layout_of_numbers.Goals as goal

pub returns : goal.returns
returns c =
    let label = c.args.label.now in
    let limits = limits_made_of label.rules label.radios label.mail label.stations c.new.result (c.new.ensures.fits.1) c.new.ensures.value in
    let layout = layout_made_of c.in_ok-limits.limits label.journal c.new-2.result (c.new-2.ensures.fits.1) c.new-2.ensures.value in
    stated_made label c.new.result c.in_ok-limits.limits c.new-2.result c.if-label-ne-LAYOUT.false limits c.in_ok-limits.was layout
