use Rattle.register_text.proofs.WordGroups.{short_radio}
use Rattle.register_text.proofs.fields.radio_in.Goals as goal

pub returns-in_default : goal.returns-in_default
returns-in_default g c = short_radio (λ w. w.now) c.args.words.now c.in_default.len_below
