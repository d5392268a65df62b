use Rattle.mailbox.proofs.Texts as texts
use Rattle.mailbox.proofs.laws.items_are_texts.Goals as goal

pub returns : goal.returns
returns g c = texts.items_are_texts g.row.A.Denot
