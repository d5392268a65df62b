use Rattle.register_text.proofs.CutTexts.{cut_only, read_whole}
use Rattle.register_text.proofs.laws.cut_texts.Goals as goal

pub returns-clause-only : goal.returns-clause-only
returns-clause-only c = cut_only

pub returns-clause-whole : goal.returns-clause-whole
returns-clause-whole c = read_whole
