use Rattle.identity.proofs.Words.{word_read}
use Rattle.identity.proofs.reader.word_at.Goals as goal

pub returns : goal.returns
returns c = word_read c.args.bytes.now c.args.start c.requires c.from_be_bytes.result (λ i. (c.type_inv.bytes i).fits) c.from_be_bytes.ensures
