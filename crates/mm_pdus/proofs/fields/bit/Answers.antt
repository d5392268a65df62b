use Rattle.mm_pdus.proofs.Steps.{bit_from_field}
use Rattle.mm_pdus.proofs.fields.bit.Goals as goal

pub returns : goal.returns
returns c = rw (bit_from_field c.args.reader.now, c.in_ok-field.ensures.value)
