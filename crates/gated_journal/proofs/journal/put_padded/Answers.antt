use Rattle.std.proofs.Common.{◌∙◌, ◌+◌, ◌-◌, ◌*◌, List, ℕ, ap, arith, length, length-append, replicate, sym}
use Rattle.gated_journal.specs.Record.{data_sector, data_size, given}
use Rattle.gated_journal.proofs.Cut.{padded_is, text_of}
use Rattle.gated_journal.proofs.Written.{next_short}
use Rattle.gated_journal.proofs.journal.put_padded.Goals as goal

pub pad-requires-clause-few : goal.pad-requires-clause-few
pad-requires-clause-few g c = let short = next_short _ (given g.row.A.Denot c.args.commands.now) _ c.put_record.ensures.next in omega (arith, short.1)

pub returns-clause-items : goal.returns-clause-items
returns-clause-items g c = text_of c.put_record.new.out.items _ _ _ c.pad.ensures.len c.pad.ensures.items ∙ c.put_record.ensures.items

pub returns-clause-next : goal.returns-clause-next
returns-clause-next g c = rw (text_of c.put_record.new.out.items _ _ _ c.pad.ensures.len c.pad.ensures.items) c.put_record.ensures.next

pub returns-clause-padded : goal.returns-clause-padded
returns-clause-padded g c k =
    let text : List ℕ = c.put_record.new.out.items in
    ap (λ (bytes : List ℕ). data_sector bytes k) c.pad.ensures.items ∙ padded_is text _ k
    ∙ sym (ap (λ (bytes : List ℕ). data_sector bytes k) (text_of text _ _ _ c.pad.ensures.len c.pad.ensures.items))

pub returns-clause-len : goal.returns-clause-len
returns-clause-len g c =
    let text : List ℕ = c.put_record.new.out.items in
    let zeros : List ℕ = replicate (512 * (data_size text + 1) - length text) 0 in
    omega (arith, c.pad.ensures.len, ap length c.pad.ensures.items, length-append text zeros)
