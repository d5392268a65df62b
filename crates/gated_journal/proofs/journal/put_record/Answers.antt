use Rattle.std.proofs.Common.{arith, refl}
use Rattle.gated_journal.proofs.Given.{given_text, given_record, head_length}
use Rattle.gated_journal.proofs.Written.{head_most}
use Rattle.gated_journal.proofs.journal.put_record.Goals as goal

pub add_all-requires : goal.add_all-requires
add_all-requires g c =
    let long = head_length c.args.place.now.form c.args.place.now.count _ _ _ (rw c.first_of-first.ensures at c.put_head.ensures.items) in
    record { room = omega (arith, long, (head_most c.args.place.now.form).1, c.size_of.ensures.size, c.size_of.ensures.most, c.put_head.ensures.capacity, c.requires.room, c.requires.next.few) }

pub returns-clause-items : goal.returns-clause-items
returns-clause-items g c = given_text g.row.A.Denot c.args.place.now.form c.args.place.now.count c.args.commands.now _ _ _ _
    (rw c.first_of-first.ensures at c.put_head.ensures.items) refl c.size_of.ensures.size c.add_all.ensures.items

pub returns-clause-next : goal.returns-clause-next
returns-clause-next g c = record {
  record_is = given_record g.row.A.Denot c.args.commands.now c.requires.next.some c.requires.next.few c.add_all.ensures.are_commands;
  number = c.requires.next.number;
  text_is = given_text g.row.A.Denot c.args.place.now.form c.args.place.now.count c.args.commands.now _ _ _ _
      (rw c.first_of-first.ensures at c.put_head.ensures.items) refl c.size_of.ensures.size c.add_all.ensures.items;
}

pub size_of-requires : goal.size_of-requires
size_of-requires g c = record { small = omega (arith, c.requires.next.few) }
