use Rattle.std.proofs.Common.{rules, ◌≡◌, ◌+◌, ◌/◌, nat_le, sym, ◌∙◌, arith}
use Rattle.gated_journal.specs.Record.{data_size, head_len}
use Rattle.gated_journal.specs.Settled.{room_of, text_at}
use Rattle.gated_journal.proofs.Given.{given_size}
use Rattle.gated_journal.proofs.Written.{head_most}
use Rattle.gated_journal.proofs.journal.Journal.has_room.Goals as goal

pub returns-clause-exact : goal.returns-clause-exact
returns-clause-exact g c =
    let place = c.args.self.now in
    let head : c.head_len.result ≡ head_len place.form = search rules in
    let size : c.sectors_for.result ≡ data_size (text_at g.row.A.Denot place c.args.commands.now) =
    c.sectors_for.ensures ∙ (λ i. (head i + c.size_of.ensures.size i + 511) / 512) ∙ sym (given_size g.row.A.Denot place.form place.count c.args.commands.now) in
    let room : c.room.result ≡ room_of place = search rules in
    λ i. nat_le (size i) (room i)

pub returns-clause-most : goal.returns-clause-most
returns-clause-most g c form before =
    let size = given_size g.row.A.Denot form before c.args.commands.now in
    omega (arith, size, (head_most form).1, c.size_of.ensures.size, c.size_of.ensures.most, c.requires.few)
