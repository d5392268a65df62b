use Rattle.std.proofs.Common.{◌≡◌, ◌<◌, ◌∙◌, length, true, rules, subst, sym}
use Rattle.std.specs.Prelude.{◌&&◌, not, nat_lt, count_by}
use Rattle.centre_core.specs.State.{State}
use Rattle.mailbox.specs.Mail.{holds}
use Rattle.mailbox.specs.Refusals.{most_for_one}
use Rattle.mailbox.specs.Item.{is_to}
use Rattle.image_rows.specs.Loading.{before_place}
use Rattle.image_rows.proofs.Judged.{few_yet, may_by_place}
use Rattle.image_rows.proofs.judging.mail_may.Goals as goal

pub is_free-requires : goal.is_free-requires
is_free-requires g c =
    let before : before_place c.args.header.now c.args.parts.now c.args.item.now ≡ true = search rules in
    subst (λ (s : State). length s.mail.items < s.mail.room) (sym c.parts.view_is) (few_yet c.args.header.now c.args.parts.now c.args.item.now c.requires before)

pub returns : goal.returns
returns g c =
    let before : before_place c.args.header.now c.args.parts.now c.args.item.now ≡ true = search rules in
    may_by_place c.args.header.now c.args.parts.now c.args.item.now c.is_free.result before c.facts_of_known.ensures
    (c.is_free.ensures ∙ (λ i. not (holds (c.parts.view_is i).mail (c.key.ensures i)) && nat_lt (count_by (is_to (c.key.ensures i).destination) (c.parts.view_is i).mail.items) most_for_one))
