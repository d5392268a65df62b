use Rattle.std.proofs.Common.{◌≡◌, ◌<◌, ◌+◌, rules}
use Rattle.mailbox.specs.GroupPost.{copies}
use Rattle.centre_core.specs.State.{State, last_number}
use Rattle.centre_core.specs.Step.{members, copies_of}
use Rattle.centre_core.proofs.MembersLaws.{list_rises}
use Rattle.centre_core.proofs.MailEffects.{all_are_older}
use Rattle.centre_core.proofs.StateLaws.{copies_state}
use Rattle.centre_core.proofs.tables.Tables.post_to_group.Goals as goal

pub returns-in-Some-clause-ok : goal.returns-in-Some-clause-ok
returns-in-Some-clause-ok g c =
    let answer = c.in-Some.ensures (record { number = c.self.inside.count + 1; moment = c.args.command.now.moment }) c.args.pdu.now in
    search rules

pub invariant_of-self-2 : goal.invariant_of-self-2
invariant_of-self-2 g c =
    let s : State = record { registered = c.self.inside.registry; groups = c.self.inside.groups; mail = c.self.inside.mail; served = c.self.inside.served.items; count = c.self.inside.count } in
    let left : s.count < last_number = search rules in
    let made : copies s.registered c.args.envelope.now c.as_slice-members.result.now c.stamp-stamp.result c.in_ok-bits.bits ≡ copies_of s
    c.args.command.now.moment c.args.envelope.now c.args.pdu.now = search rules in
    copies_state s c.args.command.now c.args.envelope.now c.args.pdu.now _ _ _ _ c.requires.pdu left made c.in-Ok.ensures.ok
    c.count_accepted.ensures.kept c.count_accepted.ensures.count c.self.invariant

pub group_refusal-requires : goal.group_refusal-requires
group_refusal-requires g c =
    let is : c.as_slice-members.result.now ≡ members c.args.self.now c.args.envelope.now.group = search rules in
    list_rises c.args.self.now c.args.envelope.now.group c.as_slice-members.result.now is

pub post_group-requires-clause-rising : goal.post_group-requires-clause-rising
post_group-requires-clause-rising g c =
    let is : c.as_slice-members.result.now ≡ members c.args.self.now c.args.envelope.now.group = search rules in
    list_rises c.args.self.now c.args.envelope.now.group c.as_slice-members.result.now is

pub post_group-requires-clause-newest : goal.post_group-requires-clause-newest
post_group-requires-clause-newest g c =
    let later : c.self.inside.count < c.stamp-stamp.result.number = search rules in
    all_are_older c.self.inside.count c.self.inside.mail c.stamp-stamp.result.number c.self.invariant.mail.in_order later
