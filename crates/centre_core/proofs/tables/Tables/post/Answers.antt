use Rattle.std.proofs.Common.{◌≡◌, ◌<◌, ◌+◌, None, rules, ap, sym, ◌∙◌}
use Rattle.mailbox.specs.declared.key.Kind.TheVariants.{Message}
use Rattle.mailbox.specs.Item.{key_of}
use Rattle.mailbox.specs.Mail.{item_for}
use Rattle.mailbox.specs.Judged.{item_in}
use Rattle.mailbox.specs.Refusals.{post_refusal}
use Rattle.centre_core.specs.State.{State, last_number}
use Rattle.centre_core.specs.Step.{message_of}
use Rattle.centre_core.proofs.StateLaws.{posted_state}
use Rattle.centre_core.proofs.tables.Tables.post.Goals as goal

pub returns-in-Err-clause-ok : goal.returns-in-Err-clause-ok
returns-in-Err-clause-ok g c =
    let answer = c.in-Err.ensures.refusal (record { number = c.self.inside.count + 1; moment = c.args.command.now.moment }) c.args.pdu.now in
    search rules

pub returns-in_err-clone-clause-memory : goal.returns-in_err-clone-clause-memory
returns-in_err-clone-clause-memory g c =
    let answer = c.in-Ok.ensures.refusal (record { number = c.self.inside.count + 1; moment = c.args.command.now.moment }) c.args.pdu.now in
    search rules

pub returns-in_err-bits-clause-memory : goal.returns-in_err-bits-clause-memory
returns-in_err-bits-clause-memory g c =
    let answer = c.in-Ok.ensures.refusal (record { number = c.self.inside.count + 1; moment = c.args.command.now.moment }) c.args.pdu.now in
    search rules

pub post_judged-requires-clause-refusal : goal.post_judged-requires-clause-refusal
post_judged-requires-clause-refusal g c = (
  c.self.inside.registry,
  ap (post_refusal c.self.inside.registry c.self.inside.mail) (c.in-Ok.ensures.item c.stamp-stamp.result c.in_ok-bits.bits) ∙ sym (c.in-Ok.ensures.refusal c.stamp-stamp.result c.in_ok-bits.bits),
)

pub invariant_of-self-2 : goal.invariant_of-self-2
invariant_of-self-2 g c =
    let s : State = record { registered = c.self.inside.registry; groups = c.self.inside.groups; mail = c.self.inside.mail; served = c.self.inside.served.items; count = c.self.inside.count } in
    let left : s.count < last_number = search rules in
    let made : item_for s.registered (key_of c.args.envelope.now Message) c.stamp-stamp.result c.in_ok-bits.bits ≡ message_of s
    c.args.command.now.moment c.args.envelope.now c.args.pdu.now = search rules in
    let item = c.in-Ok.ensures.item c.stamp-stamp.result c.in_ok-bits.bits in
    let none : post_refusal s.registered s.mail (item_in c.in-Ok.opening c.stamp-stamp.result c.in_ok-bits.bits) ≡ None =
    ap (post_refusal s.registered s.mail) item ∙ sym (c.in-Ok.ensures.refusal c.stamp-stamp.result c.in_ok-bits.bits) in
    posted_state s c.args.command.now c.args.envelope.now c.args.pdu.now _ _ _ _ c.requires.pdu left (item ∙ made)
    (none, c.in_ok-post_judged.ensures.ok) c.count_accepted.ensures.kept c.count_accepted.ensures.count c.self.invariant
