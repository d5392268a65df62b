use Rattle.std.proofs.Common.{◌≡◌, ◌+◌, ◌-◌, ◌≤◌, length, not, true, None, arith, ap, sym, subst, ◌∙◌}
use Rattle.prefix_tree.proofs.JoinLaws.{none_if, none_test}
use Rattle.std.specs.Prelude.{count_by}
use Rattle.std.specs.List.{filter}
use Rattle.mailbox.specs.declared.key.Kind.TheVariants.{Report}
use Rattle.mailbox.specs.Item.{key_of, is_at, is_to, is_reported, is_ended_by}
use Rattle.mailbox.specs.Refusals.{crowd_refusal}
use Rattle.mailbox.proofs.Effects.{reported_waiting, at_waiting, left_waiting, all_counted}
use Rattle.mailbox.proofs.Lists.{no_longer}
use Rattle.mailbox.proofs.Sound.{fewer_fit}
use Rattle.mailbox.proofs.mail.Mail.full_by_report.Goals as goal

pub returns-then-is_none : goal.returns-then-is_none
returns-then-is_none g c =
    let e = c.args.envelope.now in
    let m = c.args.self.now in
    let all : crowd_refusal m.room (length c.args.at_destination.now + 1) (length m.items + 1) ≡ None =
    (λ i. crowd_refusal (sym c.room.ensures i) (length c.args.at_destination.now + 1) (sym c.len.ensures i + 1)) ∙ sym c.crowd_refusal.ensures ∙
    none_if c.crowd_refusal.result (none_test c.crowd_refusal.result _ true c.is_none.ensures c.if-is_none.true) in
    let for_one : count_by (is_to e.destination) (filter (λ w. not (is_ended_by e c.args.status w)) m.items) ≤ length c.args.at_destination.now =
    subst (λ n. n ≤ length c.args.at_destination.now)
    (ap (λ ws. length (filter (λ w. not (is_ended_by e c.args.status w)) ws)) c.requires.destination ∙ left_waiting m e c.args.status)
    (no_longer (λ w. not (is_ended_by e c.args.status w)) c.args.at_destination.now) in
    let in_all = no_longer (λ w. not (is_ended_by e c.args.status w)) m.items in
    fewer_fit m.room _ _ _ _ all (omega (arith, for_one)) (omega (arith, in_all))

pub overflow_sub-in_all : goal.overflow_sub-in_all
overflow_sub-in_all g c =
    let e = c.args.envelope.now in
    let ended : c.count_reported-ended.result ≡ length (filter (is_reported e c.args.status) c.args.self.now.items) =
    c.count_reported-ended.ensures ∙ ap (λ ws. length (filter (is_reported e c.args.status) ws)) c.requires.source ∙ reported_waiting c.args.self.now e c.args.status in
    omega (arith, c.len-2.ensures, ended, all_counted e c.args.status c.args.self.now.items)

pub overflow_sub-in_all-2 : goal.overflow_sub-in_all-2
overflow_sub-in_all-2 g c =
    let e = c.args.envelope.now in
    let ended : c.count_reported-ended.result ≡ length (filter (is_reported e c.args.status) c.args.self.now.items) =
    c.count_reported-ended.ensures ∙ ap (λ ws. length (filter (is_reported e c.args.status) ws)) c.requires.source ∙ reported_waiting c.args.self.now e c.args.status in
    let replaced : c.count_at-replaced.result ≡ length (filter (is_at (key_of e Report)) c.args.self.now.items) =
    c.count_at-replaced.ensures ∙ (λ i. length (filter (is_at (c.key.ensures i)) (c.requires.destination i))) ∙ at_waiting c.args.self.now (key_of e Report) in
    omega (arith, c.len-2.ensures, ended, replaced, all_counted e c.args.status c.args.self.now.items)

pub returns : goal.returns
returns g c =
    let e = c.args.envelope.now in
    let ended : c.count_reported-ended.result ≡ length (filter (is_reported e c.args.status) c.args.self.now.items) =
    c.count_reported-ended.ensures ∙ ap (λ ws. length (filter (is_reported e c.args.status) ws)) c.requires.source ∙ reported_waiting c.args.self.now e c.args.status in
    let replaced : c.count_at-replaced.result ≡ length (filter (is_at (key_of e Report)) c.args.self.now.items) =
    c.count_at-replaced.ensures ∙ (λ i. length (filter (is_at (c.key.ensures i)) (c.requires.destination i))) ∙ at_waiting c.args.self.now (key_of e Report) in
    let for_one : c.count_left-for_one.result ≡ count_by (is_to e.destination) (filter (λ w. not (is_ended_by e c.args.status w)) c.args.self.now.items) =
    c.count_left-for_one.ensures ∙ ap (λ ws. length (filter (λ w. not (is_ended_by e c.args.status w)) ws)) c.requires.destination ∙ left_waiting c.args.self.now e c.args.status in
    let in_all : c.len-2.result - c.count_reported-ended.result - c.count_at-replaced.result ≡ length (filter (λ w. not (is_ended_by e c.args.status w)) c.args.self.now.items) =
    omega (arith, c.len-2.ensures, ended, replaced, all_counted e c.args.status c.args.self.now.items) in
    c.crowd_refusal-2.ensures ∙ (λ i. crowd_refusal (c.room-2.ensures i) (for_one i + 1) (in_all i + 1))
