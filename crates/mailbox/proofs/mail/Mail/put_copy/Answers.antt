use Rattle.std.proofs.Common.{◌≡◌, true, cond, rules, [], ◌∷◌, map, ap, sym, ◌∙◌}
use Rattle.std.proofs.lemmas.Result.{on_ok_weaker}
use Rattle.mailbox.specs.Mail.{with_item}
use Rattle.mailbox.specs.GroupPost.{is_receiver, group_posted, addressed}
use Rattle.mailbox.proofs.mail.Mail.put_copy.Goals as goal

pub returns-clause-ok : goal.returns-clause-ok
returns-clause-ok g c =
    let here : is_receiver c.args.registry.now c.args.original.now.key.source c.args.member ≡ true = search rules in
    on_ok_weaker c.put_new.result (λ put.
    put ∙ ap (with_item c.args.self.now) c.in_ok-copy.ensures
    ∙ sym (ap (λ b. group_posted c.args.self.now (map (addressed c.args.original.now) (cond b (c.args.member ∷ []) []))) here)) c.put_new.ensures.ok
