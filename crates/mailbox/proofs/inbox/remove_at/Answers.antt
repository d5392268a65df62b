use Rattle.std.proofs.Common.{◌≡◌, length, rules, not, ap, ◌∙◌}
use Rattle.std.specs.List.{filter}
use Rattle.std.proofs.lemmas.Fn.{filter_same}
use Rattle.mailbox.specs.Item.{is_at}
use Rattle.mailbox.proofs.Lists.{room_left}
use Rattle.mailbox.proofs.inbox.remove_at.Goals as goal

pub returns-clause-left : goal.returns-clause-left
returns-clause-left g c = filter_same _ (λ w. not (is_at c.args.key.now w)) _ (λ x b f' k. search rules) _ _ c.retain.ensures.filtered

pub returns-clause-room : goal.returns-clause-room
returns-clause-room g c =
    let left : c.retain.new.self.items ≡ filter (λ w. not (is_at c.args.key.now w)) c.args.items.now.items = returns-clause-left g c in
    λ there. rw (c.retain.ensures.capacity)
    (room_left (is_at c.args.key.now) c.args.items.now.items c.args.items.now.len c.retain.new.self.len c.args.items.now.cap there
    c.args.items.now.ok.0 (c.retain.new.self.ok.0 ∙ ap length left) c.args.items.now.ok.1)
