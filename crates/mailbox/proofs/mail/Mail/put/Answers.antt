use Rattle.std.proofs.Common.{◌≡◌, ◌<◌, ◌^◌, Some, rules, ap, sym, subst, ◌∙◌}
use Rattle.std.specs.List.{find}
use Rattle.std.specs.Option.{option_map}
use Rattle.std.proofs.lemmas.Result.{on_ok_weaker}
use Rattle.base.proofs.Results.{on_err}
use Rattle.mailbox.specs.declared.place.ItemPlace.{ItemPlace}
use Rattle.mailbox.specs.Values.{Mailed}
use Rattle.mailbox.specs.Item.{is_at}
use Rattle.mailbox.specs.Order.{ComesLast, place_of}
use Rattle.mailbox.specs.Inside.Boxes.{item_at}
use Rattle.mailbox.specs.Mail.{holds}
use Rattle.mailbox.specs.Judged.{none_waits}
use Rattle.mailbox.proofs.Effects.{posted_alone}
use Rattle.mailbox.proofs.Filing.{filed_holds, filed_put_again, filed_again, filed_in_order, first_filed, found_at_key, none_placed, place_found}
use Rattle.mailbox.proofs.NextItem.{places_rise}
use Rattle.mailbox.proofs.mail.Mail.put.Goals as goal

pub put_last-requires-clause-free : goal.put_last-requires-clause-free
put_last-requires-clause-free g c = none_placed (is_at c.args.item.key) c.args.self.now.items (sym c.in_default.is ∙ c.requires.earlier)

pub returns-in_default-clause-ok : goal.returns-in_default-clause-ok
returns-in_default-clause-ok g c =
    on_ok_weaker c.put_last.result
    (λ e. e ∙ sym (posted_alone c.args.self.now c.args.item
    (none_placed (is_at c.args.item.key) c.args.self.now.items (sym c.in_default.is ∙ c.requires.earlier)))) c.put_last.ensures.ok

pub returns-in_default-clause-memory : goal.returns-in_default-clause-memory
returns-in_default-clause-memory g c = on_err c.put_last.result (none_placed (is_at c.args.item.key) c.args.self.now.items (sym c.in_default.is ∙ c.requires.earlier))

pub put-requires : goal.put-requires
put-requires g c =
    let below : c.args.item.key.destination < 2 ^ 48 = search rules in
    c.requires.first ∙ ap (λ (m : Mailed). none_waits m c.args.item.key.destination) (sym c.self.view_is) ∙
    first_filed _ c.self.inside.boxes c.self.inside.order c.args.item.key.destination c.self.invariant below

pub returns-in_err-put-clause-memory : goal.returns-in_err-put-clause-memory
returns-in_err-put-clause-memory g c =
    on_err c.from_residual.result (ap (λ (m : Mailed). holds m c.args.item.key) (sym {A = Mailed} c.self.view_is) ∙
    sym (filed_holds _ c.self.inside.boxes c.self.inside.order c.args.item.key c.self.invariant) ∙ c.in_err-put.ensures.memory)

pub renew-requires-clause-order : goal.renew-requires-clause-order
renew-requires-clause-order g c = places_rise _ c.self.inside.order c.self.invariant.indexed c.self.invariant.ordered

pub renew-requires-clause-there : goal.renew-requires-clause-there
renew-requires-clause-there g c =
    let at : Some c.in-Some.old ≡ option_map place_of (item_at c.self.inside.boxes c.args.item.key) =
    sym c.in-Some.is ∙ c.requires.earlier ∙ sym (ap (λ (m : Mailed). option_map place_of (find (is_at c.args.item.key) m.items)) c.self.view_is)
    ∙ sym (ap (option_map place_of) (found_at_key _ c.self.inside.boxes c.self.inside.order c.args.item.key c.self.invariant)) in
    place_found _ c.self.inside.boxes c.self.inside.order c.args.item.key c.self.invariant c.in-Some.old at

pub invariant_of-self-2 : goal.invariant_of-self-2
invariant_of-self-2 g c =
    let at : Some c.in-Some.old ≡ option_map place_of (item_at c.self.inside.boxes c.args.item.key) =
    sym c.in-Some.is ∙ c.requires.earlier ∙ sym (ap (λ (m : Mailed). option_map place_of (find (is_at c.args.item.key) m.items)) c.self.view_is)
    ∙ sym (ap (option_map place_of) (found_at_key _ c.self.inside.boxes c.self.inside.order c.args.item.key c.self.invariant)) in
    filed_again _ _ _ (filed_put_again _ c.self.inside.boxes c.put.new.self c.self.inside.order c.renew.new.self c.args.item c.place-place.result
    c.self.invariant (subst (λ (m : Mailed). ComesLast m c.args.item.number c.args.item.key) (sym c.self.view_is) c.requires.last)
    c.put.ensures.whole c.in_ok-put.ensures.ok c.place-place.ensures c.in-Some.old
    (subst (λ (q : ItemPlace). Some c.in-Some.old ≡ option_map place_of (item_at c.self.inside.boxes q.key)) (sym c.place-place.ensures) at)
    c.renew.ensures)

pub returns-clause-ok : goal.returns-clause-ok
returns-clause-ok g c =
    let at : Some c.in-Some.old ≡ option_map place_of (item_at c.self.inside.boxes c.args.item.key) =
    sym c.in-Some.is ∙ c.requires.earlier ∙ sym (ap (λ (m : Mailed). option_map place_of (find (is_at c.args.item.key) m.items)) c.self.view_is)
    ∙ sym (ap (option_map place_of) (found_at_key _ c.self.inside.boxes c.self.inside.order c.args.item.key c.self.invariant)) in
    let is = filed_in_order _ _ _
    (filed_put_again _ c.self.inside.boxes c.put.new.self c.self.inside.order c.renew.new.self c.args.item c.place-place.result c.self.invariant
    (subst (λ (m : Mailed). ComesLast m c.args.item.number c.args.item.key) (sym c.self.view_is) c.requires.last) c.put.ensures.whole
    c.in_ok-put.ensures.ok c.place-place.ensures c.in-Some.old
    (subst (λ (q : ItemPlace). Some c.in-Some.old ≡ option_map place_of (item_at c.self.inside.boxes q.key)) (sym c.place-place.ensures) at)
    c.renew.ensures) in
    rw (← c.self.view_is) (λ i. record { room = c.self.inside.room; items = is i })
