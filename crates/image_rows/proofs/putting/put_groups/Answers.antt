use Rattle.std.proofs.Common.{◌≡◌, List, length, true, subst, sym}
use Rattle.std.specs.Prelude.{nat_le}
use Rattle.std.specs.List.{All}
use Rattle.base.proofs.Bools.{second_true}
use Rattle.group_attach.specs.declared.attachment.Attachment.{Attachment}
use Rattle.group_attach.specs.Applied.{most_of_radio}
use Rattle.group_attach.specs.InOrder.{IsInOrder}
use Rattle.centre_core.specs.State.{State}
use Rattle.image_rows.specs.Held.{IsOutcome, IsPlace, with_groups}
use Rattle.image_rows.proofs.WithAttachments.{in_order}
use Rattle.image_rows.proofs.Filling.{all_own}
use Rattle.image_rows.proofs.PutRows.{with_own}
use Rattle.image_rows.proofs.putting.put_groups.Goals as goal

pub add_radio-requires-clause-own : goal.add_radio-requires-clause-own
add_radio-requires-clause-own g c = subst (λ (l : List Attachment). All (λ a. a.itsi ≡ c.args.itsi) l) (sym c.in-Some.ensures.own.1) (all_own c.args.itsi c.args.groups)

pub add_radio-requires-clause-in_order : goal.add_radio-requires-clause-in_order
add_radio-requires-clause-in_order g c =
    subst IsInOrder (sym c.in-Some.ensures.own.1)
    (in_order c.args.itsi c.args.groups (second_true (nat_le (length c.args.groups) most_of_radio) _ (sym c.in-Some.ensures.fits)))

pub returns-clause-ok : goal.returns-clause-ok
returns-clause-ok g c =
    let s : State = record { registered = c.parts.inside.registry; groups = c.parts.inside.groups; mail = c.parts.inside.mail; served = c.parts.inside.served.items; count = c.parts.inside.count } in
    let n : State = record s { registered = c.add_radio.new.registry; groups = c.add_radio.new.groups } in
    let same : s ≡ c.args.parts.now = c.parts.view_is in
    let place : IsPlace s c.args.itsi = subst (λ (t : State). IsPlace t c.args.itsi) (sym same) c.requires in
    subst (λ (t : State). IsOutcome (with_groups t c.args.itsi c.args.radio c.args.groups) t true n) same
    (with_own s c.args.itsi c.args.radio c.args.groups _ c.add_radio.new.registry c.add_radio.new.groups place (sym c.in-Some.ensures.fits)
    c.in-Some.ensures.own.1 c.in_ok-add_radio.ensures.ok.0 c.in_ok-add_radio.ensures.ok.1)
