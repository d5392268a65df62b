use Rattle.std.proofs.Common.{◌≡◌, ◌∙◌, ◌-◌, ◌≤◌, length, true, false, Some, rules, arith, subst, sym}
use Rattle.std.specs.Prelude.{slice_set}
use Rattle.base.proofs.Results.{on_err}
use Rattle.centre_core.specs.State.{State, LastAccepted}
use Rattle.image_rows.specs.Rows.{ServedRow}
use Rattle.image_rows.specs.Loading.{put, served_may}
use Rattle.image_rows.specs.Held.{IsOutcome}
use Rattle.image_rows.proofs.PutRows.{served_place, with_last, without_last, some_last}
use Rattle.image_rows.proofs.putting.put_served.Goals as goal

pub returns-then-not-served_may-clause-ok : goal.returns-then-not-served_may-clause-ok
returns-then-not-served_may-clause-ok g c =
    let x : LastAccepted = record { sequence = c.args.last.now.sequence; number = c.args.last.now.number; pdu = c.args.last.now.pdu } in
    let not_so : c.served_may.result ≡ false = search rules in
    without_last c.args.header.now c.args.parts.now c.args.station x (sym (c.served_may.ensures x.sequence x.pdu) ∙ not_so)

pub returns-in_err-pdu-clause-memory : goal.returns-in_err-pdu-clause-memory
returns-in_err-pdu-clause-memory g c =
    let x : LastAccepted = record { sequence = c.args.last.now.sequence; number = c.args.last.now.number; pdu = c.args.last.now.pdu } in
    let so : c.served_may.result ≡ true = search rules in
    on_err c.from_residual.result (some_last c.args.header.now c.args.parts.now c.args.station x (sym (c.served_may.ensures x.sequence x.pdu) ∙ so))

pub put_last-requires-clause-some : goal.put_last-requires-clause-some
put_last-requires-clause-some g c =
    let x : LastAccepted = record { sequence = c.args.last.now.sequence; number = c.args.last.now.number; pdu = c.args.last.now.pdu } in
    let so : c.served_may.result ≡ true = search rules in
    (served_place c.args.header.now c.args.parts.now c.args.station x (sym (c.served_may.ensures x.sequence x.pdu) ∙ so)).0

pub put_last-requires-clause-place : goal.put_last-requires-clause-place
put_last-requires-clause-place g c =
    let x : LastAccepted = record { sequence = c.args.last.now.sequence; number = c.args.last.now.number; pdu = c.args.last.now.pdu } in
    let so : c.served_may.result ≡ true = search rules in
    let place = (served_place c.args.header.now c.args.parts.now c.args.station x (sym (c.served_may.ensures x.sequence x.pdu) ∙ so)).1 in
    let here : c.args.station ≤ length c.parts.inside.served.items = subst (λ (s : State). c.args.station ≤ length s.served) (sym c.parts.view_is) place in
    omega (arith, here, c.parts.inside.served.ok.0)

pub returns-clause-ok : goal.returns-clause-ok
returns-clause-ok g c =
    let x : LastAccepted = record { sequence = c.args.last.now.sequence; number = c.args.last.now.number; pdu = c.args.last.now.pdu } in
    let so : c.served_may.result ≡ true = search rules in
    let may = sym (c.served_may.ensures x.sequence x.pdu) ∙ so in
    let s : State = record { registered = c.parts.inside.registry; groups = c.parts.inside.groups; mail = c.parts.inside.mail; served = c.parts.inside.served.items; count = c.parts.inside.count } in
    let n : State = record s { served = c.put_last.new.served.items } in
    let same : s ≡ c.args.parts.now = c.parts.view_is in
    let set : n.served ≡ slice_set s.served (c.args.station - 1) (Some x) =
    c.put_last.ensures ∙ (λ i. slice_set s.served (c.args.station - 1) (Some (record { sequence = x.sequence; number = x.number; pdu = c.in_ok-pdu.ensures.ok i }))) in
    subst (λ (t : State). IsOutcome (put c.args.header.now t (ServedRow c.args.station x)) t true n) same
    (with_last c.args.header.now s c.args.station x n.served (subst (λ (t : State). served_may c.args.header.now t c.args.station x ≡ true) (sym same) may) set)
