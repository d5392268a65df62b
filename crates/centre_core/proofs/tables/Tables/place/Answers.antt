use Rattle.std.proofs.Common.{◌≡◌, None, sym, subst, ◌∙◌}
use Rattle.registration.specs.Registered.{room_refusal}
use Rattle.centre_core.specs.State.{State}
use Rattle.centre_core.specs.Step.{radio_located}
use Rattle.centre_core.proofs.EffectLaws.{radio_located_state, new_located, new_located_whole}
use Rattle.centre_core.proofs.tables.Tables.place.Goals as goal

pub invariant_of-self-then-known : goal.invariant_of-self-then-known
invariant_of-self-then-known g c =
    let s : State = record { registered = c.self.inside.registry; groups = c.self.inside.groups; mail = c.self.inside.mail; served = c.self.inside.served.items; count = c.self.inside.count } in
    radio_located_state s _ _ c.args.itsi c.args.station c.args.area c.args.update c.in_ok-known.ensures.ok.0 c.in_ok-known.ensures.ok.1 c.on_update.ensures c.self.invariant

pub invariant_of-self-else-known : goal.invariant_of-self-else-known
invariant_of-self-else-known g c =
    let s : State = record { registered = c.self.inside.registry; groups = c.self.inside.groups; mail = c.self.inside.mail; served = c.self.inside.served.items; count = c.self.inside.count } in
    radio_located_state s _ _ c.args.itsi c.args.station c.args.area c.args.update c.in_ok-known.ensures.ok.0 c.in_ok-known.ensures.ok.1
    (new_located s c.args.itsi c.args.update c.self.invariant (sym c.if-known.false ∙ c.in_ok-known.ensures.known)) c.self.invariant

pub returns-else-known-clause-ok : goal.returns-else-known-clause-ok
returns-else-known-clause-ok g c =
    let s : State = record { registered = c.self.inside.registry; groups = c.self.inside.groups; mail = c.self.inside.mail; served = c.self.inside.served.items; count = c.self.inside.count } in
    subst (λ (t : State). (room_refusal t.registered c.args.itsi ≡ None) ×
    (record s { registered = c.place.new.self } ≡ radio_located t c.args.itsi c.args.station c.args.area c.args.update)) c.self.view_is
    (new_located_whole s c.place.new.self c.args.itsi c.args.station c.args.area c.args.update c.in_ok-known.ensures.ok (sym c.if-known.false ∙ c.in_ok-known.ensures.known) c.self.invariant)
