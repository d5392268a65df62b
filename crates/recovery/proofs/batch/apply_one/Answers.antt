use Rattle.std.proofs.Common.{rules, ◌≡◌, ◌∷◌, ◌++◌, [], ◌∙◌, ap, sym}
use Rattle.centre_core.specs.declared.reply.Reply.{Reply}
use Rattle.centre_core.specs.State.{State}
use Rattle.centre_core.specs.History.{accepts, is_acceptance}
use Rattle.centre_core.proofs.StateLaws.{step_is_next}
use Rattle.recovery.proofs.Batches.{collected, left_out, same_verdict}
use Rattle.recovery.proofs.batch.apply_one.Goals.{then-is_acceptance, else-is_acceptance}
use Rattle.recovery.proofs.batch.apply_one.Goals as goal

pub returns-clause-register : goal.returns-clause-register
returns-clause-register g c = ap (λ (r : State × Reply g.row.C.Denot). r.0) c.in_ok-reply.ensures.ok ∙ step_is_next g.row.C.Denot c.args.register.now c.args.command.now

pub returns-clause-accepted : goal.returns-clause-accepted
returns-clause-accepted g c =
    let verdict : c.is_acceptance.result ≡ accepts c.args.register.now c.args.command.now =
    c.is_acceptance.ensures ∙ ap (λ (r : State × Reply g.row.C.Denot). is_acceptance r.1) c.in_ok-reply.ensures.ok ∙ same_verdict g.row.C.Denot c.args.register.now c.args.command.now in
    elim c.if-is_acceptance.branch [
      | then-is_acceptance w ↦
          let pushed : w.push.new.self.items ≡ c.args.accepted.now.items ++ c.args.command ∷ [] = search rules in
          collected c.args.register.now c.args.command c.args.accepted.now.items c.if-is_acceptance.accepted.items (sym verdict ∙ w.if-is_acceptance.true) (ap (λ v. v.items) w.accepted-is ∙ pushed)
      | else-is_acceptance w ↦ left_out c.args.register.now c.args.command c.args.accepted.now.items c.if-is_acceptance.accepted.items
          (sym verdict ∙ w.if-is_acceptance.false) (ap (λ v. v.items) w.accepted-is)
    ]
