-- No command changes the limits of a register.
use Rattle.std.proofs.Common.{◌≡◌, ap, ◌∙◌, Result, Ok, Err, IfOk, OnErr}
use Rattle.centre_core.specs.declared.reply.Reply.{Reply}
use Rattle.centre_core.specs.declared.reply.Reply.TheVariants.{Accepted, Kept, Refused}
use Rattle.centre_core.specs.Asked.{Asked}
use Rattle.centre_core.specs.State.{State}
use Rattle.centre_core.specs.Step.{step}
use Rattle.centre_core.proofs.StepLaws.{Outcome, says}

module _ {A B : Type 0} where
  limits_by : (s t : State) (c : Asked A) (reply : Reply B) → Outcome s c t reply → t.registered.limits ≡ s.registered.limits
  limits_by s t c (Accepted number pdu) says = ap (λ (u : State). u.registered.limits) says.0.is ∙ says.0.change.limits
  limits_by s t c (Kept number pdu) says = ap (λ (u : State). u.registered.limits) says
  limits_by s t c (Refused refusal) says = ap (λ (u : State). u.registered.limits) says

  pub step_limits : (s t : State) (c : Asked A) (reply : Reply B) → (t, reply) ≡ step s c → t.registered.limits ≡ s.registered.limits
  step_limits s t c reply is = ap (λ x. x.0.registered.limits) is ∙ limits_by s (step {B = B} s c).0 c (step {B = B} s c).1 (says B s c)

  pub result_limits : {E : Type 0} (s t : State) (c : Asked A) (result : Result (Reply B) E) → IfOk result (λ reply. (t, reply) ≡ step s c) →
      OnErr result (t ≡ s) → t.registered.limits ≡ s.registered.limits
  result_limits s t c (Ok reply) ok err = step_limits s t c reply ok
  result_limits s t c (Err e) ok err = ap (λ (u : State). u.registered.limits) err
