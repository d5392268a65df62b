-- Orders, and stations that may give none.
use Rattle.std.proofs.Common.{◌≡◌, ℕ, Bool, true, false, Some, None, inr, refl, sym}
use Rattle.std.specs.Prelude.{if◌then◌else◌}
use Rattle.base.proofs.Options.{some_is}
use Rattle.identity.proofs.Texts.{none_some}
use Rattle.centre_core.specs.Memory.{is_long}
use Rattle.centre_core.specs.Ranges.{pdu_of}
use Rattle.centre_core.specs.declared.command.Body.{Body}
use Rattle.centre_core.specs.declared.command.Body.TheVariants.{RuleSet, RuleClear, Mm, Sds, GroupSds, Sent, Expire, Delete}
use Rattle.console.specs.declared.line.Line.{Line}
use Rattle.console.specs.declared.line.Line.TheVariants.{Silent, Bad, Apply, Ask, Print, Mark, OwnStation, Service, Forbidden}
use Rattle.console.specs.declared.answer.Answer.TheVariants.{CommandOutage}
use Rattle.console.specs.Reading.{is_order, permitted, sequence_of, with_long_pdu}
use Rattle.console.specs.Dialogue.{AnswersReading}
use Rattle.desk.specs.Rules.{Rules}
use Rattle.desk.specs.declared.outage.Outage.TheVariants.{Memory}

long_only : (k n : ℕ) (long : Bool) → (if long then Some k else None) ≡ Some n → (long ≡ true) × (n ≡ k)
long_only k n true e = (refl, sym (some_is k n e))
long_only k n false e = absurd (none_some n e)

module _ {A : Type 0} where
  -- a body with a PDU of more than 64 bits is no order
  no_order : (sequence n : ℕ) (body : Body A) → with_long_pdu sequence body ≡ Some n → is_order body ≡ false
  no_order sequence n (RuleSet prefix rule) e = absurd (none_some n e)
  no_order sequence n (RuleClear prefix) e = absurd (none_some n e)
  no_order sequence n (Mm itsi area pdu) e = refl
  no_order sequence n (Sds source destination pdu) e = refl
  no_order sequence n (GroupSds source group pdu) e = refl
  no_order sequence n (Sent key) e = absurd (none_some n e)
  no_order sequence n Expire e = absurd (none_some n e)
  no_order sequence n (Delete key) e = absurd (none_some n e)

  -- a command with such a PDU is always permitted
  pub pdu_permitted : (orders : Bool) (line : Line A) (n : ℕ) → sequence_of line ≡ Some n → sequence_of (permitted orders line) ≡ Some n
  pdu_permitted true line n e = e
  pdu_permitted false Silent n e = e
  pdu_permitted false (Bad fault) n e = e
  pdu_permitted false (Apply c) n e = let free = no_order c.sequence n c.body e in rw free e
  pdu_permitted false (Ask q) n e = e
  pdu_permitted false (Print l) n e = e
  pdu_permitted false (Mark word) n e = e
  pdu_permitted false (OwnStation own) n e = e
  pdu_permitted false Service n e = e
  pdu_permitted false (Forbidden order) n e = e

  -- the answer where memory runs out for such a PDU
  pub pdu_outage : {W : Type 0} (rules : Rules A W) (number : ℕ) (s : W) (line : Line A) (n : ℕ) → sequence_of line ≡ Some n → AnswersReading rules number s line (CommandOutage n Memory) s
  pdu_outage rules number s Silent n e = absurd (none_some n e)
  pdu_outage rules number s (Bad fault) n e = absurd (none_some n e)
  pdu_outage rules number s (Apply c) n e = let pdu = long_only c.sequence n (is_long (pdu_of c.body)) e in (pdu.1, inr (pdu.0, refl, refl))
  pdu_outage rules number s (Ask q) n e = absurd (none_some n e)
  pdu_outage rules number s (Print l) n e = absurd (none_some n e)
  pdu_outage rules number s (Mark word) n e = absurd (none_some n e)
  pdu_outage rules number s (OwnStation own) n e = absurd (none_some n e)
  pdu_outage rules number s Service n e = absurd (none_some n e)
  pdu_outage rules number s (Forbidden order) n e = absurd (none_some n e)
