-- What is made of a command does not depend on the allocator that its bits are kept under.
use Rattle.std.proofs.Common.{◌≡◌, ℕ, Bool, true, false, cond, List, [], ◌∷◌, map, refl, ap, sym, ◌∙◌, subst, Option, Some, None}
use Rattle.std.specs.Prelude.{◌||◌, ◌==◌, nat_lt, if◌then◌else◌}
use Rattle.mailbox.specs.Values.{Item}
use Rattle.mailbox.proofs.Lists.{any_mapped}
use Rattle.centre_core.specs.declared.command.Command.{Command}
use Rattle.centre_core.specs.declared.command.Body.{Body}
use Rattle.centre_core.specs.declared.command.Body.TheVariants.{RuleSet, RuleClear, Mm, Sds, GroupSds, Sent, Expire, Delete}
use Rattle.centre_core.specs.declared.reply.Reply.{Reply}
use Rattle.centre_core.specs.declared.reply.Reply.TheVariants.{Kept, Refused}
use Rattle.centre_core.specs.declared.reply.Refusal.TheVariants.{UnknownStation, OldSequence, NumbersUsedUp}
use Rattle.centre_core.specs.State.{State, LastAccepted, last_number}
use Rattle.centre_core.specs.Step.{step, step_new, step_after, step_body, is_station, last_at}
use Rattle.centre_core.specs.History.{accepts, next, after, names_in, has_reached, is_no_later, is_resend, fresh_from}
use Rattle.centre_core.specs.Histories.{IsHistory}
use Rattle.centre_core.specs.Same.{body_under, under}
use Rattle.centre_core.specs.Laws.{SameAgain, NamesAreSame, AcceptsAreSame, AfterIsSame, FreshIsSame, HistoriesAreSame, StepIsSame}
use Rattle.centre_core.proofs.StateLaws.{step_is_next, accepts_is_same}

module _ {A : Type 0} where
  body_own : (b : Body A) → body_under A b ≡ b
  body_own (RuleSet prefix rule) = refl
  body_own (RuleClear prefix) = refl
  body_own (Mm itsi area pdu) = refl
  body_own (Sds source destination pdu) = refl
  body_own (GroupSds source group pdu) = refl
  body_own (Sent key) = refl
  body_own Expire = refl
  body_own (Delete key) = refl

  -- under its own allocator a command is itself
  pub under_own : (c : Command A) → under A c ≡ c
  under_own c = λ i. record { station = c.station; sequence = c.sequence; moment = c.moment; body = body_own c.body i }

module _ {A : Type 0} (B : Type 0) where
  body_again : (b : Body A) → body_under A (body_under B b) ≡ b
  body_again (RuleSet prefix rule) = refl
  body_again (RuleClear prefix) = refl
  body_again (Mm itsi area pdu) = refl
  body_again (Sds source destination pdu) = refl
  body_again (GroupSds source group pdu) = refl
  body_again (Sent key) = refl
  body_again Expire = refl
  body_again (Delete key) = refl

  pub same_again : SameAgain A B
  same_again c = λ i. record { station = c.station; sequence = c.sequence; moment = c.moment; body = body_again c.body i }

  names_by : (moment : ℕ) (b : Body A) (m : Item) → names_in moment (body_under B b) m ≡ names_in moment b m
  names_by moment (RuleSet prefix rule) m = refl
  names_by moment (RuleClear prefix) m = refl
  names_by moment (Mm itsi area pdu) m = refl
  names_by moment (Sds source destination pdu) m = refl
  names_by moment (GroupSds source group pdu) m = refl
  names_by moment (Sent key) m = refl
  names_by moment Expire m = refl
  names_by moment (Delete key) m = refl

  pub names_are_same : NamesAreSame A B
  names_are_same c m = names_by c.moment c.body m

module _ {A : Type 0} (B C : Type 0) where
  step_by : (s : State) (c : Command A) (b : Body A) → step_body {B = C} s (under B c) (body_under B b) ≡ step_body {B = C} s c b
  step_by s c (RuleSet prefix rule) = refl
  step_by s c (RuleClear prefix) = refl
  step_by s c (Mm itsi area pdu) = refl
  step_by s c (Sds source destination pdu) = refl
  step_by s c (GroupSds source group pdu) = refl
  step_by s c (Sent key) = refl
  step_by s c Expire = refl
  step_by s c (Delete key) = refl

  new_same : (s : State) (c : Command A) → step_new {B = C} s (under B c) ≡ step_new {B = C} s c
  new_same s c = ap (λ (r : State × Reply C). if nat_lt s.count last_number then r else (s, Refused NumbersUsedUp)) (step_by s c c.body)

  after_by : (s : State) (c : Command A) (kept : Option LastAccepted) → step_after {B = C} s (under B c) kept ≡ step_after {B = C} s c kept
  after_by s c None = new_same s c
  after_by s c (Some last) =
      ap (λ (r : State × Reply C). if nat_lt c.sequence last.sequence then (s, Refused (OldSequence last.sequence)) else
      (if c.sequence == last.sequence then (s, Kept last.number last.pdu) else r)) (new_same s c)

  pub step_is_same : StepIsSame A B C
  unfolding step
  step_is_same s c = ap (λ (r : State × Reply C). if is_station s c.station then r else (s, Refused UnknownStation)) (after_by s c (last_at s c.station))

module _ {A : Type 0} (B : Type 0) where
  pub accepts_are_same : AcceptsAreSame A B
  accepts_are_same s c = accepts_is_same B s (under B c) c (ap (λ r. r.1) (step_is_same B B s c))

  next_same : (s : State) (c : Command A) → next s (under B c) ≡ next s c
  next_same s c = ap (λ r. r.0) (step_is_same B B s c) ∙ step_is_next B s c

  pub after_is_same : AfterIsSame A B
  after_is_same s [] = refl
  after_is_same s (c ∷ cs) = ap (λ t. after t (map (under B) cs)) (next_same s c) ∙ after_is_same (next s c) cs

  pub histories_are_same : HistoriesAreSame A B
  histories_are_same base [] h = tt
  histories_are_same base (c ∷ cs) h =
      (accepts_are_same base c ∙ h.0, subst (λ t. IsHistory t (map (under B) cs)) (sym (next_same base c)) (histories_are_same (next base c) cs h.1))

  resend_same : (s : State) (done : List (Command A)) (c : Command A) → is_resend s (map (under B) done) (under B c) ≡ is_resend s done c
  resend_same s done c = ap (λ b. has_reached s c.station c.sequence || b) (any_mapped (under B) (is_no_later (under B c)) done)

  -- the commands accepted since
  done_same : (b : Bool) (c : Command A) (done : List (Command A)) → cond b (under B c ∷ map (under B) done) (map (under B) done) ≡ map (under B) (cond b (c ∷ done) done)
  done_same true c done = refl
  done_same false c done = refl

  left_same : (b : Bool) (c : Command A) (rest : List (Command A)) → cond b (map (under B) rest) (under B c ∷ map (under B) rest) ≡ map (under B) (cond b rest (c ∷ rest))
  left_same true c rest = refl
  left_same false c rest = refl

  fresh_by : (s : State) (done : List (Command A)) (now : State) (cs : List (Command A)) → fresh_from s (map (under B) done) now (map (under B) cs) ≡ map (under B) (fresh_from s done now cs)
  fresh_by s done now [] = refl
  fresh_by s done now (c ∷ cs) =
      let more : List (Command A) = cond (accepts now c) (c ∷ done) done in
      let since : cond (accepts now (under B c)) (under B c ∷ map (under B) done) (map (under B) done) ≡ map (under B) more =
      ap (λ b. cond b (under B c ∷ map (under B) done) (map (under B) done)) (accepts_are_same now c) ∙ done_same (accepts now c) c done in
      let rest : fresh_from s (cond (accepts now (under B c)) (under B c ∷ map (under B) done) (map (under B) done)) (next now (under B c))
      (map (under B) cs) ≡ map (under B) (fresh_from s more (next now c) cs) =
      (λ i. fresh_from s (since i) (next_same now c i) (map (under B) cs)) ∙ fresh_by s more (next now c) cs in
      (λ i. cond (resend_same s done c i) (rest i) (under B c ∷ rest i)) ∙ left_same (is_resend s done c) c (fresh_from s more (next now c) cs)

  pub fresh_is_same : FreshIsSame A B
  fresh_is_same s cs = fresh_by s [] s cs
