-- Batches: commands that are applied one after the other, each with its reply.
use Rattle.std.specs.Prelude.{cond, List, [], ◌∷◌, map}
use Rattle.centre_core.specs.declared.command.Command.{Command}
use Rattle.centre_core.specs.declared.reply.Reply.{Reply}
use Rattle.centre_core.specs.State.{State}
use Rattle.centre_core.specs.Step.{step}
use Rattle.centre_core.specs.History.{is_acceptance, next}

module _ {A : Type 0} where
  -- the commands of a batch, each with its reply in turn; C is the allocator of the replies
  abbrev pub with_replies : (C : Type 0) → State → List (Command A) → List (Command A × Reply C)
  with_replies C s [] = []
  with_replies C s (c ∷ cs) = (c, (step {B = C} s c).1) ∷ with_replies C (next s c) cs

  -- the replies alone
  abbrev pub replies : (C : Type 0) → State → List (Command A) → List (Reply C)
  replies C s cs = map (λ x. x.1) (with_replies C s cs)

  -- the commands whose reply accepts them
  abbrev pub accepted_of : {C : Type 0} → List (Command A × Reply C) → List (Command A)
  accepted_of [] = []
  accepted_of (x ∷ xs) = cond (is_acceptance x.1) (x.0 ∷ accepted_of xs) (accepted_of xs)

  -- the commands of a batch that are accepted, each in turn
  abbrev pub taken : State → List (Command A) → List (Command A)
  taken s cs = accepted_of (with_replies A s cs)
