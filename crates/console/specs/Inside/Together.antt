-- Consecutive lines that ask for commands, which are done and answered together.
use Rattle.std.specs.Prelude.{◌≡◌, List, [], ◌∷◌, ◌++◌, Result, Ok, Err}
use Rattle.std.specs.Str.Lines.{lines}
use Rattle.identity.specs.Numbers.{Byte}
use Rattle.centre_core.specs.declared.command.Command.{Command}
use Rattle.centre_core.specs.declared.reply.Reply.{Reply}
use Rattle.desk.specs.declared.outage.Outage.{Outage}
use Rattle.console.specs.declared.line.Line.TheVariants as line
use Rattle.console.specs.declared.answer.Answer.{Answer}
use Rattle.console.specs.declared.answer.Answer.TheVariants as answer
use Rattle.console.specs.Reading.{Speaker, heard}

module _ {A : Type 0} where
  -- each of these lines is read as its command
  abbrev pub AreRead : Speaker → List (List Byte) → List (Command A) → Type 0
  AreRead speaker [] [] = Unit {0}
  AreRead speaker [] (c ∷ commands) = ⊥
  AreRead speaker (given ∷ more) [] = ⊥
  AreRead speaker (given ∷ more) (c ∷ commands) = (heard speaker given ≡ line.Apply c) × AreRead speaker more commands

  -- the bytes are whole lines, and each of these is read as its command
  pub record AreLines (speaker : Speaker) (bytes : List Byte) (commands : List (Command A)) : Type 0 where
    pub given : List (List Byte)
    pub split : (rest : List Byte) → lines (bytes ++ rest) ≡ given ++ lines rest
    pub read : AreRead speaker given commands

  -- the answer to a command, by what the desk returns for it
  abbrev pub answer_for : Command A → Result (Reply A) Outage → Answer A
  answer_for c (Ok reply) = answer.Replied c.sequence reply
  answer_for c (Err word) = answer.CommandOutage c.sequence word

  -- the answers to several commands, in order; they end with the shorter of the two lists
  abbrev pub answers_for : List (Command A) → List (Result (Reply A) Outage) → List (Answer A)
  answers_for [] replies = []
  answers_for (c ∷ commands) [] = []
  answers_for (c ∷ commands) (reply ∷ replies) = answer_for c reply ∷ answers_for commands replies
