-- What the replies to the commands in a station's lines say, by the list of durable commands.
use Rattle.std.specs.Prelude.{◌≤◌, ℕ, List, [], ◌∷◌, length, take}
use Rattle.std.specs.declared.alloc.Global.{Global}
use Rattle.identity.specs.Numbers.{Byte}
use Rattle.centre_core.specs.Asked.{Asked}
use Rattle.centre_core.specs.State.{State}
use Rattle.centre_core.specs.declared.reply.Reply.{Reply}
use Rattle.console.specs.declared.answer.Answer.{Answer}
use Rattle.console.specs.declared.answer.Answer.TheVariants as answer
use Rattle.console.specs.declared.line.Line.{Line}
use Rattle.console.specs.declared.line.Line.TheVariants as line
use Rattle.console.specs.Reading.{Speaker, heard}
use Rattle.flusher.specs.Borne.{IsReplyAfter}

-- P holds of the reply (`ok`, `kept` or `no`) in an answer; nothing is stated of any other answer
abbrev pub IsReplied : (Reply Global → Type 0) → Answer Global → Type 0
IsReplied P (answer.Replied sequence reply) = P reply
IsReplied P other = Unit {0}

-- P holds of the command in a line and the reply in its answer; nothing is stated of a line without a command
abbrev pub IsRepliedTo : (Asked Global → Reply Global → Type 0) → Line Global → Answer Global → Type 0
IsRepliedTo P line.Silent given = Unit {0}
IsRepliedTo P (line.Bad fault) given = Unit {0}
IsRepliedTo P (line.Apply c) given = IsReplied (P c) given
IsRepliedTo P (line.Ask q) given = Unit {0}
IsRepliedTo P (line.Print l) given = Unit {0}
IsRepliedTo P (line.Mark word) given = Unit {0}
IsRepliedTo P (line.OwnStation station) given = Unit {0}
IsRepliedTo P line.Service given = Unit {0}
IsRepliedTo P (line.Forbidden sequence) given = Unit {0}

-- P holds of the command in each of these lines and the reply in its answer
abbrev pub AreRepliedTo : (Asked Global → Reply Global → Type 0) → Speaker → List (List Byte) → List (Answer Global) → Type 0
AreRepliedTo P speaker [] answers = Unit {0}
AreRepliedTo P speaker (text ∷ texts) [] = Unit {0}
AreRepliedTo P speaker (text ∷ texts) (given ∷ answers) = IsRepliedTo P (heard speaker text) given × AreRepliedTo P speaker texts answers

-- these commands bear out the answer to a line
abbrev pub IsLineAfter : State → List (Asked Global) → Line Global → Answer Global → Type 0
IsLineAfter base commands said given = IsRepliedTo (IsReplyAfter base commands) said given

-- A prefix of the durable commands bears out the answer to each line of a station. No prefix is shorter than the one before it, nor than
-- `low` commands.
abbrev pub AreLinesBorneOut : State → List (Asked Global) → Speaker → ℕ → List (List Byte) → List (Answer Global) → Type 0
AreLinesBorneOut base durable speaker low [] answers = Unit {0}
AreLinesBorneOut base durable speaker low (text ∷ texts) [] = Unit {0}
AreLinesBorneOut base durable speaker low (text ∷ texts) (given ∷ answers) =
    (place : ℕ) × (low ≤ place) × (place ≤ length durable) × IsLineAfter base (take place durable) (heard speaker text) given
    × AreLinesBorneOut base durable speaker place texts answers
