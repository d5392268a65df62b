-- Answers and the room that their texts take.
use Rattle.std.proofs.Common.{◌≡◌, ◌⊎◌, ℕ, ◌+◌, ◌<◌, ◌≤◌, Bool, true, false, List, Result, Err, IfErr, IsErrOf, refl, sym, ap, subst, ◌∙◌, inl, inr, arith}
use Rattle.std.proofs.lemmas.Bool.{true≢false}
use Rattle.centre_core.specs.declared.query.QueryAnswer.{QueryAnswer}
use Rattle.console.specs.declared.line.Line.{Line}
use Rattle.console.specs.declared.line.Line.TheVariants.{Silent, Bad, Apply, Ask, Print, Mark, OwnStation, Service, Forbidden}
use Rattle.console.specs.declared.answer.Answer.{Answer}
use Rattle.console.specs.declared.answer.Answer.TheVariants as answer
use Rattle.console.specs.declared.running.RunFault.{RunFault}
use Rattle.console.specs.declared.running.RunFault.TheVariants.{Read, Write, NoMemory}
use Rattle.listings.specs.Parts.{answer_room}
use Rattle.listings.specs.Texts.{is_line}
use Rattle.listings.specs.declared.listing.Listing.{Listing}
use Rattle.desk.specs.declared.outage.Outage.{Outage}
use Rattle.desk.specs.declared.outage.Outage.TheVariants.{Memory}
use Rattle.desk.specs.Listed.{IsUnlisted}
use Rattle.console.specs.Answer.{is_list, is_list_answer, IsOneLine, IsLine}
use Rattle.console.specs.Reading.{Speaker, heard}
use Rattle.console.specs.Inside.Current.{IsGivenFor}
use Rattle.console.specs.Inside.Given.{IsPrintable}
use Rattle.desk.specs.Rules.{Rules}
use Rattle.console.specs.Dialogue.{AnswersReading, Answers, LacksLines}

-- the answer to a query is one line, or a list
line_or_list : {B : Type 0} (b : Bool) (t : QueryAnswer B) → is_list t ≡ b → (IsOneLine t → ⊥) → is_list t ≡ true
line_or_list true t is long = is
line_or_list false t is long = absurd (long is)

-- an answer that can be printed and is no line is a list
pub only_lists_are_long : {B : Type 0} (a : Answer B) → IsPrintable a → (IsLine a → ⊥) → is_list_answer a ≡ true
only_lists_are_long answer.Quiet short long = absurd (long tt)
only_lists_are_long (answer.Marked word) short long = absurd (long tt)
only_lists_are_long (answer.OwnStation own) short long = absurd (long tt)
only_lists_are_long (answer.Forbidden order) short long = absurd (long tt)
only_lists_are_long (answer.Bad line fault) short long = absurd (long tt)
only_lists_are_long (answer.Replied sequence reply) short long = absurd (long short)
only_lists_are_long (answer.CommandOutage sequence word) short long = absurd (long tt)
only_lists_are_long (answer.Queried query_answer) short long = line_or_list (is_list query_answer) query_answer refl long
only_lists_are_long (answer.Listed lines) short long = absurd short
only_lists_are_long (answer.Service lines) short long = absurd short
only_lists_are_long (answer.ServiceOutage line) short long = absurd (long tt)
only_lists_are_long (answer.QueryOutage line word) short long = absurd (long tt)

module _ {A W : Type 0} where
  query_outage : (rules : Rules A W) (n : ℕ) (s t : W) (line : Line A) (a : Answer A) → is_list_answer a ≡ true → AnswersReading rules n s line a t →
      AnswersReading rules n s line (answer.QueryOutage n Memory) t
  query_outage rules n s t Silent a list given = absurd (true≢false (sym list ∙ ap is_list_answer given.0))
  query_outage rules n s t (Bad fault) a list given = absurd (true≢false (sym list ∙ ap is_list_answer given.0))
  query_outage rules n s t (Mark word) a list given = absurd (true≢false (sym list ∙ ap is_list_answer given.0))
  query_outage rules n s t (OwnStation own) a list given = absurd (true≢false (sym list ∙ ap is_list_answer given.0))
  query_outage rules n s t Service (answer.Service lines) list given = absurd (true≢false (sym list))
  query_outage rules n s t Service (answer.ServiceOutage number) list given = absurd (true≢false (sym list))
  query_outage rules n s t Service answer.Quiet list given = absurd given.0
  query_outage rules n s t Service (answer.Marked word) list given = absurd given.0
  query_outage rules n s t Service (answer.OwnStation own) list given = absurd given.0
  query_outage rules n s t Service (answer.Forbidden order) list given = absurd given.0
  query_outage rules n s t Service (answer.Bad number fault) list given = absurd given.0
  query_outage rules n s t Service (answer.Replied sequence reply) list given = absurd given.0
  query_outage rules n s t Service (answer.CommandOutage sequence word) list given = absurd given.0
  query_outage rules n s t Service (answer.Queried query_answer) list given = absurd given.0
  query_outage rules n s t Service (answer.Listed lines) list given = absurd given.0
  query_outage rules n s t Service (answer.QueryOutage number word) list given = absurd given.0
  query_outage rules n s t (Forbidden order) a list given = absurd (true≢false (sym list ∙ ap is_list_answer given.0))
  query_outage rules n s t (Apply c) (answer.Replied sequence reply) list given = absurd (true≢false (sym list))
  query_outage rules n s t (Apply c) (answer.CommandOutage sequence word) list given = absurd (true≢false (sym list))
  query_outage rules n s t (Apply c) answer.Quiet list given = absurd given
  query_outage rules n s t (Apply c) (answer.Marked word) list given = absurd given
  query_outage rules n s t (Apply c) (answer.OwnStation own) list given = absurd given
  query_outage rules n s t (Apply c) (answer.Service lines) list given = absurd given
  query_outage rules n s t (Apply c) (answer.ServiceOutage number) list given = absurd given
  query_outage rules n s t (Apply c) (answer.Forbidden order) list given = absurd given
  query_outage rules n s t (Apply c) (answer.Bad number fault) list given = absurd given
  query_outage rules n s t (Apply c) (answer.Queried query_answer) list given = absurd given
  query_outage rules n s t (Apply c) (answer.Listed lines) list given = absurd given
  query_outage rules n s t (Apply c) (answer.QueryOutage number word) list given = absurd given
  query_outage rules n s t (Ask q) (answer.Queried query_answer) list given = (refl, inr (refl, (query_answer, list, given)))
  query_outage rules n s t (Ask q) (answer.QueryOutage number word) list given = absurd (true≢false (sym list))
  query_outage rules n s t (Ask q) answer.Quiet list given = absurd given
  query_outage rules n s t (Ask q) (answer.Marked word) list given = absurd given
  query_outage rules n s t (Ask q) (answer.OwnStation own) list given = absurd given
  query_outage rules n s t (Ask q) (answer.Service lines) list given = absurd given
  query_outage rules n s t (Ask q) (answer.ServiceOutage number) list given = absurd given
  query_outage rules n s t (Ask q) (answer.Forbidden order) list given = absurd given
  query_outage rules n s t (Ask q) (answer.Bad number fault) list given = absurd given
  query_outage rules n s t (Ask q) (answer.Replied sequence reply) list given = absurd given
  query_outage rules n s t (Ask q) (answer.CommandOutage sequence word) list given = absurd given
  query_outage rules n s t (Ask q) (answer.Listed lines) list given = absurd given
  query_outage rules n s t (Print l) (answer.Listed lines) list given = absurd (true≢false (sym list))
  query_outage rules n s t (Print l) (answer.QueryOutage number word) list given = absurd (true≢false (sym list))
  query_outage rules n s t (Print l) answer.Quiet list given = absurd given
  query_outage rules n s t (Print l) (answer.Marked word) list given = absurd given
  query_outage rules n s t (Print l) (answer.OwnStation own) list given = absurd given
  query_outage rules n s t (Print l) (answer.Service lines) list given = absurd given
  query_outage rules n s t (Print l) (answer.ServiceOutage number) list given = absurd given
  query_outage rules n s t (Print l) (answer.Forbidden order) list given = absurd given
  query_outage rules n s t (Print l) (answer.Bad number fault) list given = absurd given
  query_outage rules n s t (Print l) (answer.Replied sequence reply) list given = absurd given
  query_outage rules n s t (Print l) (answer.CommandOutage sequence word) list given = absurd given
  query_outage rules n s t (Print l) (answer.Queried query_answer) list given = absurd given

  -- what is given in place of an answer is an answer
  pub is_given_for : (rules : Rules A W) (speaker : Speaker) (n : ℕ) (s t : W) (line : List ℕ) (a given : Answer A) → IsGivenFor n a given →
      Answers rules speaker n s line a t → Answers rules speaker n s line given t
  is_given_for rules speaker n s t line a given stands answers = elim stands [
    | inl same ↦ subst (λ (b : Answer A). Answers rules speaker n s line b t) (sym same) answers
    | inr list ↦ subst (λ (b : Answer A). Answers rules speaker n s line b t) (sym list.1) (query_outage rules n s t (heard speaker line) a list.0 answers)
  ]

-- what has room for one line, and not for this listing, has no room for a list
no_line : (b : Bool) (l : Listing) (size capacity : ℕ) → size ≡ 0 → answer_room ≤ capacity → is_line l ≡ b → (is_line l ≡ true → capacity < size + answer_room) → is_line l ≡ false
no_line true l size capacity empty room is lacks = absurd (let few = lacks is in omega (arith, empty, room, few))
no_line false l size capacity empty room is lacks = is

pub lacks_lines : {A W : Type 0} (rules : Rules A W) (s t : W) (l : Listing) (size capacity : ℕ) (word : Outage) → size ≡ 0 → answer_room ≤ capacity →
    IsUnlisted rules s l size capacity word t → rules.reads s (Err word) t ⊎ LacksLines rules s l word t
lacks_lines rules s t l size capacity word empty room why = elim why [
  | inl says ↦ inl says
  | inr lacks ↦ inr (lacks.0, no_line (is_line l) l size capacity empty room refl lacks.1.2.1, (lacks.1.0, lacks.1.1))
]

-- a run stops for the writer alone while it answers
pub only_write : {T : Type 0} (r : Result T RunFault) (e : RunFault) → IfErr r (λ f. f ≡ Write) → IsErrOf r e → e ≡ Write
only_write {T = T} r e stops failed = subst (λ (q : Result T RunFault). IfErr q (λ f. f ≡ Write)) failed stops

abbrev is_write : RunFault → Bool
is_write Read = false
is_write Write = true
is_write NoMemory = false

pub never_read : {T : Type 0} (r : Result T RunFault) → IfErr r (λ f. f ≡ Write) → IsErrOf r Read → ⊥
never_read r stops failed = true≢false (sym (ap is_write (only_write r Read stops failed)))

pub never_memory : {T : Type 0} (r : Result T RunFault) → IfErr r (λ f. f ≡ Write) → IsErrOf r NoMemory → ⊥
never_memory r stops failed = true≢false (sym (ap is_write (only_write r NoMemory stops failed)))
