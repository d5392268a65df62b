-- Out of memory reported in the place of a list.
use Rattle.std.proofs.Common.{◌≡◌, ℕ, ◌+◌, ◌≤◌, ◌<◌, ◌∙◌, ap, arith, Result, Ok, Err, OnOk, OnErr, is_ok, [], ◌++◌, true, false, Bool, List, refl, sym, subst, inl, inr}
use Rattle.std.specs.Prelude.{IsSome}
use Rattle.std.proofs.lemmas.Bool.{true≢false}
use mathlib.Core.Bool.{false≢true}
use Rattle.centre_core.specs.State.{State}
use Rattle.centre_core.specs.declared.query.Query.{Query}
use Rattle.centre_core.specs.declared.query.QueryAnswer.{QueryAnswer}
use Rattle.centre_core.specs.declared.query.QueryAnswer.TheVariants as answered
use Rattle.desk.specs.declared.outage.Outage.TheVariants.{Memory}
use Rattle.desk.specs.OfRegister.{of_register}
use Rattle.listings.specs.Texts.{is_line}
use Rattle.listings.specs.declared.listing.Listing.{Listing}
use Rattle.listings.specs.declared.listing.Listing.TheVariants as listing
use Rattle.console.specs.declared.line.Line.{Line}
use Rattle.console.specs.declared.line.Line.TheVariants.{Silent, Bad, Apply, Ask, Print, Mark, OwnStation, Service, Forbidden}
use Rattle.console.specs.declared.line.LineFault.TheVariants.{Syntax}
use Rattle.console.specs.declared.answer.Answer.{Answer}
use Rattle.console.specs.declared.answer.Answer.TheVariants as answer
use Rattle.console.specs.Answer.{is_list, IsLine, IsOneLine}
use Rattle.console.specs.Dialogue.{AnswersQuery}
use Rattle.console.specs.Reading.{reading, sequence_of}
use Rattle.served_disk.specs.Showing.{HasNoListing, IsListingOf, IsShown, IsTextOf, ShowsReading}

listed : {B : Type 0} (t : QueryAnswer B) → (IsOneLine t → ⊥) → is_list t ≡ true
listed (answered.Whereabouts itsi radio) long = absurd (long refl)
listed (answered.Look itsi rule) long = absurd (long refl)
listed (answered.Groups itsi groups) long = refl
listed (answered.Members gtsi members) long = refl
listed (answered.Waiting itsi items) long = refl
listed (answered.Total count) long = absurd (long refl)

module _ {A : Type 0} where
  query_outage : (s : State) (q : Query) (a : Answer A) → (IsLine a → ⊥) → AnswersQuery of_register 1 s q a s → AnswersQuery {A = A} of_register 1 s q (answer.QueryOutage 1 Memory) s
  query_outage s q (answer.Queried answered) long is = (refl, inr (refl, (answered, listed answered long, is)))
  query_outage s q (answer.QueryOutage number word) long is = absurd (long tt)
  query_outage s q answer.Quiet long is = absurd is
  query_outage s q (answer.Bad number fault) long is = absurd is
  query_outage s q (answer.Replied sequence reply) long is = absurd is
  query_outage s q (answer.CommandOutage sequence word) long is = absurd is
  query_outage s q (answer.Listed lines) long is = absurd is
  query_outage s q (answer.Marked word) long is = absurd is
  query_outage s q (answer.OwnStation station) long is = absurd is
  query_outage s q (answer.Service lines) long is = absurd is
  query_outage s q (answer.ServiceOutage number) long is = absurd is
  query_outage s q (answer.Forbidden sequence) long is = absurd is

  -- memory lacks only for a command, which is no query
  pub no_query : (s : State) (said : Line A) → IsSome (sequence_of said) → ShowsReading s said (answer.Bad 1 Syntax) × HasNoListing A said
  no_query s Silent has = absurd (false≢true has)
  no_query s (Bad fault) has = absurd (false≢true has)
  no_query s (Apply c) has = (refl, tt)
  no_query s (Ask q) has = absurd (false≢true has)
  no_query s (Print l) has = absurd (false≢true has)
  no_query s (Mark word) has = absurd (false≢true has)
  no_query s (OwnStation station) has = absurd (false≢true has)
  no_query s Service has = absurd (false≢true has)
  no_query s (Forbidden sequence) has = absurd (false≢true has)

  short : (a b : Answer A) → a ≡ b → IsLine b → IsLine a
  short a b same is = subst (λ (c : Answer A). IsLine c) (sym same) is

  gives_way : (s : State) (said : Line A) (a : Answer A) → HasNoListing A said → (IsLine a → ⊥) → ShowsReading s said a → ShowsReading {A = A} s said (answer.QueryOutage 1 Memory)
  gives_way s Silent a none long is = absurd (long (short a _ is tt))
  gives_way s (Bad fault) a none long is = absurd (long (short a _ is tt))
  gives_way s (Apply c) a none long is = absurd (long (short a _ is tt))
  gives_way s (Ask q) a none long is = query_outage s q a long is
  gives_way s (Print l) a none long is = absurd none
  gives_way s (Mark word) a none long is = absurd (long (short a _ is tt))
  gives_way s (OwnStation station) a none long is = absurd (long (short a _ is tt))
  gives_way s Service a none long is = absurd (long (short a _ is tt))
  gives_way s (Forbidden sequence) a none long is = absurd (long (short a _ is tt))

  pub shown : (s : State) (whole out : List ℕ) (troubled : Bool) (a : Answer A) → ShowsReading s (reading 1 whole) a ×
      HasNoListing A (reading 1 whole) → IsTextOf a out troubled → IsShown A s whole out troubled
  shown s whole out troubled a is (inl answered) = record { given = a; answers = is.0; written = answered.written; trouble = answered.trouble }
  shown s whole out troubled a is (inr answered) =
      record {
        given = answer.QueryOutage 1 Memory;
        answers = gives_way s (reading 1 whole) a is.1 answered.long is.0;
        written = answered.written;
        trouble = answered.trouble;
      }

  -- a listing in place of an answer
  pub shown_listing : (s : State) (whole out : List ℕ) (troubled : Bool) (l : Listing) → reading {A = A} 1 whole ≡ Print l → IsListingOf A s l out troubled → IsShown A s whole out troubled
  shown_listing s whole out troubled l said listed = record {
    given = listed.given;
    answers = subst (λ (x : Line A). ShowsReading s x listed.given) (sym said) listed.answers;
    written = listed.written;
    trouble = listed.trouble;
  }

-- a listing that is no line is a list
pub no_line_is_a_list : (l : Listing) → (is_line l ≡ true → ⊥) → is_line l ≡ false
no_line_is_a_list (listing.Entries table) long = refl
no_line_is_a_list (listing.Last station) long = absurd (long refl)
no_line_is_a_list listing.Room long = absurd (long refl)
no_line_is_a_list listing.Dump long = refl

-- what was written after nothing
pub written_first : {X E : Type 0} (r : Result X E) (old new more : List ℕ) → old ≡ [] → is_ok r ≡ true → OnOk r (new ≡ old ++ more) → new ≡ more
written_first (Ok x) old new more none ok is = is ∙ ap (λ l. l ++ more) none
written_first (Err e) old new more none ok is = absurd (false≢true ok)

-- what finds no room there is no line
pub no_line : {X E : Type 0} (r : Result X E) (capacity size : ℕ) (P : Type 0) → 1024 ≤ capacity → size ≡ 0 → is_ok r ≡ false → (P → OnErr r (capacity < size + 1024)) → P → ⊥
no_line (Ok x) capacity size P room none err full line = absurd (true≢false err)
no_line (Err e) capacity size P room none err full line = let is = full line in absurd (omega (arith, is, room, none))

-- what was written in the place of what found no room
pub written_over : {X Y E F : Type 0} (r : Result X E) (q : Result Y F) (y : Y) (old mid new more : List ℕ) → old ≡ [] → is_ok r ≡ false →
    OnErr r (mid ≡ old) → q ≡ Ok y → OnOk q (new ≡ mid ++ more) → new ≡ more
written_over {Y = Y} {F = F} (Ok x) q y old mid new more none err same ok is = absurd (true≢false err)
written_over {Y = Y} {F = F} (Err e) q y old mid new more none err same ok is =
    let put : new ≡ mid ++ more = subst (λ (w : Result Y F). OnOk w (new ≡ mid ++ more)) ok is in
    put ∙ ap (λ l. l ++ more) (same ∙ none)
