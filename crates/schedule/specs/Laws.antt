-- Laws of every list of events that runs from the start, over every base state and any number of sessions.
use Rattle.std.specs.Prelude.{◌≡◌, ℕ, ◌≤◌, ◌↔◌, IsTrue, List, ◌∷◌, ◌++◌, length}
use Rattle.std.specs.List.{All, Contains, list_any}
use Rattle.registration.specs.Numbers.{Station}
use Rattle.mailbox.specs.Values.{Item}
use Rattle.mailbox.specs.Item.{is_message}
use Rattle.centre_core.specs.declared.command.Command.{Command}
use Rattle.centre_core.specs.State.{State, IsState}
use Rattle.centre_core.specs.History.{after, names, made}
use Rattle.centre_core.specs.Histories.{IsHistory}
use Rattle.schedule.specs.declared.event.Event.{Event}
use Rattle.schedule.specs.declared.event.Event.TheVariants.{Read}
use Rattle.schedule.specs.World.{World, Entry, opening, seen_of}
use Rattle.schedule.specs.Next.{Next, Run}
use Rattle.schedule.specs.Clauses.{IsBeginning, IsBorneOut, IsWithin, IsShortenedByCrashAlone, IsFresh, IsOneLife, seen_by, sealed, submitted}

-- the message is missing in the state exactly if one of these commands names it
abbrev pub IsMissingByName : {A : Type 0} → State → Item → List (Command A) → Type 0
IsMissingByName s m cs = (¬ Contains s.mail.items m) ↔ IsTrue (list_any (λ c. names c m) cs)

module _ (A : Type 0) where
  -- ---- where a law holds

  -- of every base, and each world to which events lead from the start over it
  abbrev pub InEachWorld : (State → World A → Type 0) → Type 0
  InEachWorld P = (base : State) (n : ℕ) (es : List (Event A)) (w : World A) → Run base (opening n) es w → P base w

  -- of each world to which events lead from this one
  abbrev pub InEachLater : State → World A → (World A → Type 0) → Type 0
  InEachLater base w P = (fs : List (Event A)) (w' : World A) → Run base w fs w' → P w'

  -- of each station, and the world just after it reads
  abbrev pub AfterEachRead : State → World A → (ℕ → World A → Type 0) → Type 0
  AfterEachRead base w P = (s : ℕ) (r : World A) → Next base w (Read s) r → P s r

  -- ---- the laws

  -- the accepted commands are a history from the base
  abbrev pub AcceptedInTurn : Type 0
  AcceptedInTurn = InEachWorld (λ base w. IsHistory base w.accepted)

  -- what is published is durable, and what is durable is accepted
  abbrev pub PublishedAreDurable : Type 0
  PublishedAreDurable = InEachWorld (λ base w. (w.published ≤ w.durable) × (w.durable ≤ length w.accepted))

  -- what is published never shrinks
  abbrev pub PublishedNeverFalls : Type 0
  PublishedNeverFalls = InEachWorld (λ base w. InEachLater base w (λ w'. w.published ≤ w'.published))

  -- only a crash shortens what is accepted
  abbrev pub OnlyCrashShortens : Type 0
  OnlyCrashShortens = InEachWorld (λ base w. (e : Event A) (w' : World A) → Next base w e w' → IsShortenedByCrashAlone w e w')

  -- answers stay, also through a crash
  abbrev pub AnswersStay : Type 0
  AnswersStay = InEachWorld (λ base w. InEachLater base w (λ w'. (more : List (Entry A)) × (w'.answers ≡ w.answers ++ more)))

  -- each answer is borne out by the accepted commands
  abbrev pub AnswersAreBorneOut : Type 0
  AnswersAreBorneOut = InEachWorld (λ base w. All (λ x. IsBorneOut base w.accepted x) w.answers)

  -- a read begins with each earlier read, of any station
  abbrev pub ReadsGrow : Type 0
  ReadsGrow = InEachWorld (λ base w. AfterEachRead base w (λ s r.
      InEachLater base r (λ w'. AfterEachRead base w' (λ t r'. IsBeginning (seen_by r s) (seen_by r' t)))))

  -- a read holds each earlier accepted answer
  abbrev pub ReadsHoldAnswers : Type 0
  ReadsHoldAnswers = InEachWorld (λ base w. InEachLater base w (λ w'. AfterEachRead base w' (λ t r. All (λ x. IsWithin base (seen_of r t) x) w.answers)))

  -- from the start, or from a reopening up to the next: the sealed commands of a station are a beginning of its submitted ones
  abbrev pub SealedAreSubmitted : Type 0
  SealedAreSubmitted =
      (base : State) (n : ℕ) (es fs : List (Event A)) (w w' : World A) (t : Station)
      → Run base (opening n) es w → IsFresh es → Run base w fs w' → IsOneLife fs
      → IsBeginning (sealed base t w fs) (submitted t fs)

  -- a message of the base's mail is missing after the accepted commands exactly if one of them names it
  abbrev pub NoneOfTheBaseLost : Type 0
  NoneOfTheBaseLost = InEachWorld (λ base w. IsState base → (m : Item) → IsTrue (is_message m) → Contains base.mail.items m
      → IsMissingByName (after base w.accepted) m w.accepted)

  -- a message that an accepted command makes is missing exactly if a command that is accepted later names it
  abbrev pub NoneMadeLost : Type 0
  NoneMadeLost = InEachWorld (λ base w. IsState base → (bs : List (Command A)) (c : Command A) (cs : List (Command A)) → w.accepted ≡ bs ++ c ∷ cs
      → (m : Item) → Contains (made (after base bs) c) m → IsMissingByName (after base w.accepted) m cs)
