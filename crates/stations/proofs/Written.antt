-- What was on the disk before it was written.
use Rattle.std.proofs.Common.{List, [], ◌∷◌, ◌++◌, refl, sym, ◌∙◌, arith, Option, Result, Ok, Err}
use Rattle.std.specs.Prelude.{Contains}
use Rattle.std.specs.List.{AllByRecursion}
use Rattle.std.specs.Str.Lines.{lines}
use Rattle.std.specs.declared.alloc.Global.{Global}
use Rattle.std.proofs.lemmas.List.{append-nil}
use Rattle.std.proofs.lemmas.List.Elements.{Contains-append_right}
use Rattle.identity.specs.Numbers.{Byte}
use Rattle.sector_disk.specs.Disk.{View}
use Rattle.centre_core.specs.State.{State}
use Rattle.console.specs.Dialogue.{Dialogue}
use Rattle.console.specs.Events.{OnlyAnswers, answered_by, read_by}
use Rattle.console.specs.Reading.{Speaker}
use Rattle.console.specs.Told.{GaveFirst, HasTaken, TellsAll, TellsSome, reader_events, writer_events}
use Rattle.console.specs.declared.passed.Passed.{Passed}
use Rattle.console.specs.declared.answer.Answer.{Answer}
use Rattle.console.specs.declared.running.Ran.{Ran}
use Rattle.console.specs.declared.running.RunFault.{RunFault}
use Rattle.flusher.specs.Since.{WasDurable}
use Rattle.flusher.specs.Stages.{Sent}
use Rattle.flusher.specs.Submitted.{SessionView}
use Rattle.flusher.specs.View.{FlusherView}
use Rattle.stations.specs.Done.{IsToldOf}
use Rattle.stations.specs.Lines.{AreRepliedTo}
use Rattle.stations.specs.OfSession.{AtSession, of_session}
use Rattle.stations.specs.Served.{IsReplyDurable, IsWrittenAfter, new_view}
use Rattle.stations.proofs.Lines.{replies_received}

-- what holds of each item of a list holds of each that it contains
within : (P : Sent → Type 0) (all xs : List Sent) → ((x : Sent) → Contains xs x → Contains all x) → AllByRecursion P xs → AllByRecursion (λ x. Contains all x × P x) xs
within P all [] of h = tt
within P all (y ∷ xs) of h = ((of y (0, omega arith, refl), h.0), within P all xs (λ x c. of x (Contains-append_right (y ∷ []) xs x c)) h.1)

module _ {D I O : Type 0} (disk : D → View) (J : Type 0) (base : State) (last : FlusherView D) (speaker : Speaker) (view : SessionView)
    (passed : Passed I O) (unread before after : Option (List Byte)) where
  -- the session of this station
  abbrev At : SessionView → AtSession
  At v = record { station = speaker.station; view = v }

  -- each reply was received, and all that was received was durable before it was sent
  replies_durable : (texts : List (List Byte)) (given : List (Answer Global)) → Dialogue (of_session J base speaker.orders) speaker 0 (At new_view) texts given (At view) →
      AllByRecursion (WasDurable disk base last) view.received → AreRepliedTo (IsReplyDurable disk base last view.received) speaker texts given
  replies_durable texts given each all =
      replies_received J base (λ x. Contains view.received x × WasDurable disk base last x) (IsReplyDurable disk base last view.received) (λ x c r is so. (x, so.0, is.0, is.1, so.1)) speaker
      view texts given each (within (WasDurable disk base last) view.received view.received (λ x c. c) all)

  module _ (gave : GaveFirst unread (read_by (reader_events passed))) (taken : HasTaken before (writer_events passed) after) (only : OnlyAnswers (writer_events passed))
      (all : AllByRecursion (WasDurable disk base last) view.received) where
    -- all lines are answered
    of_all : (ran : Ran) → TellsAll Global (of_session J base speaker.orders) speaker (At new_view) (At view) (read_by (reader_events passed)) (writer_events passed) ran →
        IsWrittenAfter disk J base last speaker view passed unread before after
    of_all ran told = record {
      gave = gave;
      done = lines (read_by (reader_events passed));
      left = [];
      first = sym (append-nil (lines (read_by (reader_events passed))));
      answers = told.0.answers;
      each = told.0.each;
      taken = taken;
      only = only;
      missing = [];
      texts_are = sym told.0.written ∙ sym told.2 ∙ sym (append-nil (answered_by (writer_events passed)));
      durable = replies_durable (lines (read_by (reader_events passed))) told.0.answers told.0.each all;
    }

    -- some are
    of_some : TellsSome Global (of_session J base speaker.orders) speaker (At new_view) (At view) (read_by (reader_events passed))
        (writer_events passed) → IsWrittenAfter disk J base last speaker view passed unread before after
    of_some told = record {
      gave = gave;
      done = told.0.done;
      left = told.0.left;
      first = told.0.all;
      answers = told.0.answered ++ told.0.last;
      each = told.0.each;
      taken = taken;
      only = only;
      missing = told.1;
      texts_are = told.2;
      durable = replies_durable told.0.done (told.0.answered ++ told.0.last) told.0.each all;
    }

  pub written_after : (ran : Result Ran RunFault) → IsToldOf J base speaker unread before passed new_view view after ran → AllByRecursion (WasDurable disk base last) view.received →
      IsWrittenAfter disk J base last speaker view passed unread before after
  written_after (Ok ran) told all = of_all told.0 told.1 told.2.0 all ran told.2.1
  written_after (Err fault) told all = of_some told.0 told.1 told.2.0 all told.2.2
