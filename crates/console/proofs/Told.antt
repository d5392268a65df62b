-- What passes by the writer of a run, a part after another.
use Rattle.std.proofs.Common.{◌≡◌, ℕ, ◌+◌, ◌<◌, ◌≤◌, List, [], ◌∷◌, ◌++◌, length, take, drop, refl, sym, ◌∙◌, ap, subst, arith, append_assoc, length-append, inl, inr, Option, Result, Some, Ok, Err}
use Rattle.std.specs.Prelude.{IfErr, IfOk, IsErrOf, OnErr, OnOk}
use Rattle.std.specs.List.{list_any}
use Rattle.std.specs.Str.Lines.{lines}
use Rattle.std.proofs.lemmas.List.{append-nil, take-append-drop}
use Rattle.std.proofs.lemmas.List.Concat.{flat_map-append}
use Rattle.std.proofs.lemmas.Result.{IfOk-weaker, on_err_weaker}
use Rattle.console.specs.declared.running.Ran.{Ran}
use Rattle.console.specs.declared.running.RunFault.{RunFault}
use Rattle.console.specs.declared.running.RunFault.TheVariants as fault
use Rattle.console.specs.declared.running.RunFault.TheVariants.{Write}
use Rattle.console.specs.declared.answer.Answer.{Answer}
use Rattle.console.specs.Answer.{text, texts, is_trouble}
use Rattle.desk.specs.Rules.{Rules}
use Rattle.console.specs.Dialogue.{Dialogue}
use Rattle.console.specs.Reading.{Speaker}
use Rattle.console.specs.Events.{Event, Read, ReadFailed, Answered, Wrote, WriteFailed, bytes_read, text_answered, bytes_written, read_by}
use Rattle.console.specs.Events.{answered_by, written_by, read_failures, write_failures, OnlyAnswers}
use Rattle.console.specs.Failures.{failures_reported}
use Rattle.console.specs.Told.{EndsFor, EndsSince, GaveFirst, HasTaken, IsTold, Streams, Tells, TellsBy, TellsWhole, TellsWholeSince, reader_events, writer_events}
use Rattle.console.specs.declared.passed.Passed.{Passed}
use Rattle.console.specs.Runs.{Start, HasRun}
use Rattle.console.specs.Inside.Passing.{Follows, Leaves, Passes, PassesPart, Sent}
use Rattle.console.specs.Inside.Feed.{HasCalled, HasEnded, IsGoing, Reached}
use Rattle.console.proofs.Answering.{never_memory, never_read}

-- ---- only what waits is written

leaves_on : (p q r : List ℕ) (first second : List Event) → Leaves p first q → Leaves q second r → Leaves p (first ++ second) r
leaves_on p q r [] second is also = subst (λ (w : List ℕ). Leaves w second r) is also
leaves_on p q r (Read bytes ∷ first) second is also = leaves_on p q r first second is also
leaves_on p q r (ReadFailed ∷ first) second is also = leaves_on p q r first second is also
leaves_on p q r (Answered text ∷ first) second is also = leaves_on (p ++ text) q r first second is also
leaves_on p q r (Wrote bytes ∷ first) second is also = (is.0, is.1, leaves_on is.0 q r first second is.2 also)
leaves_on p q r (WriteFailed ∷ first) second is also = leaves_on p q r first second is also

-- one write more, and what is written and waits
wrote_one : (p bytes rest answered written left : List ℕ) → p ≡ bytes ++ rest → rest ++ answered ≡ written ++ left → p ++ answered ≡ (bytes ++ written) ++ left
wrote_one p bytes rest answered written left is also =
    ap (λ w. w ++ answered) is ∙ append_assoc bytes rest answered ∙ ap (λ w. bytes ++ w) also ∙ sym (append_assoc bytes written left)

-- what waited and what was answered is what was written and what is left
balance : (p r : List ℕ) (events : List Event) → Leaves p events r → p ++ answered_by events ≡ written_by events ++ r
balance p r [] is = append-nil p ∙ sym is
balance p r (Read bytes ∷ events) is = balance p r events is
balance p r (ReadFailed ∷ events) is = balance p r events is
balance p r (Answered text ∷ events) is = sym (append_assoc p text (answered_by events)) ∙ balance (p ++ text) r events is
balance p r (Wrote bytes ∷ events) is = wrote_one p bytes is.0 (answered_by events) (written_by events) r is.1 (balance is.0 r events is.2)
balance p r (WriteFailed ∷ events) is = balance p r events is

-- so it is at each moment
at_moment : (p r : List ℕ) (before after : List Event) → Leaves p (before ++ after) r → (waiting : List ℕ) × (p ++ answered_by before ≡ written_by before ++ waiting)
at_moment p r [] after is = (p, append-nil p)
at_moment p r (Read bytes ∷ before) after is = at_moment p r before after is
at_moment p r (ReadFailed ∷ before) after is = at_moment p r before after is
at_moment p r (Answered text ∷ before) after is =
    let more = at_moment (p ++ text) r before after is in
    (more.0, sym (append_assoc p text (answered_by before)) ∙ more.1)
at_moment p r (Wrote bytes ∷ before) after is =
    let more = at_moment is.0 r before after is.2 in
    (more.0, wrote_one p bytes is.0 (answered_by before) (written_by before) more.0 is.1 more.1)
at_moment p r (WriteFailed ∷ before) after is = at_moment p r before after is

only_answers : (r : List ℕ) (events : List Event) → Leaves [] events r → OnlyAnswers events
only_answers r events is before after parts = at_moment [] r before after (subst (λ (all : List Event). Leaves [] all r) parts is)

-- ---- failures

-- failures of the reader add up
pub read_failures-append : (first second : List Event) → read_failures (first ++ second) ≡ read_failures first + read_failures second
read_failures-append [] second = omega arith
read_failures-append (Read bytes ∷ first) second = read_failures-append first second
read_failures-append (ReadFailed ∷ first) second = omega (arith, read_failures-append first second)
read_failures-append (Answered text ∷ first) second = read_failures-append first second
read_failures-append (Wrote bytes ∷ first) second = read_failures-append first second
read_failures-append (WriteFailed ∷ first) second = read_failures-append first second

-- so do those of the writer
pub write_failures-append : (first second : List Event) → write_failures (first ++ second) ≡ write_failures first + write_failures second
write_failures-append [] second = omega arith
write_failures-append (Read bytes ∷ first) second = write_failures-append first second
write_failures-append (ReadFailed ∷ first) second = write_failures-append first second
write_failures-append (Answered text ∷ first) second = write_failures-append first second
write_failures-append (Wrote bytes ∷ first) second = write_failures-append first second
write_failures-append (WriteFailed ∷ first) second = omega (arith, write_failures-append first second)

-- ---- from one moment to another

-- nothing passes
pub nothing_passes : (old new : Sent) (waiting : List ℕ) → new.events ≡ old.events → new.failures ≡ old.failures → ((held : List ℕ) → old.bytes ≡ Some held → new.bytes ≡ Some held) →
    Passes old new waiting [] waiting
nothing_passes old new waiting same none kept = record {
  events = [];
  follows = (same ∙ sym (append-nil old.events), λ held known. kept held known ∙ ap Some (sym (append-nil held)), omega (arith, none));
  answers = refl;
  only = refl;
}

-- from a moment to itself
pub still_passes : (now : Sent) (waiting : List ℕ) → Passes now now waiting [] waiting
still_passes now waiting = nothing_passes now now waiting refl refl (λ held known. known)

-- the writer fails, and what waits is left
pub failure_passes : (old new : Sent) (waiting : List ℕ) → new.events ≡ old.events ++ WriteFailed ∷ [] → new.failures ≡ old.failures + 1 →
    ((held : List ℕ) → old.bytes ≡ Some held → new.bytes ≡ Some held) → Passes old new waiting [] waiting
failure_passes old new waiting one more kept = record {
  events = WriteFailed ∷ [];
  follows = (one, λ held known. kept held known ∙ ap Some (sym (append-nil held)), omega (arith, more));
  answers = refl;
  only = refl;
}

-- a call that failed is one failure
pub failed_once : (T : Type 0) (e : RunFault) (old new : ℕ) → e ≡ Write → new ≡ old + failures_reported {T = T} (Err e) → new ≡ old + 1
failed_once T e old new is counted = counted ∙ ap (λ (f : RunFault). old + failures_reported {T = T} (Err f)) is

-- a flush
pub flush_passes : {T : Type 0} (r : Result T RunFault) (old new : Sent) (waiting : List ℕ) → OnOk r (new.events ≡ old.events) → new.failures ≡ old.failures + failures_reported r →
    ((held : List ℕ) → old.bytes ≡ Some held → new.bytes ≡ Some held) → OnOk r (Passes old new waiting [] waiting)
flush_passes (Ok x) old new waiting same counted kept = nothing_passes old new waiting same (omega (arith, counted)) kept
flush_passes (Err e) old new waiting same counted kept = tt

-- one that fails
pub flush_fails : {T : Type 0} (r : Result T RunFault) (old new : Sent) (waiting : List ℕ) → OnErr r (new.events ≡ old.events ++ WriteFailed ∷ []) → IfErr r (λ e. e ≡ Write) →
    new.failures ≡ old.failures + failures_reported r → ((held : List ℕ) → old.bytes ≡ Some held → new.bytes ≡ Some held) → OnErr r (Passes old new waiting [] waiting)
flush_fails (Ok x) old new waiting one is counted kept = tt
flush_fails {T = T} (Err e) old new waiting one is counted kept = failure_passes old new waiting one (failed_once T e old.failures new.failures is counted) kept

-- an answer is given
pub answer_passes : (old new : Sent) (waiting text : List ℕ) → new.events ≡ old.events ++ Answered text ∷ [] → new.failures ≡ old.failures →
    new.bytes ≡ old.bytes → Passes old new waiting text (waiting ++ text)
answer_passes old new waiting text one none same = record {
  events = Answered text ∷ [];
  follows = (one, λ held known. same ∙ known ∙ ap Some (sym (append-nil held)), omega (arith, none));
  answers = append-nil text;
  only = refl;
}

-- a prefix of what waits is written
pub write_passes : (old new : Sent) (waiting : List ℕ) (n : ℕ) → new.events ≡ old.events ++ Wrote (take n waiting) ∷ [] → new.failures ≡ old.failures →
    ((held : List ℕ) → old.bytes ≡ Some held → new.bytes ≡ Some (held ++ take n waiting)) → Passes old new waiting [] (drop n waiting)
write_passes old new waiting n one none kept = record {
  events = Wrote (take n waiting) ∷ [];
  follows = (one, λ held known. kept held known ∙ ap (λ more. Some (held ++ more)) (sym (append-nil (take n waiting))), omega (arith, none));
  answers = refl;
  only = (drop n waiting, sym (take-append-drop n waiting), refl);
}

-- one part after another
pub passes_on : (old mid new : Sent) (p x q y r : List ℕ) → Passes old mid p x q → Passes mid new q y r → Passes old new p (x ++ y) r
passes_on old mid new p x q y r first second = record {
  events = first.events ++ second.events;
  follows = (
    second.follows.0 ∙ ap (λ events. events ++ second.events) first.follows.0 ∙ append_assoc old.events first.events second.events,
    λ held known. second.follows.1 (held ++ written_by first.events) (first.follows.1 held known)
        ∙ ap Some (append_assoc held (written_by first.events) (written_by second.events)
        ∙ ap (λ more. held ++ more) (sym (flat_map-append bytes_written first.events second.events))),
    omega (arith, first.follows.2, second.follows.2, write_failures-append first.events second.events),
  );
  answers = flat_map-append text_answered first.events second.events ∙ (λ j. first.answers j ++ second.answers j);
  only = leaves_on p q r first.events second.events first.only second.only;
}

-- by other names for what waits, what is answered and what is left
pub passes_by : (old new : Sent) (p x q p' x' q' : List ℕ) → p ≡ p' → x ≡ x' → q ≡ q' → Passes old new p x q → Passes old new p' x' q'
passes_by old new p x q p' x' q' waits answers leaves so =
    subst (λ (w : List ℕ × (List ℕ × List ℕ)). Passes old new w.0 w.1.0 w.1.1) (λ j. (waits j, (answers j, leaves j))) so

-- the writer failed: what passed before, and the answers that come after
pub part_passes : (old mid new : Sent) (made page left total more : List ℕ) → Passes old mid [] made page → Passes mid new page [] left → total ≡ made ++ more → PassesPart old new total
part_passes old mid new made page left total more first second whole =
    (made, more, left, whole, passes_by old new [] (made ++ []) left [] made left refl (append-nil made) refl (passes_on old mid new [] made page [] left first second))

-- ---- the end of a run

module _ {A W : Type 0} (rules : Rules A W) (start : Start W) (begun : Sent) where
  -- every line is answered, and nothing is left
  pub told_all : (input : List ℕ) (now : Sent) (t : W) (ran : Ran) (answers : List (Answer A)) → Dialogue rules start.speaker 0 start.world (lines input) answers t →
      ran.troubled ≡ list_any is_trouble answers → ran.lines ≡ length (lines input) → Passes begun now [] (texts answers) [] →
      HasEnded rules start begun input now t (Ok ran)
  told_all input now t ran answers each troubled counts passed =
      let written : answered_by passed.events ≡ written_by passed.events = balance [] [] passed.events passed.only ∙ append-nil (written_by passed.events) in (
        passed.events,
        passed.follows,
        (
          only_answers [] passed.events passed.only,
          (record { answers = answers; each = each; written = sym written ∙ passed.answers; trouble = troubled }, counts, written),
          tt,
        ),
      )

  -- the last answers are given, or some of them, and some of their text may be left
  pub told_some : (input : List ℕ) (mid now : Sent) (t : W) (fault : RunFault) (done left : List (List ℕ)) (answered last : List (Answer A)) (made missing rest : List ℕ) →
      lines input ≡ done ++ left → Dialogue rules start.speaker 0 start.world done (answered ++ last) t → length last ≤ 64 → texts last ≡ made ++ missing →
      Passes begun mid [] (texts answered) [] → Passes mid now [] made rest →
      HasEnded rules start begun input now t (Err fault)
  unfolding passes_on
  told_some input mid now t fault done left answered last made missing rest all each few whole first second =
      let both = passes_on begun mid now [] (texts answered) [] made rest first second in
      let before : written_by first.events ≡ texts answered = sym (append-nil (written_by first.events)) ∙ sym (balance [] [] first.events first.only) ∙ first.answers in
      let after : made ≡ written_by second.events ++ rest = sym second.answers ∙ balance [] rest second.events second.only in (
        both.events,
        both.follows,
        (
          only_answers rest both.events both.only,
          tt,
          (
            record {
              done = done;
              left = left;
              answered = answered;
              last = last;
              part = written_by second.events;
              missing = rest ++ missing;
              all = all;
              each = each;
              few = few;
              prefix = whole ∙ ap (λ l. l ++ missing) after ∙ append_assoc (written_by second.events) rest missing;
              written = flat_map-append bytes_written first.events second.events ∙ ap (λ l. l ++ written_by second.events) before;
            },
            missing,
            flat_map-append text answered last ∙ ap (λ l. texts answered ++ l) whole ∙ sym (append_assoc (texts answered) made missing) ∙ ap (λ l. l ++ missing) (sym both.answers),
          ),
        ),
      )

  -- by other names for the input and the result
  pub told_by : (input input' : List ℕ) (now : Sent) (t : W) (r r' : Result Ran RunFault) → input ≡ input' → r ≡ r' →
      HasEnded rules start begun input now t r → HasEnded rules start begun input' now t r'
  told_by input input' now t r r' same ends so = subst (λ (q : List ℕ × Result Ran RunFault). HasEnded rules start begun q.0 now t q.1) (λ j. (same j, ends j)) so

  -- if the bytes of the writer are known
  pub has_run : (input held : List ℕ) (now : Sent) (t : W) (r : Result Ran RunFault) → begun.bytes ≡ Some held → HasEnded rules start begun input now t r →
      HasRun A rules start (record { result = r; world = t; written = now.bytes }) input held
  has_run input held now t r known so = (
    written_by so.0,
    so.1.1 held known,
    IfOk-weaker r _ _ (λ ran well. (well.0, well.1)) so.2.1,
    on_err_weaker r (λ short. short.0) so.2.2,
  )

-- what the reader gave
pub read_more : (old new : List Event) (base taken bytes : List ℕ) → new ≡ old ++ Read bytes ∷ [] → read_by old ≡ base ++ taken → read_by new ≡ base ++ (taken ++ bytes)
read_more old new base taken bytes one so =
    ap read_by one ∙ flat_map-append bytes_read old (Read bytes ∷ []) ∙ (λ j. so j ++ append-nil bytes j) ∙ append_assoc base taken bytes

-- nothing where it failed
pub read_failed : (old new : List Event) → new ≡ old ++ ReadFailed ∷ [] → read_by new ≡ read_by old
read_failed old new one = ap read_by one ∙ flat_map-append bytes_read old (ReadFailed ∷ []) ∙ append-nil (read_by old)

pub told_of : {A W : Type 0} (rules : Rules A W) (start : Start W) (begun now : Sent) (t : W) (r : Result Ran RunFault) (base given all : List ℕ) (left : Option (List ℕ)) →
    all ≡ base ++ given → GaveFirst start.unread given → HasEnded rules start begun given now t r →
    Tells A rules start.speaker start.world t (record { read = base; unread = start.unread; passed = begun.events; held = begun.bytes })
    (record { read = all; unread = left; passed = now.events; held = now.bytes }) r
told_of rules start begun now t r base given all left is first so = (given, so.0, is, first, so.1.0, so.1.1, so.2)

-- between two lines all that was read to its last line feed is answered
pub told_whole : {A W : Type 0} (rules : Rules A W) (start : Start W) (begun : Sent) (taken : List ℕ) (now : Reached A W) (base all : List ℕ) (left : Option (List ℕ)) →
    all ≡ base ++ taken → IsGoing rules start begun taken now →
    TellsWholeSince A rules start.speaker start.world now.world (record { read = base; unread = start.unread; passed = begun.events; held = begun.bytes })
    (record { read = all; unread = left; passed = now.written.events; held = now.written.bytes })
told_whole rules start begun taken now base all left is i =
    let events = i.passed.events in
    let given : answered_by events ≡ written_by events = balance [] [] events i.passed.only ∙ append-nil (written_by events) in (
      taken,
      events,
      is,
      i.passed.follows.0,
      record {
        done = i.done;
        line = i.line;
        answers = i.answers;
        no_end = i.no_end;
        split = i.split;
        each = i.each;
        written = sym given ∙ i.passed.answers;
        given = given;
      },
    )

-- ---- why a run ended

-- one more call of the reader
pub called_more : (base calls old new : List Event) (x : Event) → new ≡ old ++ x ∷ [] → old ≡ base ++ calls → new ≡ base ++ (calls ++ x ∷ [])
called_more base calls old new x one so = one ∙ ap (λ l. l ++ x ∷ []) so ∙ append_assoc base calls (x ∷ [])

-- it gave bytes
pub has_called : (base old new : List Event) (bytes : List ℕ) (count more : ℕ) → new ≡ old ++ Read bytes ∷ [] → more ≡ count + 1 → HasCalled base old count → HasCalled base new more
has_called base old new bytes count more one next so = record {
  calls = so.calls ++ Read bytes ∷ [];
  follows = called_more base so.calls old new (Read bytes) one so.follows;
  counted = omega (arith, length-append so.calls (Read bytes ∷ []), so.counted, next);
  sound = omega (arith, read_failures-append so.calls (Read bytes ∷ []), so.sound);
}

module _ (turns : ℕ) (base old : List Event) (count : ℕ) (so : HasCalled base old count) (begun now : Sent) (events : List Event) (follows : Follows begun events now) where
  -- the failures of the writer that are noted are those that are reported
  reported : (r : Result Ran RunFault) → now.failures ≡ begun.failures + failures_reported r → write_failures events ≡ failures_reported r
  reported r counted = omega (arith, counted, follows.2)

  -- the reader failed
  pub ends_failed : (new : List Event) (e : RunFault) → new ≡ old ++ ReadFailed ∷ [] → count < turns → e ≡ fault.Read →
      now.failures ≡ begun.failures → EndsSince turns base new begun.events now.events (Err e)
  ends_failed new e one some is none = subst (λ (f : RunFault). EndsSince turns base new begun.events now.events (Err f)) (sym is) (
    so.calls ++ ReadFailed ∷ [],
    events,
    called_more base so.calls old new ReadFailed one so.follows,
    follows.0,
    record {
      few = omega (arith, length-append so.calls (ReadFailed ∷ []), so.counted, some);
      whole = tt;
      read = λ failed. inl (so.calls, refl, so.sound);
      sound = λ other. absurd (other refl);
      write = omega (arith, none, follows.2);
      memory = λ out. absurd cc;
    },
  )

  -- it was called as often as it may be
  pub ends_out : count ≡ turns → now.failures ≡ begun.failures → EndsSince turns base old begun.events now.events (Err fault.Read)
  ends_out all none = (
    so.calls,
    events,
    so.follows,
    follows.0,
    record {
      few = omega (arith, so.counted, all);
      whole = tt;
      read = λ failed. inr (so.counted ∙ all, so.sound);
      sound = λ other. absurd (other refl);
      write = omega (arith, none, follows.2);
      memory = λ out. absurd cc;
    },
  )

  -- it gave bytes, or the end if the run came to it; the writer may have failed
  pub ends_read : (new : List Event) (bytes : List ℕ) (r : Result Ran RunFault) → new ≡ old ++ Read bytes ∷ [] → count < turns → IfOk r (λ ran. bytes ≡ []) → IfErr r (λ e. e ≡ Write) →
      now.failures ≡ begun.failures + failures_reported r → EndsSince turns base new begun.events now.events r
  ends_read new bytes r one some end stops counted = (
    so.calls ++ Read bytes ∷ [],
    events,
    called_more base so.calls old new (Read bytes) one so.follows,
    follows.0,
    record {
      few = omega (arith, length-append so.calls (Read bytes ∷ []), so.counted, some);
      whole = IfOk-weaker r _ _ (λ ran none. (so.calls, ap (λ l. so.calls ++ Read l ∷ []) none)) end;
      read = λ failed. absurd (never_read r stops failed);
      sound = λ other. omega (arith, read_failures-append so.calls (Read bytes ∷ []), so.sound);
      write = reported r counted;
      memory = λ out. absurd (never_memory r stops out);
    },
  )

-- memory ran out before the first call: nothing passed
pub ends_without : (turns : ℕ) → EndsFor turns [] [] (Err fault.NoMemory)
ends_without turns = record { few = omega arith; whole = tt; read = λ failed. absurd cc; sound = λ other. refl; write = refl; memory = λ out. (refl, refl) }

pub ends_at_once : (turns : ℕ) (called passed : List Event) → EndsSince turns called called passed passed (Err fault.NoMemory)
ends_at_once turns called passed = (
  [],
  [],
  sym (append-nil called),
  sym (append-nil passed),
  ends_without turns,
)

-- why a run ended in which this passed from the beginning
pub ended_of : {I O : Type 0} (passed : Passed I O) (turns : ℕ) (called called_now given given_now : List Event) (r : Result Ran RunFault) → called ≡ [] → given ≡ [] →
    called_now ≡ reader_events passed → given_now ≡ writer_events passed → EndsSince turns called called_now given given_now r → EndsFor turns (reader_events passed) (writer_events passed) r
ended_of passed turns called called_now given given_now r uncalled ungiven calls gives so =
    subst (λ (q : List Event × List Event). EndsFor turns q.0 q.1 r)
    (λ i. ((sym (so.2 ∙ ap (λ l. l ++ so.0) uncalled) ∙ calls) i, (sym (so.3 ∙ ap (λ l. l ++ so.1) ungiven) ∙ gives) i)) so.4

-- what is told of a run before which nothing was read and nothing had passed
pub told_since : {A W : Type 0} (rules : Rules A W) (speaker : Speaker) (s t : W) (old new : Streams) (calls events : List Event) (r : Result Ran RunFault) →
    {unread written now : Option (List ℕ)} → old.read ≡ [] → old.passed ≡ [] → new.read ≡ read_by calls → new.passed ≡ events →
    old.unread ≡ unread → old.held ≡ written → new.held ≡ now → Tells A rules speaker s t old new r →
    (IsErrOf r fault.Read → TellsWholeSince A rules speaker s t old new) → TellsBy A rules speaker unread written s t now r calls events
told_since {A = A} rules speaker s t old new calls events r unread_yet unpassed_yet reads passes gives holds leaves told whole =
    let given : told.0 ≡ read_by calls = sym (told.2 ∙ ap (λ l. l ++ told.0) unread_yet) ∙ reads in
    let passed : told.1 ≡ events = sym (told.4 ∙ ap (λ l. l ++ told.1) unpassed_yet) ∙ passes in (
      subst (λ (q : Option (List ℕ) × List ℕ). GaveFirst q.0 q.1) (λ i. (gives i, given i)) told.3,
      subst (λ (q : Option (List ℕ) × List Event × Option (List ℕ)). HasTaken q.0 q.1 q.2) (λ i. (holds i, passed i, leaves i)) told.5,
      subst (λ (q : List ℕ × List Event). IsTold A rules speaker s t q.0 q.1 r) (λ i. (given i, passed i)) told.6,
      λ failed.
          let all = whole failed in
          subst (λ (q : List ℕ × List Event). TellsWhole A rules speaker s t q.0 q.1)
          (λ i. ((sym (all.2 ∙ ap (λ l. l ++ all.0) unread_yet) ∙ reads) i, (sym (all.3 ∙ ap (λ l. l ++ all.1) unpassed_yet) ∙ passes) i)) all.4,
    )
