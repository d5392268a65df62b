-- How far a run has come, a byte at a time.
use Rattle.std.proofs.Common.{◌≡◌, ℕ, ◌+◌, ◌<◌, Bool, false, List, [], ◌∷◌, ◌++◌, ◌||◌, length, refl, sym, ◌∙◌, ap, subst, arith, append_assoc, Ok, Err}
use Rattle.std.proofs.lemmas.List.{append-nil, length_push}
use Rattle.std.proofs.lemmas.List.Elements.{All-append, All-nil}
use Rattle.std.specs.Prelude.{All, ◌==◌}
use Rattle.std.specs.Str.Lines.{lines, strip_carriage_return}
use Rattle.console.specs.declared.progress.LineProgress.{LineProgress}
use Rattle.console.specs.declared.running.Ran.{Ran}
use Rattle.console.specs.declared.running.RunFault.{RunFault}
use Rattle.console.specs.declared.serving.LineRun.{LineRun}
use Rattle.console.specs.declared.answer.Answer.{Answer}
use Rattle.console.specs.Answer.{text, texts, is_trouble}
use Rattle.desk.specs.Rules.{Rules}
use Rattle.console.specs.Dialogue.{Answers, Dialogue}
use Rattle.console.specs.Runs.{Start}
use Rattle.console.specs.Inside.Feed.{HasEnded, Reached, IsGoing, CountsAnswer, IsSameRun, Sends, SendsPart}
use Rattle.console.specs.Inside.Passing.{Passes, Sent}
use Rattle.console.specs.Inside.Current.{HasNoEnd, Holds, IsGivenFor}
use Rattle.console.specs.Inside.Given.{IsTextFor}
use Rattle.console.proofs.Answering.{is_given_for}
use Rattle.console.proofs.Splits.{is_feed, line_ended, lines_last}
use Rattle.console.proofs.Talk.{texts_more, trouble_more, dialogue_more}
use Rattle.console.proofs.Told.{passes_by, passes_on, still_passes, told_all, told_some}
use Rattle.console.specs.Reading.{Speaker}

-- the lines of a text that doesn't end in a line feed
pub last_split : (taken line : List ℕ) (done : List (List ℕ)) → 0 < length line → All (λ b. is_feed b ≡ false) line → lines (taken ++ []) ≡ done ++ lines (line ++ []) → lines taken ≡ done ++ line ∷ []
last_split taken [] done some none split = absurd (omega (arith, some))
last_split taken (b ∷ line) done some none split = ap lines (sym (append-nil taken)) ∙ split ∙ ap (λ l. done ++ lines l) (append-nil (b ∷ line)) ∙ ap (λ ls. done ++ ls) (lines_last b line none)

-- the text that is held for an answer is given and written
pub all_sent : {A : Type 0} (n : ℕ) (a : Answer A) (bytes given sent : List ℕ) (was troubled : Bool) (old mid new : Sent) →
    IsTextFor n a bytes troubled → given ≡ bytes → sent ≡ bytes → Passes old mid [] given ([] ++ given) → Passes mid new sent [] [] →
    (held : Answer A) × IsGivenFor n a held × Passes old new [] (text held) [] × ((was || troubled) ≡ (was || is_trouble held))
all_sent n a bytes given sent was troubled old mid new held is also first second =
    let whole = passes_on old mid new [] given sent [] [] (passes_by old mid [] given given [] given sent refl refl (is ∙ sym also) first) second in
    (held.0, held.1, passes_by old new [] (given ++ []) [] [] (text held.0) [] refl (append-nil given ∙ is ∙ held.2) refl whole, ap (λ b. was || b) held.3)

-- some of it is left
pub part_sent : {A : Type 0} (n : ℕ) (a : Answer A) (bytes given sent left : List ℕ) (troubled : Bool) (old mid new : Sent) →
    IsTextFor n a bytes troubled → given ≡ bytes → sent ≡ bytes → Passes old mid [] given ([] ++ given) → Passes mid new sent [] left →
    (held : Answer A) × (rest : List ℕ) × IsGivenFor n a held × Passes old new [] (text held) rest
part_sent n a bytes given sent left troubled old mid new held is also first second =
    let whole = passes_on old mid new [] given sent [] left (passes_by old mid [] given given [] given sent refl refl (is ∙ sym also) first) second in
    (held.0, left, held.1, passes_by old new [] (given ++ []) left [] (text held.0) left refl (append-nil given ∙ is ∙ held.2) refl whole)

module _ {A W : Type 0} (rules : Rules A W) (start : Start W) (begun : Sent) where
  -- at the start nothing was taken
  pub going_start : (now : Reached A W) → now.speaker ≡ start.speaker → now.world ≡ start.world → Passes begun now.written [] [] [] →
      now.progress.troubled ≡ false → now.progress.lines ≡ 0 → Holds now.progress.current.bytes.items now.progress.current.long [] → IsGoing rules start begun [] now
  going_start now whose same still calm none empty = record {
    done = [];
    answers = [];
    line = [];
    speaker = whose;
    split = λ rest. refl;
    no_end = All-nil (λ b. (b == 10) ≡ false);
    each = same;
    passed = still;
    trouble = calm;
    counted = none;
    holds = empty;
  }

  -- the dialogue so far and the answer to one more line
  one_more : (taken : List ℕ) (now : Reached A W) (line : List ℕ) (a : Answer A) (t : W) (i : IsGoing rules start begun taken now) →
      Answers rules now.speaker (now.progress.lines + 1) now.world line a t →
      Dialogue rules start.speaker 0 start.world (i.done ++ line ∷ []) (i.answers ++ a ∷ []) t
  one_more taken now line a t i answers = dialogue_more rules start.speaker 0 (now.progress.lines + 1) start.world i.done i.answers now.world line a t (omega (arith, i.counted)) i.each
      (subst (λ (n : Speaker). Answers rules n (now.progress.lines + 1) now.world line a t) i.speaker answers)

  -- bytes and a line feed, once the line that they end is answered
  pub going_line : (taken : List ℕ) (old new : Reached A W) (run : List ℕ) (a : Answer A) (i : IsGoing rules start begun taken old) →
      HasNoEnd run → new.speaker ≡ old.speaker → CountsAnswer old.progress a new.progress →
      Answers rules old.speaker (old.progress.lines + 1) old.world (strip_carriage_return (i.line ++ run)) a new.world →
      Passes old.written new.written [] (text a) [] →
      IsGoing rules start begun (taken ++ (run ++ 10 ∷ [])) new
  going_line taken old new run a i plain same counted answers passed = let line = strip_carriage_return (i.line ++ run) in record {
    done = i.done ++ line ∷ [];
    answers = i.answers ++ a ∷ [];
    line = [];
    speaker = same ∙ i.speaker;
    split = λ rest. line_ended taken i.line run rest i.done i.no_end plain (i.split ((run ++ 10 ∷ []) ++ rest))
        ∙ sym (append_assoc i.done (line ∷ []) (lines rest));
    no_end = All-nil (λ b. (b == 10) ≡ false);
    each = one_more taken old line a new.world i answers;
    passed = passes_by begun new.written [] (texts i.answers ++ text a) [] [] (texts (i.answers ++ a ∷ [])) [] refl (sym (texts_more i.answers a)) refl
        (passes_on begun old.written new.written [] (texts i.answers) [] (text a) [] i.passed passed);
    trouble = counted.1 ∙ ap (λ b. b || is_trouble a) i.trouble ∙ sym (trouble_more i.answers a);
    counted = counted.0 ∙ ap (λ n. n + 1) i.counted ∙ sym (length_push i.done line);
    holds = counted.2;
  }

  -- cut off between two lines
  pub short_between : (taken rest : List ℕ) (now : Reached A W) (fault : RunFault) → IsGoing rules start begun taken now →
      HasEnded rules start begun (taken ++ rest) now.written now.world (Err fault)
  short_between taken rest now fault i =
      told_some rules start begun (taken ++ rest) now.written now.written now.world fault i.done (lines (i.line ++ rest)) i.answers [] [] [] [] (i.split rest)
      (subst (λ (given : List (Answer A)). Dialogue rules start.speaker 0 start.world i.done given now.world) (sym (append-nil i.answers)) i.each)
      (omega arith) refl i.passed (still_passes now.written [])

  -- cut off within the answer to a line, of which some text is left
  pub short_within : (taken all : List ℕ) (old : Reached A W) (fault : RunFault) (new : Sent) (t : W)
      (line : List ℕ) (left : List (List ℕ)) (a : Answer A) (rest : List ℕ)
      (i : IsGoing rules start begun taken old) → lines all ≡ i.done ++ line ∷ left →
      Answers rules old.speaker (old.progress.lines + 1) old.world line a t → Passes old.written new [] (text a) rest →
      HasEnded rules start begun all new t (Err fault)
  short_within taken all old fault new t line left a rest i split answers passed =
      told_some rules start begun all old.written new t fault (i.done ++ line ∷ []) left i.answers (a ∷ []) (text a) [] rest
      (split ∙ sym (append_assoc i.done (line ∷ []) left)) (one_more taken old line a t i answers) (omega arith) refl i.passed passed

  -- the end of the text, where there is no current line
  pub ends_between : (taken : List ℕ) (now : Reached A W) (ran : Ran) (i : IsGoing rules start begun taken now) → i.line ≡ [] →
      ran.lines ≡ now.progress.lines → ran.troubled ≡ now.progress.troubled →
      HasEnded rules start begun taken now.written now.world (Ok ran)
  ends_between taken now ran i none counts troubled_is =
      let all : lines taken ≡ i.done = ap lines (sym (append-nil taken)) ∙ i.split [] ∙ ap (λ line. i.done ++ lines (line ++ [])) none ∙ append-nil i.done in
      told_all rules start begun taken now.written now.world ran i.answers
      (subst (λ (ls : List (List ℕ)). Dialogue rules start.speaker 0 start.world ls i.answers now.world) (sym all) i.each)
      (troubled_is ∙ i.trouble) (counts ∙ i.counted ∙ ap length (sym all)) i.passed

  -- the end of the text, once its last line is answered
  pub ends_within : (taken : List ℕ) (old new : Reached A W) (ran : Ran) (a : Answer A) (i : IsGoing rules start begun taken old) → 0 < length i.line →
      CountsAnswer old.progress a new.progress → ran.lines ≡ new.progress.lines → ran.troubled ≡ new.progress.troubled →
      Answers rules old.speaker (old.progress.lines + 1) old.world i.line a new.world → Passes old.written new.written [] (text a) [] →
      HasEnded rules start begun taken new.written new.world (Ok ran)
  ends_within taken old new ran a i some counted counts troubled_is answers passed =
      let all : lines taken ≡ i.done ++ i.line ∷ [] = last_split taken i.line i.done some i.no_end (i.split []) in
      told_all rules start begun taken new.written new.world ran (i.answers ++ a ∷ [])
      (subst (λ (ls : List (List ℕ)). Dialogue rules start.speaker 0 start.world ls (i.answers ++ a ∷ []) new.world) (sym all)
      (one_more taken old i.line a new.world i answers))
      (troubled_is ∙ counted.1 ∙ ap (λ b. b || is_trouble a) i.trouble ∙ sym (trouble_more i.answers a))
      (counts ∙ counted.0 ∙ ap (λ n. n + 1) i.counted ∙ sym (length_push i.done i.line) ∙ ap length (sym all))
      (passes_by begun new.written [] (texts i.answers ++ text a) [] [] (texts (i.answers ++ a ∷ [])) [] refl (sym (texts_more i.answers a)) refl
      (passes_on begun old.written new.written [] (texts i.answers) [] (text a) [] i.passed passed))

  -- the bytes before a line feed, whose answer is written
  pub goes_on : (taken : List ℕ) (old new : Reached A W) (run : List ℕ) (a : Answer A) → HasNoEnd run → new.speaker ≡ old.speaker →
      Sends old.progress old.written a new.progress new.written →
      ((line : List ℕ) → Holds old.progress.current.bytes.items old.progress.current.long line →
      Answers rules old.speaker (old.progress.lines + 1) old.world (strip_carriage_return (line ++ run)) a new.world) →
      IsGoing rules start begun taken old → IsGoing rules start begun (taken ++ (run ++ 10 ∷ [])) new
  goes_on taken old new run a plain same sent answers i =
      going_line taken old new run sent.0 i plain same sent.3
      (is_given_for rules old.speaker (old.progress.lines + 1) old.world new.world (strip_carriage_return (i.line ++ run)) a sent.0 sent.1 (answers i.line i.holds)) sent.2

  -- the same, where some of it is left
  pub stops_within : (taken rest : List ℕ) (old : Reached A W) (fault : RunFault) (new : Sent) (t : W) (run : List ℕ) (a : Answer A) → HasNoEnd run →
      SendsPart old.progress.lines old.written a new →
      ((line : List ℕ) → Holds old.progress.current.bytes.items old.progress.current.long line →
      Answers rules old.speaker (old.progress.lines + 1) old.world (strip_carriage_return (line ++ run)) a t) →
      IsGoing rules start begun taken old →
      HasEnded rules start begun (taken ++ (run ++ 10 ∷ []) ++ rest) new t (Err fault)
  stops_within taken rest old fault new t run a plain sent answers i = let line = strip_carriage_return (i.line ++ run) in
      short_within taken (taken ++ (run ++ 10 ∷ []) ++ rest) old fault new t line (lines rest) sent.0 sent.1 i
      (line_ended taken i.line run rest i.done i.no_end plain (i.split ((run ++ 10 ∷ []) ++ rest)))
      (is_given_for rules old.speaker (old.progress.lines + 1) old.world t line a sent.0 sent.2 (answers i.line i.holds)) sent.3

  -- the text ends, and the answer to its last line is written
  pub ends_well : (taken : List ℕ) (old new : Reached A W) (ran : Ran) (a : Answer A) (i : IsGoing rules start begun taken old) → 0 < length i.line →
      Sends old.progress old.written a new.progress new.written → ran.lines ≡ new.progress.lines → ran.troubled ≡ new.progress.troubled →
      Answers rules old.speaker (old.progress.lines + 1) old.world i.line a new.world →
      HasEnded rules start begun taken new.written new.world (Ok ran)
  ends_well taken old new ran a i some sent counts troubled_is answers =
      ends_within taken old new ran sent.0 i some sent.3 counts troubled_is
      (is_given_for rules old.speaker (old.progress.lines + 1) old.world new.world i.line a sent.0 sent.1 answers) sent.2

  -- the same, where some of it is left
  pub ends_short : (taken : List ℕ) (old : Reached A W) (fault : RunFault) (new : Sent) (t : W) (a : Answer A) (i : IsGoing rules start begun taken old) → 0 < length i.line →
      SendsPart old.progress.lines old.written a new → Answers rules old.speaker (old.progress.lines + 1) old.world i.line a t →
      HasEnded rules start begun taken new t (Err fault)
  ends_short taken old fault new t a i some sent answers =
      short_within taken taken old fault new t i.line [] sent.0 sent.1 i (last_split taken i.line i.done some i.no_end (i.split []))
      (is_given_for rules old.speaker (old.progress.lines + 1) old.world t i.line a sent.0 sent.2 answers) sent.3

  -- cut off before anything was done
  pub short_at_once : (input : List ℕ) (fault : RunFault) (now : Sent) → Passes begun now [] [] [] → HasEnded rules start begun input now start.world (Err fault)
  short_at_once input fault now still =
      told_some rules start begun input begun now start.world fault [] (lines input) [] [] [] [] [] refl refl (omega arith) refl
      (still_passes begun []) still

  -- bytes that end no line
  pub going_more : (taken : List ℕ) (old : Reached A W) (progress : LineProgress A) (run : List ℕ) → HasNoEnd run → progress.lines ≡ old.progress.lines → progress.troubled ≡ old.progress.troubled →
      ((line : List ℕ) → Holds old.progress.current.bytes.items old.progress.current.long line → Holds progress.current.bytes.items progress.current.long (line ++ run)) →
      IsGoing rules start begun taken old → IsGoing rules start begun (taken ++ run) (record { speaker = old.speaker; progress = progress; world = old.world; written = old.written })
  going_more taken old progress run plain counts troubled adds i = record {
    done = i.done;
    answers = i.answers;
    line = i.line ++ run;
    speaker = i.speaker;
    split = λ rest. ap lines (append_assoc taken run rest) ∙ i.split (run ++ rest) ∙ ap (λ l. i.done ++ lines l) (sym (append_assoc i.line run rest));
    no_end = All-append (λ b. (b == 10) ≡ false) i.line run i.no_end plain;
    each = i.each;
    passed = i.passed;
    trouble = troubled ∙ i.trouble;
    counted = counts ∙ i.counted;
    holds = adds i.line i.holds;
  }

  -- the same, of a text that is put together otherwise
  pub going_same : (taken other : List ℕ) (now : Reached A W) → taken ≡ other → IsGoing rules start begun taken now → IsGoing rules start begun other now
  going_same taken other now same i = subst (λ (text : List ℕ). IsGoing rules start begun text now) same i

-- what stays the run that it was at two calls stays so at both
pub still_same : {A W G D : Type 0} (old mid new : LineRun A W G D) → IsSameRun old mid → IsSameRun mid new → IsSameRun old new
still_same old mid new was kept = record {
  terms = kept.terms ∙ was.terms;
  progress = kept.progress ∙ was.progress;
  output = kept.output ∙ was.output;
  desk = kept.desk ∙ was.desk;
  writer = kept.writer ∙ was.writer;
  failures = kept.failures ∙ was.failures;
}
