-- Lines that are done and answered together.
use Rattle.std.proofs.Common.{◌≡◌, inl, ℕ, zero, suc, ◌+◌, ◌-◌, ◌<◌, ◌≤◌, ◌||◌, List, [], ◌∷◌, ◌++◌, length, take, drop, get_or, refl, true}
use Rattle.std.proofs.Common.{true≢false, sym, ◌∙◌, ap, subst, arith, append_assoc, length-append, Bool, false, Result, Ok, Err}
use Rattle.std.proofs.lemmas.List.Concat.{flat_map-append}
use Rattle.std.proofs.lemmas.List.Elements.{All-nil}
use Rattle.std.proofs.lemmas.List.Folds.{list_any-append}
use Rattle.std.specs.Prelude.{◌==◌}
use Rattle.std.specs.List.{list_any}
use Rattle.std.specs.Str.Lines.{lines, strip_carriage_return}
use Rattle.centre_core.specs.declared.command.Command.{Command}
use Rattle.centre_core.specs.declared.reply.Reply.{Reply}
use Rattle.desk.specs.declared.outage.Outage.{Outage}
use Rattle.desk.specs.Rules.{AreApplied, Rules}
use Rattle.console.specs.declared.line.Line.{Line}
use Rattle.console.specs.declared.line.Line.TheVariants as line
use Rattle.console.specs.declared.answer.Answer.{Answer}
use Rattle.console.specs.declared.running.RunFault.{RunFault}
use Rattle.console.specs.Answer.{text, texts, is_trouble}
use Rattle.console.specs.Reading.{Speaker, heard}
use Rattle.console.specs.Dialogue.{Answers, AnswersReading, Dialogue}
use Rattle.console.specs.Runs.{Start}
use Rattle.console.specs.Inside.Current.{HasNoEnd, Holds}
use Rattle.console.specs.Inside.Feed.{HasEnded, Reached, IsGoing}
use Rattle.console.specs.Inside.Passing.{Passes, PassesPart, Sent}
use Rattle.console.specs.Inside.Together.{AreLines, AreRead, answer_for, answers_for}
use Rattle.console.proofs.Splits.{lines_step}
use Rattle.console.proofs.Told.{passes_by, passes_on, told_some}
use Rattle.std.proofs.lemmas.List.{append-nil, length-drop, take-append-drop, take_all}
use Rattle.std.proofs.Math.Seq.{take-add}
use Rattle.std.specs.Prelude.{MatchBool}

pub when : (b : Bool) (P Q : Type 0) → MatchBool b P Q → b ≡ true → P
when true P Q h e = h
when false P Q h e = absurd (true≢false (sym e))

-- ---- places in a piece

-- the rest of a piece
abbrev pub rest_of : ℕ → List ℕ → List ℕ
rest_of at piece = take (length piece - at) (drop at piece)

pub rest_is : (at : ℕ) (piece : List ℕ) → rest_of at piece ≡ drop at piece
rest_is at piece = take_all (length piece - at) (drop at piece) (let size = length-drop at piece in omega (arith, size))

-- a piece that is taken up to a place, and the rest of it
pub to_its_end : (taken piece : List ℕ) (at : ℕ) → (taken ++ take at piece) ++ rest_of at piece ≡ taken ++ piece
to_its_end taken piece at =
    ap (λ l. (taken ++ take at piece) ++ l) (rest_is at piece) ∙ append_assoc taken (take at piece) (drop at piece) ∙ ap (λ l. taken ++ l) (take-append-drop at piece)

-- a piece that is taken up to a place, and more of it
pub further : (taken piece : List ℕ) (at n : ℕ) → (taken ++ take at piece) ++ take n (rest_of at piece) ≡ taken ++ take (at + n) piece
further taken piece at n =
    ap (λ l. (taken ++ take at piece) ++ take n l) (rest_is at piece)
    ∙ append_assoc taken (take at piece) (take n (drop at piece)) ∙ ap (λ l. taken ++ l) (sym (take-add at n piece))

-- no more of it
pub no_further : (taken piece : List ℕ) (n : ℕ) → n ≡ 0 → taken ++ take n piece ≡ taken
no_further taken piece n none = ap (λ m. taken ++ take m piece) none ∙ append-nil taken

-- all of it
pub whole : (taken piece rest : List ℕ) (at : ℕ) → ((taken ++ take at piece) ++ rest_of at piece) ++ rest ≡ (taken ++ piece) ++ rest
whole taken piece rest at =
    ap (λ l. ((taken ++ take at piece) ++ l) ++ rest) (rest_is at piece)
    ∙ ap (λ l. l ++ rest) (append_assoc taken (take at piece) (drop at piece) ∙ ap (λ l. taken ++ l) (take-append-drop at piece))

-- ---- answers to several

module _ {A : Type 0} where
  none_for : (cs : List (Command A)) → answers_for cs [] ≡ []
  none_for [] = refl
  none_for (c ∷ cs) = refl

  next_for : (cs : List (Command A)) (rs : List (Result (Reply A) Outage)) (k : ℕ) (c : Command A) (r : Result (Reply A) Outage) → k < length cs → length rs ≡ length cs →
      answers_for (take (suc k) cs) (take (suc k) rs) ≡ answers_for (take k cs) (take k rs) ++ answer_for (get_or cs k c) (get_or rs k r) ∷ []
  next_for [] rs k c r lt same = absurd (omega (arith, lt))
  next_for (d ∷ cs) [] k c r lt same = absurd (omega (arith, same))
  next_for (d ∷ cs) (q ∷ rs) zero c r lt same = refl
  next_for (d ∷ cs) (q ∷ rs) (suc k) c r lt same = ap (λ l. answer_for d q ∷ l) (next_for cs rs k c r (omega (arith, lt)) (omega (arith, same)))

  pub answers_more : (cs : List (Command A)) (rs : List (Result (Reply A) Outage)) (k : ℕ) (c : Command A) (r : Result (Reply A) Outage) →
      k < length cs → length rs ≡ length cs → c ≡ get_or cs k c → r ≡ get_or rs k r →
      answers_for (take (k + 1) cs) (take (k + 1) rs) ≡ answers_for (take k cs) (take k rs) ++ answer_for c r ∷ []
  answers_more cs rs k c r lt same here there =
      let next : k + 1 ≡ suc k = omega arith in
      ap (λ n. answers_for (take n cs) (take n rs)) next ∙ next_for cs rs k c r lt same
      ∙ (λ i. answers_for (take k cs) (take k rs) ++ answer_for (sym here i) (sym there i) ∷ [])

  pub answers_split : (k : ℕ) (cs : List (Command A)) (rs : List (Result (Reply A) Outage)) → answers_for cs rs ≡ answers_for (take k cs) (take k rs) ++ answers_for (drop k cs) (drop k rs)
  answers_split zero cs rs = refl
  answers_split (suc k) [] rs = refl
  answers_split (suc k) (c ∷ cs) [] = sym (none_for (drop k cs))
  answers_split (suc k) (c ∷ cs) (r ∷ rs) = ap (λ l. answer_for c r ∷ l) (answers_split k cs rs)

  pub as_many_replies : {W : Type 0} (rules : Rules A W) (s t : W) (cs : List (Command A)) (rs : List (Result (Reply A) Outage)) → AreApplied rules s cs rs t → length rs ≡ length cs
  as_many_replies rules s t [] [] done = refl
  as_many_replies rules s t [] (r ∷ rs) done = absurd done
  as_many_replies rules s t (c ∷ cs) [] done = absurd done
  as_many_replies rules s t (c ∷ cs) (r ∷ rs) done = ap suc (as_many_replies rules done.0 t cs rs done.2)

module _ {A W : Type 0} (rules : Rules A W) (speaker : Speaker) where
  -- the answer by what the desk returns
  one_answer : (n : ℕ) (s t : W) (given : List ℕ) (c : Command A) (r : Result (Reply A) Outage) → heard speaker given ≡ line.Apply c →
      rules.applies s c r t → Answers rules speaker n s given (answer_for c r) t
  one_answer n s t given c (Ok reply) is applies = subst (λ (l : Line A). AnswersReading rules n s l (answer_for c (Ok reply)) t) (sym is) (refl, applies)
  one_answer n s t given c (Err word) is applies = subst (λ (l : Line A). AnswersReading rules n s l (answer_for c (Err word)) t) (sym is) (refl, inl applies)

  -- those to lines that are done together
  pub answered_together : (n : ℕ) (s t : W) (given : List (List ℕ)) (cs : List (Command A)) (rs : List (Result (Reply A) Outage)) →
      AreRead speaker given cs → AreApplied rules s cs rs t → Dialogue rules speaker n s given (answers_for cs rs) t
  answered_together n s t [] [] [] is done = done
  answered_together n s t [] [] (r ∷ rs) is done = absurd done
  answered_together n s t [] (c ∷ cs) rs is done = absurd is
  answered_together n s t (l ∷ given) [] rs is done = absurd is
  answered_together n s t (l ∷ given) (c ∷ cs) [] is done = absurd done
  answered_together n s t (l ∷ given) (c ∷ cs) (r ∷ rs) is done = (done.0, one_answer (n + 1) s done.0 l c r is.0 done.1, answered_together (n + 1) done.0 t given cs rs is.1 done.2)

  -- one dialogue after another
  pub both_dialogues : (n k : ℕ) (s mid t : W) (given more : List (List ℕ)) (xs ys : List (Answer A)) → k ≡ n + length given →
      Dialogue rules speaker n s given xs mid → Dialogue rules speaker k mid more ys t → Dialogue rules speaker n s (given ++ more) (xs ++ ys) t
  both_dialogues n k s mid t [] more [] ys at first second =
      let here : k ≡ n = omega (arith, at) in
      subst (λ (q : ℕ × W). Dialogue rules speaker q.0 q.1 more ys t) (λ i. (here i, first i)) second
  both_dialogues n k s mid t [] more (x ∷ xs) ys at first second = absurd first
  both_dialogues n k s mid t (l ∷ given) more [] ys at first second = absurd first
  both_dialogues n k s mid t (l ∷ given) more (x ∷ xs) ys at first second =
      let next : k ≡ n + 1 + length given = omega (arith, at) in
      (first.0, first.1, both_dialogues (n + 1) k first.0 mid t given more xs ys next first.2 second)

module _ {A : Type 0} where
  as_many : (speaker : Speaker) (given : List (List ℕ)) (cs : List (Command A)) → AreRead speaker given cs → length given ≡ length cs
  as_many speaker [] [] is = refl
  as_many speaker [] (c ∷ cs) is = absurd is
  as_many speaker (l ∷ given) [] is = absurd is
  as_many speaker (l ∷ given) (c ∷ cs) is = ap suc (as_many speaker given cs is.1)

  pub as_many_answers : {W : Type 0} (rules : Rules A W) (s t : W) (cs : List (Command A)) (rs : List (Result (Reply A) Outage)) → AreApplied rules s cs rs t → length (answers_for cs rs) ≡ length cs
  as_many_answers rules s t [] [] done = refl
  as_many_answers rules s t [] (r ∷ rs) done = absurd done
  as_many_answers rules s t (c ∷ cs) [] done = absurd done
  as_many_answers rules s t (c ∷ cs) (r ∷ rs) done = ap suc (as_many_answers rules done.0 t cs rs done.2)

  read_more : (speaker : Speaker) (given : List (List ℕ)) (cs : List (Command A)) (l : List ℕ) (c : Command A) → AreRead speaker given cs →
      heard speaker l ≡ line.Apply c → AreRead speaker (given ++ l ∷ []) (cs ++ c ∷ [])
  read_more speaker [] [] l c is one = (one, tt)
  read_more speaker [] (d ∷ cs) l c is one = absurd is
  read_more speaker (k ∷ given) [] l c is one = absurd is
  read_more speaker (k ∷ given) (d ∷ cs) l c is one = (is.0, read_more speaker given cs l c is.1 one)

  -- no line yet
  pub no_lines : (speaker : Speaker) → AreLines {A = A} speaker [] []
  no_lines speaker = record { given = []; split = λ rest. refl; read = tt }

  -- one line more
  pub line_more : (speaker : Speaker) (bytes run : List ℕ) (cs : List (Command A)) (c : Command A) → AreLines speaker bytes cs → HasNoEnd run →
      heard speaker (strip_carriage_return run) ≡ line.Apply c → AreLines speaker (bytes ++ (run ++ 10 ∷ [])) (cs ++ c ∷ [])
  line_more speaker bytes run cs c so plain is = record {
    given = so.given ++ strip_carriage_return run ∷ [];
    split = λ rest.
        ap lines (append_assoc bytes (run ++ 10 ∷ []) rest)
        ∙ so.split ((run ++ 10 ∷ []) ++ rest)
        ∙ ap (λ l. so.given ++ lines l) (append_assoc run (10 ∷ []) rest)
        ∙ ap (λ ls. so.given ++ ls) (lines_step run rest plain)
        ∙ sym (append_assoc so.given (strip_carriage_return run ∷ []) (lines rest));
    read = read_more speaker so.given cs (strip_carriage_return run) c so.read is;
  }

module _ {A W : Type 0} (rules : Rules A W) (start : Start W) (begun : Sent) (taken bytes : List ℕ) (cs : List (Command A)) (rs : List (Result (Reply A) Outage)) where
  -- the dialogue so far and the answers to those lines
  more_answers : (old : Reached A W) (t : W) (i : IsGoing rules start begun taken old) (so : AreLines old.speaker bytes cs) → AreApplied rules old.world cs rs t →
      Dialogue rules start.speaker 0 start.world (i.done ++ so.given) (i.answers ++ answers_for cs rs) t
  more_answers old t i so done =
      let read : AreRead start.speaker so.given cs = subst (λ (n : Speaker). AreRead n so.given cs) i.speaker so.read in
      both_dialogues rules start.speaker 0 (length i.done) start.world old.world t i.done so.given i.answers (answers_for cs rs) (omega arith) i.each
      (answered_together rules start.speaker (length i.done) old.world t so.given cs rs read done)

  split_more : (old : Reached A W) (i : IsGoing rules start begun taken old) (so : AreLines old.speaker bytes cs) → i.line ≡ [] → (rest : List ℕ) →
      lines ((taken ++ bytes) ++ rest) ≡ (i.done ++ so.given) ++ lines rest
  split_more old i so none rest =
      ap lines (append_assoc taken bytes rest)
      ∙ i.split (bytes ++ rest)
      ∙ ap (λ l. i.done ++ lines (l ++ (bytes ++ rest))) none
      ∙ ap (λ ls. i.done ++ ls) (so.split rest)
      ∙ sym (append_assoc i.done so.given (lines rest))

  -- lines that were done and answered
  pub going_together : (old new : Reached A W) (i : IsGoing rules start begun taken old) → i.line ≡ [] → AreLines old.speaker bytes cs → AreApplied rules old.world cs rs new.world →
      new.speaker ≡ old.speaker → new.progress.lines ≡ old.progress.lines + length cs → new.progress.troubled ≡ (old.progress.troubled || list_any is_trouble (answers_for cs rs)) →
      Holds new.progress.current.bytes.items new.progress.current.long [] → Passes old.written new.written [] (texts (answers_for cs rs)) [] →
      IsGoing rules start begun (taken ++ bytes) new
  going_together old new i none so done same counts troubled empty passed = record {
    done = i.done ++ so.given;
    answers = i.answers ++ answers_for cs rs;
    line = [];
    speaker = same ∙ i.speaker;
    split = split_more old i so none;
    no_end = All-nil (λ b. (b == 10) ≡ false);
    each = more_answers old new.world i so done;
    passed = passes_by begun new.written [] (texts i.answers ++ texts (answers_for cs rs)) [] [] (texts (i.answers ++ answers_for cs rs)) [] refl
        (sym (flat_map-append text i.answers (answers_for cs rs))) refl
        (passes_on begun old.written new.written [] (texts i.answers) [] (texts (answers_for cs rs)) [] i.passed passed);
    trouble = troubled ∙ ap (λ b. b || list_any is_trouble (answers_for cs rs)) i.trouble ∙ sym (list_any-append is_trouble i.answers (answers_for cs rs));
    counted = counts ∙ omega (arith, i.counted, as_many old.speaker so.given cs so.read, length-append i.done so.given);
    holds = empty;
  }

  -- lines that were done; the writer failed within their answers
  pub short_together : (old : Reached A W) (fault : RunFault) (now : Sent) (t : W) (rest : List ℕ) (i : IsGoing rules start begun taken old) → i.line ≡ [] → AreLines old.speaker bytes cs →
      AreApplied rules old.world cs rs t → length cs ≤ 64 → PassesPart old.written now (texts (answers_for cs rs)) →
      HasEnded rules start begun ((taken ++ bytes) ++ rest) now t (Err fault)
  short_together old fault now t rest i none so done few part =
      told_some rules start begun ((taken ++ bytes) ++ rest) old.written now t fault (i.done ++ so.given) (lines rest) i.answers (answers_for cs rs) part.0 part.1 part.2
      (split_more old i so none rest) (more_answers old t i so done) (omega (arith, few, as_many_answers rules old.world t cs rs done)) part.3 i.passed part.4
