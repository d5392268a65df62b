-- What the running world keeps.
use Rattle.std.specs.Prelude.{Option, Some, None, is_none, cond, ◌==◌}
use Rattle.std.proofs.Common.{◌≡◌, ℕ, zero, suc, ◌<◌, ◌≤◌, Bool, true, false, List, [], ◌∷◌, ◌++◌, length, take, ap, sym, ◌∙◌, arith, true≢false, length-append}
use Rattle.std.proofs.lemmas.List.{take_at, take_all, append-nil}
use Rattle.centre_core.specs.declared.command.Command.{Command}
use Rattle.centre_core.specs.declared.reply.Reply.{Reply}
use Rattle.centre_core.specs.State.{State}
use Rattle.centre_core.specs.History.{is_acceptance, after}
use Rattle.centre_core.specs.Batches.{with_replies, taken, accepted_of}
use Rattle.centre_core.proofs.InTurnLaws.{after-append}
use Rattle.centre_core.proofs.JoinedLaws.{after_taken}
use Rattle.schedule.specs.declared.event.Event.TheVariants.{Answer}
use Rattle.schedule.specs.World.{World, Line, line, line_of, with_line, ground, Entry}
use Rattle.schedule.specs.Next.{all_of, cut, records_of, first_of, without_first, answer_from, answered, seen_after, effect, IsInFlight}

module _ {A : Type 0} where
  pub idle : (down : Bool) (d : ℕ) (acc : List (Command A)) (f : Option (List (Entry A))) → IsInFlight down d acc f → is_none f ≡ true → down ≡ false → d ≡ length acc
  idle down d acc None h e up = h up
  idle down d acc (Some x) h e up = absurd (true≢false (sym e))

  -- what is kept beside the record stays so where a commit begins
  pub begun : (acc acc' batch news : List (Command A)) (d : ℕ) (down : Bool) (f : Option (List (Entry A))) (r r' : State) (reps : List (Entry A))
      → is_none f ≡ true → down ≡ false → r ≡ after ground acc → d ≤ length acc → IsInFlight down d acc f → acc' ≡ acc ++ news → r' ≡ after r batch →
      news ≡ taken r batch → reps ≡ with_replies A r batch
      → (r' ≡ after ground acc') × (d ≤ length acc') × ((acc' ≡ take d acc' ++ accepted_of reps) × (down ≡ false))
  begun acc acc' batch news d down f r r' reps none up reg le flown whole goes new answer_from =
      let all = idle down d acc f flown none up in
      let prefix : take d acc' ≡ acc = ap (λ t. take d t) whole ∙ take_at acc news d (sym all) in
      let same : accepted_of reps ≡ news = ap (λ t. accepted_of t) answer_from ∙ sym new in (
        goes ∙ (sym (after_taken r batch) ∙
            (ap (λ t. after t (taken r batch)) reg ∙
            (sym (after-append ground acc (taken r batch)) ∙ ap (λ t. after ground t) (ap (λ t. acc ++ t) (sym new) ∙ sym whole)))),
        omega (arith, ap length whole, length-append acc news),
        (whole ∙ (ap (λ t. t ++ news) (sym prefix) ∙ ap (λ t. take d acc' ++ t) (sym same)), up),
      )

  all_records : (k : ℕ) (xs : List (Command A)) → 0 < k → k ≤ length (cut xs) → all_of (take k (cut xs)) ≡ xs
  all_records zero xs some few = absurd (omega arith)
  all_records (suc k) [] some few = absurd (omega arith)
  all_records (suc zero) (x ∷ xs) some few = append-nil (x ∷ xs)
  all_records (suc (suc k)) (x ∷ xs) some few = absurd (omega arith)

  -- a crash that lets no record through leaves what is durable
  pub none_left : (d : ℕ) (acc : List (Command A)) (f : Option (List (Entry A))) → take d acc ≡ take d acc ++ all_of (take 0 (records_of f))
  none_left d acc f = sym (append-nil (take d acc))

  -- one that lets a record through leaves all that is accepted
  pub all_left : (down : Bool) (d k : ℕ) (acc : List (Command A)) (f : Option (List (Entry A))) → IsInFlight down d acc f → 0 < k →
      k ≤ length (records_of f) → take (length acc) acc ≡ take d acc ++ all_of (take k (records_of f))
  all_left down d k acc None h some few = absurd (omega arith)
  all_left down d k acc (Some xs) h some few = take_all (length acc) acc (omega arith) ∙ (h.0 ∙ ap (λ t. take d acc ++ t) (sym (all_records k (accepted_of xs) some few)))

  -- what an answer writes is its effect
  pub answers_one : (lines lines' : List (Line A)) (batch accepted : List (Command A)) (durable published : ℕ) (in_flight : Option (List (Entry A)))
      (owed owed' answers answers' : List (Entry A)) (checking down : Bool) (s : ℕ) (x : Entry A) (t : Reply A)
      (b : Bool) → first_of s owed ≡ x ∷ [] → owed' ≡ without_first s owed → t ≡ answer_from (published == durable) x.1 → b ≡ is_acceptance t →
      lines' ≡ with_line lines s (line (line_of lines s).queue (cond b published (line_of lines s).seen))
      → answers' ≡ answers ++ (x.0, t) ∷ []
      → let w : World A = record {
        lines = lines;
        batch = batch;
        accepted = accepted;
        durable = durable;
        published = published;
        in_flight = in_flight;
        owed = owed;
        answers = answers;
        checking = checking;
        down = down;
      } in
      let w' : World A = record w { lines = lines'; owed = owed'; answers = answers' } in w' ≡ effect ground w (Answer s)
  answers_one lines lines' batch accepted durable published in_flight owed owed' answers answers' checking down s x t b first rest reports answer_taken put more =
      let all = published == durable in
      let old = line_of lines s in
      let is : answered all (first_of s owed) ≡ (x.0, t) ∷ [] = ap (λ l. answered all l) first ∙ ap (λ r. (x.0, r) ∷ []) (sym reports) in
      let lines_are : lines' ≡ with_line lines s (line old.queue (seen_after old.seen published (answered all (first_of s owed)))) =
      put ∙ (ap (λ h. with_line lines s (line old.queue (cond h published old.seen))) answer_taken ∙ ap (λ l. with_line lines s (line old.queue (seen_after old.seen published l))) (sym is)) in
      let answers_are : answers' ≡ answers ++ answered all (first_of s owed) = more ∙ ap (λ l. answers ++ l) (sym is) in
      λ i. record {
        lines = lines_are i;
        batch = batch;
        accepted = accepted;
        durable = durable;
        published = published;
        in_flight = in_flight;
        owed = rest i;
        answers = answers_are i;
        checking = checking;
        down = down;
      }
