-- A world that is sound is so after each event too.
use Rattle.std.specs.Prelude.{replicate, get_or, Option, Some, None, not, nat_lt, is_none, ◌==◌}
use Rattle.std.specs.List.{AllByRecursion}
use Rattle.std.proofs.lemmas.Bool.Decides.{nat_tests}
use Rattle.std.proofs.Common.{◌≡◌, ℕ, zero, suc, ◌<◌, ◌≤◌, inl, inr, Bool, true, false, cond, ◌&&◌, List, [], ◌∷◌, ◌++◌, length, take, drop, refl, ap}
use Rattle.std.proofs.Common.{sym, ◌∙◌, subst, arith, true≢false, append_assoc, length-append, length-take}
use Rattle.std.proofs.lemmas.List.{take-append-le, take_at, take_all, append-nil, take-append-drop, length-take-le}
use Rattle.base.proofs.Bools.{both_true, not_true}
use Rattle.base.proofs.Lists.{get_within, all_append}
use Rattle.centre_core.specs.declared.command.Command.{Command}
use Rattle.centre_core.specs.declared.reply.Reply.TheVariants.{Accepted, Kept, Refused}
use Rattle.centre_core.specs.State.{State}
use Rattle.centre_core.specs.History.{is_acceptance, after}
use Rattle.centre_core.specs.Histories.{IsHistory}
use Rattle.centre_core.specs.Batches.{taken, accepted_of}
use Rattle.centre_core.proofs.InTurnLaws.{history-prefix}
use Rattle.schedule.specs.declared.event.Event.{Event}
use Rattle.schedule.specs.declared.event.Event.TheVariants.{Submit, Seal, CommitBegin, CommitEnd, Publish, Answer, Read, CheckpointBegin, CheckpointEnd, Crash, Reopen}
use Rattle.schedule.specs.World.{World, Line, line, line_of, with_line, queue_of, seen_of, Entry, opening}
use Rattle.schedule.specs.Next.{all_of, cut, records_of, replies_of, is_empty, first_of, without_first, answer_from, answered, seen_after, is_station, is_still, may, effect, Next, Run}
use Rattle.schedule.specs.Clauses.{IsBeginning, IsBorneOut, IsWithin}
use Rattle.schedule.specs.RoundParts.{OneIsBorneOut, AnsweredAreBorneOut}
use Rattle.schedule.proofs.Stepping.{borne_more, batch_well}
use Rattle.schedule.proofs.Lists.{opposed, line_put, emptied_queue, emptied_seen, unread_line, all_of-cut, all_of-append, all_by}

module _ {A : Type 0} where
  -- with nothing in_flight all that is accepted is durable; else the rest is what flies
  abbrev pub Aloft : State → Bool → ℕ → List (Command A) → Option (List (Entry A)) → Type 0
  Aloft base down durable acc None = down ≡ false → durable ≡ length acc
  Aloft base down durable acc (Some f) = (acc ≡ take durable acc ++ accepted_of f) × AllByRecursion (IsBorneOut base acc) f × (down ≡ false)

  pub record Sound (base : State) (w : World A) : Type 0 where
    pub stepped : IsHistory base w.accepted
    pub shown : w.published ≤ w.durable
    pub stored : w.durable ≤ length w.accepted
    pub aloft : Aloft base w.down w.durable w.accepted w.in_flight
    pub owing : AllByRecursion (IsBorneOut base (take w.durable w.accepted)) w.owed
    pub borne : AllByRecursion (IsBorneOut base (take w.durable w.accepted)) w.answers
    pub within : AllByRecursion (IsWithin base w.published) w.answers
    pub quiet : w.down ≡ true → (t : ℕ) → queue_of w t ≡ []
    pub sight : (t : ℕ) → seen_of w t ≤ w.published

  still : (w : World A) → is_still w ≡ true → (w.down ≡ false) × (is_none w.in_flight ≡ true)
  still w h = let p = both_true (not w.down) (is_none w.in_flight) h in (not_true w.down p.0, p.1)

  grounded : (base : State) (down : Bool) (d : ℕ) (acc : List (Command A)) (f : Option (List (Entry A))) → is_none f ≡ true → down ≡ false → Aloft base down d acc f → d ≡ length acc
  grounded base down d acc None e up h = h up
  grounded base down d acc (Some f) e up h = absurd (true≢false (sym e))

  landed : (base : State) (down : Bool) (d : ℕ) (acc : List (Command A)) (f : Option (List (Entry A))) → Aloft base down d acc f → AllByRecursion (IsBorneOut base acc) (replies_of f)
  landed base down d acc None h = tt
  landed base down d acc (Some f) h = h.1

  all_more : (base : State) (l m : List (Command A)) (xs : List (Entry A)) → AllByRecursion (IsBorneOut base l) xs → AllByRecursion (IsBorneOut base (l ++ m)) xs
  all_more base l m xs h = all_by (IsBorneOut base l) (IsBorneOut base (l ++ m)) (λ x k. borne_more base l m x k) xs h

  -- what the durable beginning bears out, the whole does
  pub all_whole : (base : State) (d : ℕ) (l : List (Command A)) (xs : List (Entry A)) → AllByRecursion (IsBorneOut base (take d l)) xs → AllByRecursion (IsBorneOut base l) xs
  all_whole base d l xs h = subst (λ t. AllByRecursion (IsBorneOut base t) xs) (take-append-drop d l) (all_more base (take d l) (drop d l) xs h)

  within_more : (base : State) (p q : ℕ) → p ≤ q → (x : Entry A) → IsWithin base p x → IsWithin base q x
  within_more base p q le (c, Accepted n v) h = omega arith
  within_more base p q le (c, Kept n v) h = tt
  within_more base p q le (c, Refused r) h = tt

  pub all_within : (base : State) (p q : ℕ) → p ≤ q → (xs : List (Entry A)) → AllByRecursion (IsWithin base p) xs → AllByRecursion (IsWithin base q) xs
  all_within base p q le xs h = all_by (IsWithin base p) (IsWithin base q) (λ x k. within_more base p q le x k) xs h

  -- a line whose queue or sight is written
  sight_put : (w : World A) (s : ℕ) (q : List (Command A)) (v : ℕ) → v ≤ w.published → ((t : ℕ) → seen_of w t ≤ w.published) → (t : ℕ) → (line_of (with_line w.lines s (line q v)) t).seen ≤ w.published
  sight_put w s q v le h t =
      elim (line_put w.lines s t (line q v)) [
        | inl e ↦ subst (λ (x : Line A). x.seen ≤ w.published) (sym e.0) le
        | inr e ↦ subst (λ (x : Line A). x.seen ≤ w.published) (sym e) (h t)
      ]

  submits : (base : State) (w : World A) (s : ℕ) (c : Command A) → Sound base w → may w (Submit s c) ≡ true → Sound base (effect base w (Submit s c))
  submits base w s c h ok =
      let up : w.down ≡ false = not_true w.down (both_true (not w.down) (c.station == s) (both_true (is_station w s) (not w.down && (c.station == s)) ok).1).0 in
      record {
        stepped = h.stepped;
        shown = h.shown;
        stored = h.stored;
        aloft = h.aloft;
        owing = h.owing;
        borne = h.borne;
        within = h.within;
        quiet = λ down t. absurd (opposed w.down up down);
        sight = sight_put w s (queue_of w s ++ c ∷ []) (seen_of w s) (h.sight s) h.sight;
      }

  seals : (base : State) (w : World A) (s : ℕ) → Sound base w → may w (Seal s) ≡ true → Sound base (effect base w (Seal s))
  seals base w s h ok =
      let rest = (both_true (is_station w s) (is_still w && (is_empty w.owed && (nat_lt (length w.batch) 64 && not (is_empty (queue_of w s))))) ok).1 in
      let up = (still w (both_true (is_still w) (is_empty w.owed && (nat_lt (length w.batch) 64 && not (is_empty (queue_of w s)))) rest).0).0 in
      record {
        stepped = h.stepped;
        shown = h.shown;
        stored = h.stored;
        aloft = h.aloft;
        owing = h.owing;
        borne = h.borne;
        within = h.within;
        quiet = λ down t. absurd (opposed w.down up down);
        sight = sight_put w s (drop 1 (queue_of w s)) (seen_of w s) (h.sight s) h.sight;
      }

  begins : (base : State) (w : World A) → Sound base w → may w CommitBegin ≡ true → Sound base (effect base w CommitBegin)
  begins base w h ok =
      let s = after base w.accepted in
      let new = taken s w.batch in
      let up = still w (both_true (is_still w) (not (is_empty w.batch) && (w.published == w.durable)) ok).0 in
      let all : w.durable ≡ length w.accepted = grounded base w.down w.durable w.accepted w.in_flight up.1 up.0 h.aloft in
      let same : take w.durable (w.accepted ++ new) ≡ take w.durable w.accepted = take-append-le w.durable w.accepted new h.stored in
      let whole : take w.durable (w.accepted ++ new) ≡ w.accepted = take_at w.accepted new w.durable (sym all) in
      let well = batch_well w.batch base s w.accepted (w.accepted ++ new) h.stepped refl refl in
      record {
        stepped = well.0;
        shown = h.shown;
        stored = let le = h.stored in omega (arith, length-append w.accepted new);
        aloft = (ap (λ t. t ++ new) (sym whole), well.1, up.0);
        owing = subst (λ t. AllByRecursion (IsBorneOut base t) w.owed) (sym same) h.owing;
        borne = subst (λ t. AllByRecursion (IsBorneOut base t) w.answers) (sym same) h.borne;
        within = h.within;
        quiet = h.quiet;
        sight = h.sight;
      }

  ends : (base : State) (w : World A) → Sound base w → Sound base (effect base w CommitEnd)
  ends base w h =
      let whole : take (length w.accepted) w.accepted ≡ w.accepted = take_all (length w.accepted) w.accepted (omega arith) in
      record {
        stepped = h.stepped;
        shown = let a = h.shown in let b = h.stored in omega arith;
        stored = omega arith;
        aloft = λ up. refl;
        owing = subst (λ t. AllByRecursion (IsBorneOut base t) (replies_of w.in_flight)) (sym whole) (landed base w.down w.durable w.accepted w.in_flight h.aloft);
        borne = subst (λ t. AllByRecursion (IsBorneOut base t) w.answers) (sym whole) (all_whole base w.durable w.accepted w.answers h.borne);
        within = h.within;
        quiet = h.quiet;
        sight = h.sight;
      }

  publishes : (base : State) (w : World A) → Sound base w → Sound base (effect base w Publish)
  publishes base w h = record {
    stepped = h.stepped;
    shown = omega arith;
    stored = h.stored;
    aloft = h.aloft;
    owing = h.owing;
    borne = h.borne;
    within = all_within base w.published w.durable h.shown w.answers h.within;
    quiet = h.quiet;
    sight = λ t. let a = h.sight t in let b = h.shown in omega arith;
  }

  -- an answer says no more than its entry
  pub one_borne : OneIsBorneOut A
  one_borne base l true (c, Accepted n p) h = h
  one_borne base l false (c, Accepted n p) h = inl (record { first = c; of_station = refl; of_sequence = refl; lands = h })
  one_borne base l all (c, Kept n p) h = h
  one_borne base l all (c, Refused r) h = h

  pub all_answered : AnsweredAreBorneOut A
  all_answered base l all [] h = tt
  all_answered base l all (x ∷ xs) h = (one_borne base l all x h.0, all_answered base l all xs h.1)

  answer_within : (base : State) (l : List (Command A)) (p : ℕ) (all : Bool) → (all ≡ true → length l ≤ p) → (x : Entry A) → IsBorneOut base l x → IsWithin base p (x.0, answer_from all x.1)
  answer_within base l p true le (c, Accepted n v) h =
      let in_l : h.place < length l = get_within l h.place c h.is_there in
      let m = h.numbered in
      let fits = le refl in omega arith
  answer_within base l p false le (c, Accepted n v) h = tt
  answer_within base l p all le (c, Kept n v) h = tt
  answer_within base l p all le (c, Refused r) h = tt

  all_answered_within : (base : State) (l : List (Command A)) (p : ℕ) (all : Bool) → (all ≡ true → length l ≤ p) → (xs : List (Entry A)) →
      AllByRecursion (IsBorneOut base l) xs → AllByRecursion (IsWithin base p) (answered all xs)
  all_answered_within base l p all le [] h = tt
  all_answered_within base l p all le (x ∷ xs) h = (answer_within base l p all le x h.0, all_answered_within base l p all le xs h.1)

  all_first : (P : Entry A → Type 0) → (s : ℕ) (xs : List (Entry A)) → AllByRecursion P xs → AllByRecursion P (first_of s xs)
  all_first P s [] h = tt
  all_first P s (x ∷ xs) h = elim (x.0.station == s) as (λ b. AllByRecursion P (cond b (x ∷ []) (first_of s xs))) [ true ↦ (h.0, tt) | false ↦ all_first P s xs h.1 ]

  all_without : (P : Entry A → Type 0) → (s : ℕ) (xs : List (Entry A)) → AllByRecursion P xs → AllByRecursion P (without_first s xs)
  all_without P s [] h = tt
  all_without P s (x ∷ xs) h = elim (x.0.station == s) as (λ b. AllByRecursion P (cond b xs (x ∷ without_first s xs))) [ true ↦ h.1 | false ↦ (h.0, all_without P s xs h.1) ]

  seen_after_le : (seen p : ℕ) (xs : List (Entry A)) → seen ≤ p → seen_after seen p xs ≤ p
  seen_after_le seen p [] h = h
  seen_after_le seen p (x ∷ xs) h = elim (is_acceptance x.1) as (λ b. cond b p seen ≤ p) [ true ↦ omega arith | false ↦ h ]

  answers : (base : State) (w : World A) (s : ℕ) → Sound base w → may w (Answer s) ≡ true → Sound base (effect base w (Answer s))
  answers base w s h ok =
      let up : w.down ≡ false = not_true w.down (both_true (not w.down) (not (is_empty (first_of s w.owed))) (both_true (is_station w s) (not w.down && not (is_empty (first_of s w.owed))) ok).1).0 in
      let l = take w.durable w.accepted in
      let all = w.published == w.durable in
      let one = first_of s w.owed in
      let here = all_first (IsBorneOut base l) s w.owed h.owing in
      let long : length l ≤ w.durable = omega (arith, length-take w.durable w.accepted) in
      let fits : all ≡ true → length l ≤ w.published = λ e. let same : w.published ≡ w.durable = grind (arith, nat_tests) in omega arith in
      record {
        stepped = h.stepped;
        shown = h.shown;
        stored = h.stored;
        aloft = h.aloft;
        owing = all_without (IsBorneOut base l) s w.owed h.owing;
        borne = all_append (IsBorneOut base l) w.answers (answered all one) h.borne (all_answered base l all one here);
        within = all_append (IsWithin base w.published) w.answers (answered all one) h.within (all_answered_within base l w.published all fits one here);
        quiet = λ down t. absurd (opposed w.down up down);
        sight = sight_put w s (queue_of w s) (seen_after (seen_of w s) w.published (answered all one)) (seen_after_le (seen_of w s) w.published (answered all one) (h.sight s)) h.sight;
      }

  reads : (base : State) (w : World A) (s : ℕ) → Sound base w → Sound base (effect base w (Read s))
  reads base w s h = record {
    stepped = h.stepped;
    shown = h.shown;
    stored = h.stored;
    aloft = h.aloft;
    owing = h.owing;
    borne = h.borne;
    within = h.within;
    quiet = λ down t. elim (line_put w.lines s t (line (queue_of w s) w.published)) [
      | inl e ↦ subst (λ (x : Line A). x.queue ≡ []) (sym e.0) (h.quiet down s)
      | inr e ↦ subst (λ (x : Line A). x.queue ≡ []) (sym e) (h.quiet down t)
    ];
    sight = sight_put w s (queue_of w s) w.published (omega arith) h.sight;
  }

  -- what a crash leaves is a beginning
  pub crash_prefix : (base : State) (down : Bool) (d : ℕ) (acc : List (Command A)) (f : Option (List (Entry A))) (k : ℕ) → Aloft base down d acc f →
      IsBeginning (take d acc ++ all_of (take k (records_of f))) acc
  crash_prefix base down d acc None zero h = (drop d acc, sym (take-append-drop d acc) ∙ ap (λ t. t ++ drop d acc) (sym (append-nil (take d acc))))
  crash_prefix base down d acc None (suc k) h = (drop d acc, sym (take-append-drop d acc) ∙ ap (λ t. t ++ drop d acc) (sym (append-nil (take d acc))))
  crash_prefix base down d acc (Some f) k h =
      let rs = cut (accepted_of f) in
      let parts : accepted_of f ≡ all_of (take k rs) ++ all_of (drop k rs) = sym (all_of-cut (accepted_of f)) ∙ (ap all_of (sym (take-append-drop k rs)) ∙ all_of-append (take k rs) (drop k rs)) in
      (all_of (drop k rs), h.0 ∙ (ap (λ t. take d acc ++ t) parts ∙ sym (append_assoc (take d acc) (all_of (take k rs)) (all_of (drop k rs)))))

  crashes : (base : State) (w : World A) (k : ℕ) → Sound base w → Sound base (effect base w (Crash k))
  crashes base w k h =
      let safe = take w.durable w.accepted in
      let more = all_of (take k (records_of w.in_flight)) in
      let prefix = crash_prefix base w.down w.durable w.accepted w.in_flight k h.aloft in
      let long : length safe ≡ w.durable = length-take-le w.durable w.accepted h.stored in
      let same : take w.durable (safe ++ more) ≡ safe = take_at safe more w.durable long in
      record {
        stepped = history-prefix base (safe ++ more) prefix.0 (subst (λ t. IsHistory base t) prefix.1 h.stepped);
        shown = h.shown;
        stored = omega (arith, length-append safe more);
        aloft = λ up. absurd (true≢false up);
        owing = tt;
        borne = subst (λ t. AllByRecursion (IsBorneOut base t) w.answers) (sym same) h.borne;
        within = h.within;
        quiet = λ down t. emptied_queue w.lines t;
        sight = λ t. subst (λ v. v ≤ w.published) (sym (emptied_seen w.lines t)) (h.sight t);
      }

  reopens : (base : State) (w : World A) → Sound base w → w.down ≡ true → Sound base (effect base w Reopen)
  reopens base w h fell =
      let whole : take (length w.accepted) w.accepted ≡ w.accepted = take_all (length w.accepted) w.accepted (omega arith) in
      let le : w.published ≤ length w.accepted = let a = h.shown in let b = h.stored in omega arith in
      record {
        stepped = h.stepped;
        shown = omega arith;
        stored = omega arith;
        aloft = elim (w.in_flight) as (λ f. Aloft base w.down w.durable w.accepted f → Aloft base false (length w.accepted) w.accepted f) [
          | None ↦ λ a. λ up. refl
          | Some f ↦ λ a. absurd (opposed w.down a.2 fell)
        ] h.aloft;
        owing = subst (λ t. AllByRecursion (IsBorneOut base t) w.owed) (sym whole) (all_whole base w.durable w.accepted w.owed h.owing);
        borne = subst (λ t. AllByRecursion (IsBorneOut base t) w.answers) (sym whole) (all_whole base w.durable w.accepted w.answers h.borne);
        within = all_within base w.published (length w.accepted) le w.answers h.within;
        quiet = λ down t. absurd (true≢false (sym down));
        sight = λ t. subst (λ v. v ≤ length w.accepted) (sym (unread_line w.lines t).0) (omega arith);
      }

  same_world : (base : State) (w : World A) (b : Bool) → Sound base w → Sound base (record w { checking = b })
  same_world base w b h = record {
    stepped = h.stepped;
    shown = h.shown;
    stored = h.stored;
    aloft = h.aloft;
    owing = h.owing;
    borne = h.borne;
    within = h.within;
    quiet = h.quiet;
    sight = h.sight;
  }

  pub effect_is_sound : (base : State) (w : World A) (e : Event A) → Sound base w → may w e ≡ true → Sound base (effect base w e)
  effect_is_sound base w (Submit s c) h ok = submits base w s c h ok
  effect_is_sound base w (Seal s) h ok = seals base w s h ok
  effect_is_sound base w CommitBegin h ok = begins base w h ok
  effect_is_sound base w CommitEnd h ok = ends base w h
  effect_is_sound base w Publish h ok = publishes base w h
  effect_is_sound base w (Answer s) h ok = answers base w s h ok
  effect_is_sound base w (Read s) h ok = reads base w s h
  effect_is_sound base w CheckpointBegin h ok = same_world base w true h
  effect_is_sound base w CheckpointEnd h ok = same_world base w false h
  effect_is_sound base w (Crash k) h ok = crashes base w k h
  effect_is_sound base w Reopen h ok = reopens base w h ok

  pub next_is_sound : (base : State) (w m : World A) (e : Event A) → Sound base w → Next base w e m → Sound base m
  next_is_sound base w m e h n = subst (λ (x : World A). Sound base x) (sym n.1) (effect_is_sound base w e h n.0)

  pub run_is_sound : (base : State) (es : List (Event A)) (w w' : World A) → Sound base w → Run base w es w' → Sound base w'
  run_is_sound base [] w w' h r = subst (λ (x : World A). Sound base x) (sym r) h
  run_is_sound base (e ∷ es) w w' h r = run_is_sound base es r.0 w' (next_is_sound base w r.0 e h r.1) r.2

  opening_at : (n k : ℕ) → get_or (replicate n (line {A = A} [] 0)) k (line {A = A} [] 0) ≡ line {A = A} [] 0
  opening_at zero k = refl
  opening_at (suc n) zero = refl
  opening_at (suc n) (suc k) = opening_at n k

  pub opening_line : (n t : ℕ) → line_of (opening {A = A} n).lines t ≡ line {A = A} [] 0
  opening_line n zero = refl
  opening_line n (suc k) = opening_at n k

  pub starts : (base : State) (n : ℕ) → Sound base (opening n)
  starts base n = record {
    stepped = tt;
    shown = omega arith;
    stored = omega arith;
    aloft = λ up. refl;
    owing = tt;
    borne = tt;
    within = tt;
    quiet = λ down t. absurd (true≢false (sym down));
    sight = λ t. subst (λ (x : Line A). x.seen ≤ 0) (sym (opening_line n t)) (omega arith);
  }

  pub reached : (base : State) (n : ℕ) (es : List (Event A)) (w : World A) → Run base (opening n) es w → Sound base w
  reached base n es w r = run_is_sound base es (opening n) w (starts base n) r
