-- What was sealed is a beginning of what was submitted; what is read takes_memory.
use Rattle.std.specs.Prelude.{not, nat_lt, ◌==◌}
use Rattle.std.specs.List.{AllByRecursion, All}
use Rattle.std.proofs.lemmas.Bool.Decides.{nat_tests}
use Rattle.std.proofs.lemmas.List.Elements.{All-from_recursion}
use Rattle.std.proofs.Common.{◌≡◌, ℕ, ◌≤◌, ◌⊎◌, inl, inr, Bool, true, false, cond, ◌&&◌, List, [], ◌∷◌, ◌++◌, length, take, drop, refl, ap, sym, ◌∙◌, subst, arith, true≢false, append_assoc}
use Rattle.std.proofs.lemmas.List.{take-append-le, append-nil, take-take, length-take-le}
use Rattle.base.proofs.Bools.{both_true, not_true}
use Rattle.base.proofs.Numbers.{same_by_test}
use Rattle.centre_core.specs.declared.command.Command.{Command}
use Rattle.centre_core.specs.State.{State}
use Rattle.schedule.specs.declared.event.Event.{Event}
use Rattle.schedule.specs.declared.event.Event.TheVariants.{Submit, Seal, CommitBegin, CommitEnd, Publish, Answer, Read, CheckpointBegin, CheckpointEnd, Crash, Reopen}
use Rattle.schedule.specs.World.{World, Line, line, line_of, with_line, queue_of, seen_of, opening}
use Rattle.schedule.specs.Next.{is_place, is_empty, first_one, first_of, answered, seen_after, is_station, is_still, may, effect, Next, Run}
use Rattle.schedule.specs.Clauses.{IsBeginning, IsBorneOut, IsWithin, seen_by, is_reopen, submitted_by, submitted, sealed_by, sealed, IsOneLife, IsFresh}
use Rattle.schedule.specs.Laws.{ReadsGrow, ReadsHoldAnswers}
use Rattle.schedule.proofs.Lists.{opposed, line_put, line_same, line_other, unread_line}
use Rattle.schedule.proofs.Soundness.{reached, run_is_sound, next_is_sound, opening_line, all_whole, all_within}
use Rattle.schedule.proofs.Later.{run_grows, take_begins}

other_station : (s t : ℕ) → (s == t) ≡ false → s ≡ t → ⊥
other_station s t e f = grind (arith, nat_tests)

module _ {A : Type 0} where
  first_one_rest : (q : List (Command A)) → first_one q ++ drop 1 q ≡ q
  first_one_rest [] = refl
  first_one_rest (c ∷ cs) = refl

  submit_by : (xs : List (Line A)) (s t : ℕ) (c : Command A) (v : ℕ) (b : Bool) → (s == t) ≡ b → is_place xs s ≡ true
      → (line_of xs t).queue ++ cond b (c ∷ []) [] ≡ (line_of (with_line xs s (line ((line_of xs s).queue ++ c ∷ []) v)) t).queue
  submit_by xs s t c v true e h =
      let new = line ((line_of xs s).queue ++ c ∷ []) v in
      let same = same_by_test s t e in
      subst (λ u. (line_of xs u).queue ++ c ∷ [] ≡ (line_of (with_line xs s new) u).queue) same (sym (ap (λ (x : Line A). x.queue) (line_same xs s new h)))
  submit_by xs s t c v false e h =
      let new = line ((line_of xs s).queue ++ c ∷ []) v in
      append-nil (line_of xs t).queue ∙ sym (ap (λ (x : Line A). x.queue) (line_other xs s t new (other_station s t e)))

  seal_by : (xs : List (Line A)) (s t : ℕ) (v : ℕ) (b : Bool) → (s == t) ≡ b → is_place xs s ≡ true
      → (line_of xs t).queue ≡ cond b (first_one (line_of xs s).queue) [] ++ (line_of (with_line xs s (line (drop 1 (line_of xs s).queue) v)) t).queue
  seal_by xs s t v true e h =
      let new = line (drop 1 (line_of xs s).queue) v in
      let same = same_by_test s t e in
      subst (λ u. (line_of xs u).queue ≡ first_one (line_of xs s).queue ++ (line_of (with_line xs s new) u).queue) same
      (sym (ap (λ (x : Line A). first_one (line_of xs s).queue ++ x.queue) (line_same xs s new h) ∙ first_one_rest (line_of xs s).queue))
  seal_by xs s t v false e h =
      let new = line (drop 1 (line_of xs s).queue) v in sym (ap (λ (x : Line A). x.queue) (line_other xs s t new (other_station s t e)))

  same_queue : (xs : List (Line A)) (s t v : ℕ) → (line_of xs t).queue ≡ (line_of (with_line xs s (line (line_of xs s).queue v)) t).queue
  same_queue xs s t v =
      elim (line_put xs s t (line (line_of xs s).queue v)) [
        | inl e ↦ ap (λ u. (line_of xs u).queue) e.1 ∙ sym (ap (λ (x : Line A). x.queue) e.0)
        | inr e ↦ sym (ap (λ (x : Line A). x.queue) e)
      ]

  -- down, nothing is sealed any more
  fallen : (base : State) (t : ℕ) (w : World A) (e : Event A) → w.down ≡ true → may w e ≡ true → is_reopen e ≡ false → (sealed_by t w e ≡ []) × ((effect base w e).down ≡ true)
  fallen base t w (Submit s c) d ok r = (refl, d)
  fallen base t w (Seal s) d ok r =
      let rest = (both_true (is_station w s) (is_still w && (is_empty w.owed && (nat_lt (length w.batch) 64 && not (is_empty (queue_of w s))))) ok).1 in
      let up = (both_true (is_still w) (is_empty w.owed && (nat_lt (length w.batch) 64 && not (is_empty (queue_of w s)))) rest).0 in
      absurd (opposed w.down (not_true w.down (both_true (not w.down) _ up).0) d)
  fallen base t w CommitBegin d ok r = (refl, d)
  fallen base t w CommitEnd d ok r = (refl, d)
  fallen base t w Publish d ok r = (refl, d)
  fallen base t w (Answer s) d ok r = (refl, d)
  fallen base t w (Read s) d ok r = (refl, d)
  fallen base t w CheckpointBegin d ok r = (refl, d)
  fallen base t w CheckpointEnd d ok r = (refl, d)
  fallen base t w (Crash k) d ok r = (refl, refl)
  fallen base t w Reopen d ok r = absurd (true≢false r)

  goes : (base : State) (w m w' : World A) (e : Event A) (es : List (Event A)) → Next base w e m → Run base m es w' → Run base (effect base w e) es w'
  goes base w m w' e es n r = subst (λ (x : World A). Run base x es w') n.1 r

  all_fallen : (base : State) (t : ℕ) (fs : List (Event A)) (w w' : World A) → w.down ≡ true → IsOneLife fs → Run base w fs w' → sealed base t w fs ≡ []
  all_fallen base t [] w w' d life r = refl
  all_fallen base t (e ∷ es) w w' d life r =
      let here = fallen base t w e d r.1.0 life.0 in
      let rest = all_fallen base t es (effect base w e) w' here.1 life.1 (goes base w r.0 w' e es r.1 r.2) in
      ap (λ x. x ++ sealed base t (effect base w e) es) here.0 ∙ rest

  -- one event: what waited and is submitted is what is sealed and waits, or all is down
  drains : (base : State) (t : ℕ) (w : World A) (e : Event A) → may w e ≡ true → is_reopen e ≡ false
      → (queue_of w t ++ submitted_by t e ≡ sealed_by t w e ++ queue_of (effect base w e) t) ⊎ ((sealed_by t w e ≡ []) × ((effect base w e).down ≡ true))
  drains base t w (Submit s c) ok r =
      inl (submit_by w.lines s t c (seen_of w s) (s == t) refl (both_true (is_station w s) (not w.down && (c.station == s)) ok).0)
  drains base t w (Seal s) ok r =
      inl (append-nil (queue_of w t) ∙
      seal_by w.lines s t (seen_of w s) (s == t) refl
      (both_true (is_station w s) (is_still w && (is_empty w.owed && (nat_lt (length w.batch) 64 && not (is_empty (queue_of w s))))) ok).0)
  drains base t w CommitBegin ok r = inl (append-nil (queue_of w t))
  drains base t w CommitEnd ok r = inl (append-nil (queue_of w t))
  drains base t w Publish ok r = inl (append-nil (queue_of w t))
  drains base t w (Answer s) ok r =
      inl (append-nil (queue_of w t) ∙ same_queue w.lines s t (seen_after (seen_of w s) w.published (answered (w.published == w.durable) (first_of s w.owed))))
  drains base t w (Read s) ok r = inl (append-nil (queue_of w t) ∙ same_queue w.lines s t w.published)
  drains base t w CheckpointBegin ok r = inl (append-nil (queue_of w t))
  drains base t w CheckpointEnd ok r = inl (append-nil (queue_of w t))
  drains base t w (Crash k) ok r = inr (refl, refl)
  drains base t w Reopen ok r = absurd (true≢false r)

  all_drains : (base : State) (t : ℕ) (fs : List (Event A)) (w w' : World A) → IsOneLife fs → Run base w fs w' → IsBeginning (sealed base t w fs) (queue_of w t ++ submitted t fs)
  all_drains base t [] w w' life r = (queue_of w t, append-nil (queue_of w t))
  all_drains base t (e ∷ es) w w' life r =
      let q = queue_of w t in
      let sub = submitted_by t e in
      let more = submitted t es in
      let sea = sealed_by t w e in
      let later = sealed base t (effect base w e) es in
      let run = goes base w r.0 w' e es r.1 r.2 in
      elim (drains base t w e r.1.0 life.0) [
        | inl h ↦ let rest = all_drains base t es (effect base w e) w' life.1 run in (
          rest.0,
          sym (append_assoc q sub more) ∙ (ap (λ x. x ++ more) h ∙ (append_assoc sea (queue_of (effect base w e) t) more ∙ (ap (λ x. sea ++ x) rest.1 ∙ sym (append_assoc sea later rest.0)))),
        )
        | inr h ↦ (
          q ++ (sub ++ more),
          ap (λ x. x ++ (q ++ (sub ++ more))) (sym (ap (λ x. x ++ later) h.0 ∙ all_fallen base t es (effect base w e) w' h.1 life.1 run)),
        )
      ]

  run_split : (base : State) (xs : List (Event A)) (e : Event A) (u w : World A) → Run base u (xs ++ e ∷ []) w → (m : World A) × Run base u xs m × Next base m e w
  run_split base [] e u w r = (u, refl, subst (λ (x : World A). Next base u e x) (sym r.2) r.1)
  run_split base (x ∷ xs) e u w r = let h = run_split base xs e r.0 w r.2 in (h.0, (r.0, r.1, h.1), h.2)

  -- the start and a reopened world have empty queues
  fresh_queue : (base : State) (n : ℕ) (es : List (Event A)) (w : World A) → Run base (opening n) es w → IsFresh es → (t : ℕ) → queue_of w t ≡ []
  fresh_queue base n es w r f t =
      elim f [
        | inl e ↦ let here : w ≡ opening n = subst (λ x. Run base (opening n) x w) e r in ap (λ (x : World A). queue_of x t) here ∙ ap (λ (x : Line A). x.queue) (opening_line n t)
        | inr e ↦ let h = run_split base e.0 Reopen (opening n) w (subst (λ x. Run base (opening n) x w) e.1 r) in
            ap (λ (x : World A). queue_of x t) h.2.1 ∙ ((unread_line h.0.lines t).1 ∙ (reached base n e.0 h.0 h.1).quiet h.2.0 t)
      ]

  pub sealed_begins : (base : State) (n : ℕ) (es fs : List (Event A)) (w w' : World A) (t : ℕ) → Run base (opening n) es w → IsFresh es →
      Run base w fs w' → IsOneLife fs → IsBeginning (sealed base t w fs) (submitted t fs)
  sealed_begins base n es fs w w' t r fresh s life =
      let h = all_drains base t fs w w' life s in
      (h.0, ap (λ x. x ++ submitted t fs) (sym (fresh_queue base n es w r fresh t)) ∙ h.1)

  -- a read shows what is published
  pub read_shows : (base : State) (w r : World A) (s : ℕ) → Next base w (Read s) r → (seen_of r s ≡ w.published) × (r.published ≡ w.published) × (r.durable ≡ w.durable) × (r.accepted ≡ w.accepted)
  read_shows base w r s h = (
    ap (λ (x : World A). seen_of x s) h.1 ∙ ap (λ (x : Line A). x.seen) (line_same w.lines s (line (queue_of w s) w.published) h.0),
    ap (λ (x : World A). x.published) h.1,
    ap (λ (x : World A). x.durable) h.1,
    ap (λ (x : World A). x.accepted) h.1,
  )

  shorter : (xs ys : List (Command A)) (p q : ℕ) → IsBeginning xs ys → p ≤ q → p ≤ length xs → IsBeginning (take p xs) (take q ys)
  shorter xs ys p q h le short =
      let same : take p ys ≡ take p xs = ap (λ t. take p t) h.1 ∙ take-append-le p xs h.0 short in
      subst (λ t. IsBeginning t (take q ys)) same (take_begins p q ys le)

  pub reads_grow : ReadsGrow A
  reads_grow base n es w run s r one fs w' more t r' two =
      let sound = reached base n es w run in
      let here = next_is_sound base w r (Read s) sound one in
      let grown = run_grows base fs r w' here more in
      let there = run_is_sound base fs r w' here more in
      let a = read_shows base w r s one in
      let b = read_shows base w' r' t two in
      let seen : seen_of r s ≡ r.published = a.0 ∙ sym a.1 in
      let small : r.published ≤ r.durable = here.shown in
      let small' : w'.published ≤ w'.durable = there.shown in
      let fits : r.published ≤ length (take r.durable r.accepted) = let st = here.stored in omega (arith, length-take-le r.durable r.accepted st) in
      let h = shorter (take r.durable r.accepted) (take w'.durable w'.accepted) r.published w'.published grown.safe grown.published fits in
      let left : take r.published (take r.durable r.accepted) ≡ seen_by r s = take-take r.published r.durable r.accepted small ∙ ap (λ v. take v r.accepted) (sym seen) in
      let right : take w'.published (take w'.durable w'.accepted) ≡ seen_by r' t =
      take-take w'.published w'.durable w'.accepted small' ∙ (ap (λ v. take v w'.accepted) (sym b.0) ∙ ap (λ l. take (seen_of r' t) l) (sym b.3)) in
      subst (λ x. IsBeginning x (seen_by r' t)) left (subst (λ x. IsBeginning (take r.published (take r.durable r.accepted)) x) right h)

  pub answers_read : ReadsHoldAnswers A
  answers_read base n es w run fs w' more t r one =
      let sound = reached base n es w run in
      let grown = run_grows base fs w w' sound more in
      All-from_recursion (IsWithin base (seen_of r t)) w.answers (
      subst (λ v. AllByRecursion (IsWithin base v) w.answers) (sym (read_shows base w' r t one).0) (all_within base w.published w'.published grown.published w.answers sound.within)
      )

  pub answers_borne : (base : State) (n : ℕ) (es : List (Event A)) (w : World A) → Run base (opening n) es w → All (IsBorneOut base w.accepted) w.answers
  answers_borne base n es w run =
      let sound = reached base n es w run in
      All-from_recursion (IsBorneOut base w.accepted) w.answers (all_whole base w.durable w.accepted w.answers sound.borne)
