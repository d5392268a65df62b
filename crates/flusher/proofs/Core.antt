-- Rounds, one after another, are one run of the core.
use Rattle.std.specs.Prelude.{◌==◌, ◌<◌, ◌≤◌, replicate, Some}
use Rattle.std.specs.List.{AllByRecursion}
use Rattle.std.specs.declared.alloc.Global.{Global}
use Rattle.std.proofs.Common.{◌≡◌, inl, inr, ℕ, ◌+◌, Bool, true, false, cond, List, [], ◌∷◌, ◌++◌, take, refl, ap, sym, ◌∙◌, subst, append_assoc, true≢false}
use Rattle.std.proofs.lemmas.List.{append-nil}
use mathlib.Core.List.{IsPrefix, Sublist, nil-sublist}
use Rattle.base.proofs.Lists.{some_beside}
use mathlib.Core.List.Sublist
use Rattle.sector_disk.specs.Disk.{View}
use Rattle.crossbeam_channel.specs.Ends.{sends_on}
use Rattle.snapshots.proofs.Prefixes.{prefix_self, prefix_trans}
use Rattle.centre_core.specs.Asked.{Asked}
use Rattle.centre_core.specs.State.{State}
use Rattle.schedule.specs.declared.event.Event.{Event}
use Rattle.schedule.specs.declared.event.Event.TheVariants as event
use Rattle.schedule.specs.World.{World, Line, Entry as Reply, line, opening}
use Rattle.schedule.specs.Next.{Run}
use Rattle.schedule.specs.Clauses.{IsOneLife}
use Rattle.schedule.specs.Rounds.{at, fed, move_if}
use Rattle.schedule.proofs.Rounding.{run-append}
use Rattle.recovery.specs.Lives.{StoreView}
use Rattle.recovery.specs.declared.fault.StoreFault.TheVariants.{Broken}
use Rattle.station_queue.specs.declared.entry.Entry.{Entry}
use Rattle.station_queue.specs.Ends.{Taking}
use Rattle.station_queue.specs.Entries.{station_of}
use Rattle.answers.specs.declared.channel.AnswerSender.{AnswerSender}
use Rattle.answers.specs.Views.{sent_of}
use Rattle.flusher.specs.declared.decision.Decision.TheVariants as decision
use Rattle.flusher.specs.Answerings.{HasAnswered, HaveAnswered, answers_to}
use Rattle.flusher.specs.Core.{IsCoreRun, submissions}
use Rattle.flusher.specs.Opened.{IsNewFlusher}
use Rattle.flusher.specs.Rounds.{IsRound}
use Rattle.flusher.specs.Runs.{AreRounds, next, none}
use Rattle.flusher.specs.Served.{AreServedBy}
use Rattle.flusher.specs.Shared.{commands_among}
use Rattle.flusher.specs.Stages.{AreOwn, Sent, commands_of, entries_of, entry_of, sent_to_all, stage, world_of}
use Rattle.flusher.specs.View.{FlusherView, is_checking, progress_of, stage_of}
use Rattle.flusher.proofs.Batched.{commands_among-append}
use Rattle.flusher.proofs.Ordered.{take_is_some}
use Rattle.flusher.proofs.Submits.{AreQuiet, first_of_them, of_the_stations, quiet_emptied, quiet_new, submits, submits_run}

abbrev G : Type 0
G = Asked Global

abbrev L : Type 0
L = Line Global

abbrev E : Type 0
E = Event Global

-- ---- lists of events

submits_own : (es : List E) → AreOwn es → submissions es ≡ []
submits_own [] own = refl
submits_own (event.Submit s c ∷ es) own = absurd (true≢false (sym own.0))
submits_own (event.Seal s ∷ es) own = submits_own es own.1
submits_own (event.CommitBegin ∷ es) own = submits_own es own.1
submits_own (event.CommitEnd ∷ es) own = submits_own es own.1
submits_own (event.Publish ∷ es) own = submits_own es own.1
submits_own (event.Answer s ∷ es) own = submits_own es own.1
submits_own (event.Read s ∷ es) own = absurd (true≢false (sym own.0))
submits_own (event.CheckpointBegin ∷ es) own = submits_own es own.1
submits_own (event.CheckpointEnd ∷ es) own = submits_own es own.1
submits_own (event.Crash k ∷ es) own = submits_own es own.1
submits_own (event.Reopen ∷ es) own = absurd (true≢false (sym own.0))

one_life_own : (es : List E) → AreOwn es → IsOneLife es
one_life_own [] own = tt
one_life_own (event.Submit s c ∷ es) own = (refl, one_life_own es own.1)
one_life_own (event.Seal s ∷ es) own = (refl, one_life_own es own.1)
one_life_own (event.CommitBegin ∷ es) own = (refl, one_life_own es own.1)
one_life_own (event.CommitEnd ∷ es) own = (refl, one_life_own es own.1)
one_life_own (event.Publish ∷ es) own = (refl, one_life_own es own.1)
one_life_own (event.Answer s ∷ es) own = (refl, one_life_own es own.1)
one_life_own (event.Read s ∷ es) own = (refl, one_life_own es own.1)
one_life_own (event.CheckpointBegin ∷ es) own = (refl, one_life_own es own.1)
one_life_own (event.CheckpointEnd ∷ es) own = (refl, one_life_own es own.1)
one_life_own (event.Crash k ∷ es) own = (refl, one_life_own es own.1)
one_life_own (event.Reopen ∷ es) own = absurd (true≢false (sym own.0))

one_life_both : (es fs : List E) → IsOneLife es → IsOneLife fs → IsOneLife (es ++ fs)
one_life_both [] fs h k = k
one_life_both (e ∷ es) fs h k = (h.0, one_life_both es fs h.1 k)

submissions-append : (es fs : List E) → submissions (es ++ fs) ≡ submissions es ++ submissions fs
submissions-append [] fs = refl
submissions-append (event.Submit s c ∷ es) fs = ap (λ l. c ∷ l) (submissions-append es fs)
submissions-append (event.Seal s ∷ es) fs = submissions-append es fs
submissions-append (event.CommitBegin ∷ es) fs = submissions-append es fs
submissions-append (event.CommitEnd ∷ es) fs = submissions-append es fs
submissions-append (event.Publish ∷ es) fs = submissions-append es fs
submissions-append (event.Answer s ∷ es) fs = submissions-append es fs
submissions-append (event.Read s ∷ es) fs = submissions-append es fs
submissions-append (event.CheckpointBegin ∷ es) fs = submissions-append es fs
submissions-append (event.CheckpointEnd ∷ es) fs = submissions-append es fs
submissions-append (event.Crash k ∷ es) fs = submissions-append es fs
submissions-append (event.Reopen ∷ es) fs = submissions-append es fs

submits_them : (cs : List G) → submissions (submits cs) ≡ cs
submits_them [] = refl
submits_them (c ∷ cs) = ap (λ l. c ∷ l) (submits_them cs)

one_life_submits : (cs : List G) → IsOneLife (submits cs)
one_life_submits [] = tt
one_life_submits (c ∷ cs) = (refl, one_life_submits cs)

-- ---- the first event

-- a checkpoint that is under way when the store is opened begins first
abbrev begins : Bool → List E
begins b = move_if false b

begins_one_life : (b : Bool) → IsOneLife (begins b)
begins_one_life false = tt
begins_one_life true = (refl, tt)

begins_without : (b : Bool) → submissions (begins b) ≡ []
begins_without false = refl
begins_without true = refl

begun : (base : State) (n : ℕ) (b : Bool) → Run base (opening n) (begins b) (at (world_of (stage [] [] b false) []) (replicate n (line [] 0)))
begun base n false = refl
begun base n true = (at (world_of (stage [] [] true false) []) (replicate n (line [] 0)), (refl, refl), refl)

-- ---- lists of answers

commands_of-append : (xs ys : List Sent) → commands_of (xs ++ ys) ≡ commands_of xs ++ commands_of ys
commands_of-append [] ys = refl
commands_of-append (x ∷ xs) ys = ap (λ l. x.command ∷ l) (commands_of-append xs ys)

entries_of-append : (xs ys : List Sent) → entries_of (xs ++ ys) ≡ entries_of xs ++ entries_of ys
entries_of-append [] ys = refl
entries_of-append (x ∷ xs) ys = ap (λ l. entry_of x.command x.decision ++ l) (entries_of-append xs ys) ∙ sym (append_assoc (entry_of x.command x.decision) (entries_of xs) (entries_of ys))

answers_to-append : (s : ℕ) (xs ys : List Sent) → answers_to s (xs ++ ys) ≡ answers_to s xs ++ answers_to s ys
answers_to-append s [] ys = refl
answers_to-append s (x ∷ xs) ys = by (x.command.station == s) (answers_to-append s xs ys)
  where
    by : (b : Bool) → answers_to s (xs ++ ys) ≡ answers_to s xs ++ answers_to s ys
        → cond b (x ∷ answers_to s (xs ++ ys)) (answers_to s (xs ++ ys)) ≡ cond b (x ∷ answers_to s xs) (answers_to s xs) ++ answers_to s ys
    by true h = ap (λ l. x ∷ l) h
    by false h = h

no_entries : (t : ℕ) (published : List G) (cs : List G) → entries_of (sent_to_all t published (decision.Fault Broken) cs) ≡ []
no_entries t published [] = refl
no_entries t published (c ∷ cs) = no_entries t published cs

-- ---- what was sent

prefix_more : (xs ys zs : List Sent) → IsPrefix xs ys → IsPrefix xs (ys ++ zs)
prefix_more xs ys zs p = (p.0 ++ zs, sym (append_assoc xs p.0 zs) ∙ ap (λ l. l ++ zs) p.1)

-- answers, and then more answers on the same channel
answered_both : (a b c : List Sent) (was mid now : Bool) (xs ys : List Sent) → HasAnswered a b was mid xs → HasAnswered b c mid now ys → HasAnswered a c was now (xs ++ ys)
answered_both a b c was mid now xs ys h k = record {
  kept = λ gone. let one = h.kept gone in let two = k.kept one.0 in (two.0, two.1 ∙ one.1);
  sent = elim h.sent [
    | inl one ↦ elim k.sent [
      | inl two ↦ inl (one.0, two.1, two.2 ∙ ap (λ l. l ++ ys) one.2 ∙ append_assoc a xs ys)
      | inr two ↦ inr (
        two.0,
        prefix_trans a b c (xs, sym one.2) two.1,
        subst (λ l. IsPrefix c l) (ap (λ l. l ++ ys) one.2 ∙ append_assoc a xs ys) two.2,
      )
    ]
    | inr one ↦ let two = k.kept one.0 in inr (
      two.0,
      subst (λ l. IsPrefix a l) (sym two.1) one.1,
      subst (λ l. IsPrefix l (a ++ (xs ++ ys))) (sym two.1) (subst (λ l. IsPrefix b l) (append_assoc a xs ys) (prefix_more b (a ++ xs) ys one.2)),
    )
  ];
}

have_answered_both : (old mid new : List (AnswerSender Sent)) (xs ys : List Sent) → HaveAnswered old xs mid → HaveAnswered mid ys new → HaveAnswered old (xs ++ ys) new
have_answered_both old mid new xs ys h k = record {
  count = k.count ∙ h.count;
  each = λ n a c here there.
      let m = some_beside mid new n c k.count there in
      let one = h.each n a m.0 here m.1 in
      let two = k.each n m.0 c m.1 there in (
        two.0 ∙ one.0,
        subst (λ l. HasAnswered (sent_of a.pass) (sent_of c.pass) a.gone c.gone l) (sym (answers_to-append (n + 1) xs ys))
            (answered_both (sent_of a.pass) (sent_of m.0.pass) (sent_of c.pass) a.gone m.0.gone c.gone (answers_to (n + 1) xs) (answers_to (n + 1) ys) one.1 two.1),
      );
}

have_answered_none : (old : List (AnswerSender Sent)) → HaveAnswered old [] old
have_answered_none old = record { count = refl; each = λ k a b here there. same a b (k + 1) (sym here ∙ there) }
  where
    same : (a b : AnswerSender Sent) (s : ℕ) → Some a ≡ Some b → (sends_on b.channel ≡ sends_on a.channel) × HasAnswered (sent_of a.pass) (sent_of b.pass) a.gone b.gone (answers_to s [])
    same a b s e =
        let is : a ≡ b = cc in
        subst (λ (z : AnswerSender Sent). (sends_on z.channel ≡ sends_on a.channel) ×
        HasAnswered (sent_of a.pass) (sent_of z.pass) a.gone z.gone (answers_to s [])) is (refl, still (sent_of a.pass) a.gone)
      where
        still : (l : List Sent) (gone : Bool) → HasAnswered l l gone gone []
        still l true = record { kept = λ _. (refl, refl); sent = inr (refl, prefix_self l, ([], refl)) }
        still l false = record { kept = λ bad. absurd (true≢false (sym bad)); sent = inl (refl, refl, sym (append-nil l)) }

-- ---- rounds

module _ {D : Type 0} (view : D → View) (base : State) where
  abbrev world : FlusherView D → List (Reply Global) → World Global
  world f a = world_of (stage_of (progress_of f)) a

  -- what rounds took and answered, as one run of the core from these lines
  record Joined (f h : FlusherView D) (a : List (Reply Global)) (xs : List L) : Type 0 where
    popped : List Entry
    taken : h.taker.taken ≡ f.taker.taken ++ popped
    answers : List Sent
    asked : commands_of answers ≡ commands_among popped
    answered : HaveAnswered f.senders answers h.senders
    events : List E
    one_life : IsOneLife events
    submitted : Sublist (submissions events) (commands_among popped)
    lines : List L
    run : Run base (at (world f a) xs) events (at (world h (a ++ entries_of answers)) lines)

  no_rounds : (f : FlusherView D) (a : List (Reply Global)) (xs : List L) → Joined f f a xs
  no_rounds f a xs = record {
    popped = [];
    taken = sym (append-nil f.taker.taken);
    answers = [];
    asked = refl;
    answered = have_answered_none f.senders;
    events = [];
    one_life = tt;
    submitted = Sublist.refl [];
    lines = xs;
    run = ap (λ l. at (world f l) xs) (append-nil a);
  }

  joined_both : (f g h : FlusherView D) (a : List (Reply Global)) (xs : List L) (one : Joined f g a xs) → Joined g h (a ++ entries_of one.answers) one.lines → Joined f h a xs
  joined_both f g h a xs one two =
      let answers = one.answers ++ two.answers in
      let some = commands_among-append one.popped two.popped in
      record {
        popped = one.popped ++ two.popped;
        taken = two.taken ∙ ap (λ l. l ++ two.popped) one.taken ∙ append_assoc f.taker.taken one.popped two.popped;
        answers = answers;
        asked = commands_of-append one.answers two.answers ∙ ap (λ l. l ++ commands_of two.answers) one.asked ∙ ap (λ l. commands_among one.popped ++ l) two.asked ∙ sym some;
        answered = have_answered_both f.senders g.senders h.senders one.answers two.answers one.answered two.answered;
        events = one.events ++ two.events;
        one_life = one_life_both one.events two.events one.one_life two.one_life;
        submitted = subst (λ (q : List G × List G). Sublist q.0 q.1) (λ i. (sym (submissions-append one.events two.events) i, sym some i)) (Sublist.append one.submitted two.submitted);
        lines = two.lines;
        run =
            let end : (a ++ entries_of one.answers) ++ entries_of two.answers ≡ a ++ entries_of answers =
            append_assoc a (entries_of one.answers) (entries_of two.answers) ∙ ap (λ l. a ++ l) (sym (entries_of-append one.answers two.answers)) in
            run-append base one.events two.events _ _ _ one.run (subst (λ l. Run base (at (world g (a ++ entries_of one.answers)) one.lines) two.events (at (world h l) two.lines)) end two.run);
      }

  -- a round, and that nothing waits after it
  abbrev IsJoined : ℕ → FlusherView D → FlusherView D → List (Reply Global) → List L → Type 0
  IsJoined n f g a xs = (one : Joined f g a xs) × AreQuiet n one.lines

  -- the disk had failed before: nothing is done in the core
  broken_round : (n : ℕ) (f g : FlusherView D) (r : IsRound view base f g) (a : List (Reply Global)) (xs : List L) → AreQuiet n xs
      → AreServedBy base (view g.store.disk).moment (progress_of f) (progress_of g) (commands_among r.popped) r.served.answers true → IsJoined n f g a xs
  broken_round n f g r a xs quiet how =
      let answers = r.served.answers in
      let none : entries_of answers ≡ [] = ap entries_of how.each ∙ no_entries (view g.store.disk).moment g.published (commands_among r.popped) in
      let same : stage_of (progress_of f) ≡ stage_of (progress_of g) = λ i. stage (sym how.published i) (sym how.durable i) (is_checking (sym how.store i)) ((sym how.store i).broken) in (
        record {
          popped = r.popped;
          taken = r.taken.taken;
          answers = answers;
          asked = r.served.asked;
          answered = r.served.answered;
          events = [];
          one_life = tt;
          submitted = nil-sublist (commands_among r.popped);
          lines = xs;
          run = λ i. at (world_of (sym same i) ((ap (λ e. a ++ e) none ∙ append-nil a) i)) xs;
        },
        quiet,
      )

  -- else its commands are submitted, and the events of the round follow
  sound_round : (n : ℕ) (f g : FlusherView D) (r : IsRound view base f g) (a : List (Reply Global)) (xs : List L) → AreQuiet n xs → f.taker.made ≡ n → f.store.broken ≡ false → IsJoined n f g a xs
  sound_round n f g r a xs quiet made up =
      let core = r.served.run in
      let answers = r.served.answers in
      let mine = take core.reached (commands_among r.popped) in
      let stations = subst (λ m. AllByRecursion (λ (x : Entry). (0 < station_of x) × (station_of x ≤ m)) r.popped) made r.taken.stations in
      let are = first_of_them xs core.reached (commands_among r.popped) (of_the_stations n xs r.popped quiet stations) in
      let begin = submits_run base (world f a) n mine xs up quiet are in
      let joined : (later : List L) → Run base (at (world f a) (fed mine xs)) core.events (at (world g (a ++ entries_of answers)) later) → Joined f g a xs =
      λ later rest. record {
        popped = r.popped;
        taken = r.taken.taken;
        answers = answers;
        asked = r.served.asked;
        answered = r.served.answered;
        events = submits mine ++ core.events;
        one_life = one_life_both (submits mine) core.events (one_life_submits mine) (one_life_own core.events core.own);
        submitted = subst (λ l. Sublist l (commands_among r.popped))
            (sym (submissions-append (submits mine) core.events ∙ ap (λ l. l ++ submissions core.events) (submits_them mine) ∙
            ap (λ l. mine ++ l) (submits_own core.events core.own) ∙ append-nil mine))
            (take_is_some core.reached (commands_among r.popped));
        lines = later;
        run = run-append base (submits mine) core.events _ _ _ begin rest;
      } in
      elim core.run [
        | inl goes ↦ let end = goes a xs are in (joined end.0 end.2, end.1 ∙ quiet)
        | inr stops ↦ let end = stops.stops a xs are in (
          joined end.0 (subst (λ l. Run base (at (world f a) (fed mine xs)) core.events (at (world g l) end.0)) (sym (ap (λ e. a ++ e) stops.none ∙ append-nil a)) end.2),
          end.1 ∙ quiet_emptied n xs quiet,
        )
      ]

  one_round : (n : ℕ) (f g : FlusherView D) (r : IsRound view base f g) (a : List (Reply Global)) (xs : List L) → AreQuiet n xs → f.taker.made ≡ n → IsJoined n f g a xs
  one_round n f g r a xs quiet made = by f.store.broken refl
    where
      by : (b : Bool) → f.store.broken ≡ b → IsJoined n f g a xs
      by true e = broken_round n f g r a xs quiet (subst (AreServedBy base (view g.store.disk).moment (progress_of f) (progress_of g) (commands_among r.popped) r.served.answers) e r.served.served)
      by false e = sound_round n f g r a xs quiet made e

  all_rounds : (n : ℕ) (f h : FlusherView D) → AreRounds view base f h → (a : List (Reply Global)) (xs : List L) → AreQuiet n xs → f.taker.made ≡ n → Joined f h a xs
  all_rounds n f h (none x) a xs quiet made = no_rounds x a xs
  all_rounds n f h (next x g y r rest) a xs quiet made =
      let first = one_round n x g r a xs quiet made in
      let one = first.0 in
      joined_both x g y a xs one (all_rounds n g y rest (a ++ entries_of one.answers) one.lines first.1 (r.taken.made ∙ made))

  -- the rounds of a new flusher
  pub core_run : (n : ℕ) (opened : StoreView Global D) (f h : FlusherView D) → opened.broken ≡ false → IsNewFlusher n opened f → AreRounds view base f h → IsCoreRun base n f h
  core_run n opened f h up new rounds =
      let xs : List L = replicate n (line [] 0) in
      let b = is_checking opened in
      let sound : f.store.broken ≡ false = ap (λ (s : StoreView Global D). s.broken) new.store ∙ up in
      let all = all_rounds n f h rounds [] xs (quiet_new n) (ap (λ (t : Taking). t.made) new.queue) in
      let at_first : stage [] [] b false ≡ stage_of (progress_of f) = λ i. stage (sym new.published i) (sym new.durable i) (is_checking (sym new.store i)) (sym sound i) in
      let none : f.taker.taken ≡ [] = ap (λ (t : Taking). t.taken) new.queue in
      let popped : h.taker.taken ≡ all.popped = all.taken ∙ ap (λ l. l ++ all.popped) none in
      record {
        answers = all.answers;
        asked = all.asked ∙ ap commands_among (sym popped);
        answered = all.answered;
        events = begins b ++ all.events;
        one_life = one_life_both (begins b) all.events (begins_one_life b) all.one_life;
        submitted = subst (λ (q : List G × List Entry). Sublist q.0 (commands_among q.1))
            (λ i. (sym (submissions-append (begins b) all.events ∙ ap (λ l. l ++ submissions all.events) (begins_without b)) i, sym popped i))
            all.submitted;
        lines = all.lines;
        run = run-append base (begins b) all.events _ _ _ (subst (λ s. Run base (opening n) (begins b) (at (world_of s []) xs)) at_first (begun base n b)) all.run;
      }
