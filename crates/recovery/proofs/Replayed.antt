-- Records read and played one after another.
use Rattle.std.proofs.Common.{◌≡◌, inl, inr, ℕ, ◌+◌, ◌<◌, List, [], ◌∷◌, ◌++◌, length, Some, None, Result, Ok, Err, refl, sym, subst, ap, append_assoc, ◌∙◌}
use Rattle.centre_core.specs.Asked.{Asked}
use Rattle.centre_core.specs.State.{State}
use Rattle.gated_journal.specs.declared.fault.JournalError.{JournalError}
use Rattle.gated_journal.specs.declared.fault.JournalError.TheVariants as journal
use Rattle.gated_journal.specs.declared.form.Form.{Form}
use Rattle.gated_journal.specs.Half.{RecordAt, Half, half_of, record_at, with_prefix}
use Rattle.gated_journal.specs.Reading as reading
use Rattle.gated_journal.proofs.Halves.{error_on, prefix_closed, prefix_more, prefix_none}
use Rattle.checkpoint.specs.OnSide.{RecordsAndGate}
use Rattle.recovery.specs.declared.fault.StoreFault.{StoreFault}
use Rattle.recovery.specs.declared.fault.StoreFault.TheVariants.{NoMemory}
use Rattle.recovery.specs.Opens.{held_by, played, played_from, run, taken, ◌>>=◌}
use Rattle.recovery.specs.Opening.{Fails, IsCutShort, NeedsMemory, Stops, fault_of}
use Rattle.recovery.specs.Inside.Played.{HasPlayed, RunsShort}
use Rattle.recovery.proofs.Chained.{fails_then}

-- a fault of reading that is out of memory
pub is_no_memory : (e : JournalError) → fault_of e ≡ NoMemory → e ≡ journal.NoMemory
is_no_memory (journal.Damaged at) is = absurd cc
is_no_memory journal.DiskFault is = absurd cc
is_no_memory journal.NoMemory is = refl
is_no_memory journal.JournalFull is = absurd cc

-- ---- a fault before a half, or in it

module _ {A : Type 0} where
  -- the records of the half are good
  pub stops_good : (e : StoreFault) (held : RecordsAndGate A) (half : Half A) (is : Result (State × ℕ) StoreFault) → half ≡ Ok held → Stops e (held_by half) is → Fails e is
  stops_good e held half is good stops = subst (λ (h : Half A). Stops e (held_by h) is) good stops

  -- they are not
  pub stops_bad : (e : StoreFault) (reported : JournalError) (half : Half A) (is : Result (State × ℕ) StoreFault) → reading.Fails reported half →
      Stops e (held_by half) is → Fails (fault_of reported) is
  stops_bad e (journal.Damaged s) half is bad stops = subst (λ (h : Half A). Stops e (held_by h) is) bad stops
  stops_bad e journal.DiskFault half is bad stops = tt
  stops_bad e journal.NoMemory half is bad stops = tt
  stops_bad e journal.JournalFull half is bad stops = absurd bad

  -- ---- records that are played

  prefix_twice : (prefix more : List (RecordAt A)) (half : Half A) → with_prefix prefix (with_prefix more half) ≡ with_prefix (prefix ++ more) half
  prefix_twice prefix more (Ok half) = ap (λ (entries : List (RecordAt A)). Ok (entries, half.1)) (sym (append_assoc prefix more half.0))
  prefix_twice prefix more (Err s) = refl

  played_after : (s t : State) (xs ys : List (RecordAt A)) → played s xs ≡ Ok t → played s (xs ++ ys) ≡ played t ys
  unfolding played
  played_after s t [] ys is = let same : s ≡ t = cc in ap (λ (u : State). played u ys) same
  played_after s t (x ∷ xs) ys is = by (taken x.0 (run s x.1)) (λ u more. played_after u t xs ys more) is
    where
      by : (r : Result State StoreFault) → ((u : State) → played u xs ≡ Ok t → played u (xs ++ ys) ≡ played t ys) → (r >>= λ u. played u xs) ≡ Ok t
          → (r >>= λ u. played u (xs ++ ys)) ≡ played t ys
      by (Ok u) more is = more u is
      by (Err e) more is = absurd cc

  pub plays_none : (s : State) (half : Half A) → HasPlayed s s half half
  unfolding played
  plays_none s half = ([], sym (prefix_none half), refl)

  pub plays_both : (s t u : State) (half mid rest : Half A) → HasPlayed s t half mid → HasPlayed t u mid rest → HasPlayed s u half rest
  plays_both s t u half mid rest (first, is, done) (second, goes, more) =
      (first ++ second, is ∙ ap (with_prefix first) goes ∙ prefix_twice first second rest, played_after s t first second done ∙ more)

  -- ---- where memory runs out

  pub runs_short_on : (s t u : State) (half mid rest : Half A) {X Y : Type 0} → (X → Y) → HasPlayed s t half mid → RunsShort t u mid rest X → RunsShort s u half rest Y
  runs_short_on s t u half mid rest so (first, is, done) short = record {
    done = first ++ short.done;
    next = short.next;
    after = short.after;
    state = short.state;
    all = is ∙ ap (with_prefix first) short.all ∙ prefix_twice first (short.done ++ short.next ∷ []) short.after
        ∙ ap (λ (entries : List (RecordAt A)). with_prefix entries short.after) (sym (append_assoc first short.done (short.next ∷ [])));
    accepted = played_after s t first short.done done ∙ short.accepted;
    stops = elim short.stops [ inl unread ↦ inl (so unread.0, unread.1, unread.2) | inr cut ↦ inr cut ];
  }

  -- what is after some good records is good
  pub record Follows (prefix : List (RecordAt A)) (after : Half A) (held : RecordsAndGate A) : Type 0 where
    pub found : RecordsAndGate A
    pub is : after ≡ Ok found
    pub all : held.0 ≡ prefix ++ found.0
    pub gate : held.1 ≡ found.1

  follows : (prefix : List (RecordAt A)) (after : Half A) (held : RecordsAndGate A) → with_prefix prefix after ≡ Ok held → Follows prefix after held
  follows prefix (Ok found) held good =
      let same : ◌≡◌ {A = RecordsAndGate A} (prefix ++ found.0, found.1) held = cc in
      record { found = found; is = refl; all = ap (λ (h : RecordsAndGate A). h.0) (sym same); gate = ap (λ (h : RecordsAndGate A). h.1) (sym same) }
  follows prefix (Err at) held good = absurd cc

  pub short_good : (s t : State) (half rest : Half A) {X : Type 0} → RunsShort s t half rest X → (held : RecordsAndGate A) → rest ≡ Ok held
      → (found : RecordsAndGate A) × (half ≡ Ok found) × (found.1 ≡ held.1)
  short_good s t half rest short held good =
      let last : (found : RecordsAndGate A) × (short.after ≡ Ok found) × (found.1 ≡ held.1) = elim short.stops [
        | inl unread ↦ let f = follows (short.next ∷ []) short.after held (sym unread.1 ∙ good) in (f.found, f.is, sym f.gate)
        | inr cut ↦ (held, sym cut.0 ∙ good, refl)
      ] in
      ((short.done ++ short.next ∷ [] ++ last.0.0, last.0.1), short.all ∙ ap (with_prefix (short.done ++ short.next ∷ [])) last.1, last.2)

  -- where the records are good, they are cut short at that one
  pub cut_short : (s t : State) (half rest : Half A) {X : Type 0} → RunsShort s t half rest X → (held : RecordsAndGate A) → half ≡ Ok held → IsCutShort s held.0 X
  cut_short s t half rest short held good =
      let last = follows (short.done ++ short.next ∷ []) short.after held (sym short.all ∙ good) in
      record {
        done = short.done;
        next = short.next;
        later = last.found.0;
        state = short.state;
        all = last.all ∙ append_assoc short.done (short.next ∷ []) last.found.0;
        accepted = short.accepted;
        stops = elim short.stops [ inl unread ↦ inl unread.0 | inr cut ↦ inr (t, cut.1) ];
      }

  -- ---- one record

  -- the rest of a half's records are played after the first
  abbrev on_held : RecordsAndGate A → Result State StoreFault → Result (State × ℕ) StoreFault
  on_held held r = (r >>= λ t. played t held.0) >>= λ t. Ok (t, held.1)

  module _ (form : Form) (before : ℕ) (image : List (List ℕ)) (at end : ℕ) (lt : at < end) where
    from_record : (commands : List (Asked A)) (next : ℕ) → record_at form before image at end ≡ Ok (Some (commands, next)) →
        half_of form before image at end ≡ with_prefix ((at + 1, commands) ∷ []) (half_of form (before + length commands) image next end)
    from_record commands next is = let half = half_of {A = A} form before image at end in sym (prefix_more form before image at end [] half lt (prefix_none half) commands next is)

    from_closed : record_at {A = A} form before image at end ≡ Ok None → half_of {A = A} form before image at end ≡ Ok ([], at)
    from_closed is = let half = half_of {A = A} form before image at end in prefix_closed form before image at end [] half lt (prefix_none half) is

    module _ (s : State) where
      pub plays_closed : record_at {A = A} form before image at end ≡ Ok None → played_from s (half_of {A = A} form before image at end) ≡ Ok (s, at)
      unfolding played
      plays_closed is = ap (played_from s) (from_closed is)

      module _ (commands : List (Asked A)) (next : ℕ) (there : record_at form before image at end ≡ Ok (Some (commands, next))) where
        with_more : (half : Half A) (r : Result State StoreFault) → taken (at + 1) (run s commands) ≡ r
            → played_from s (with_prefix ((at + 1, commands) ∷ []) half) ≡ (held_by half >>= λ held. on_held held r)
        unfolding played
        with_more (Ok held) r is = ap (on_held held) is
        with_more (Err x) r is = refl

        -- its commands are accepted
        pub plays_record : (t : State) → taken (at + 1) (run s commands) ≡ Ok t →
            played_from s (half_of {A = A} form before image at end) ≡ played_from t (half_of {A = A} form (before + length commands) image next end)
        plays_record t is = ap (played_from s) (from_record commands next there) ∙ with_more (half_of form (before + length commands) image next end) (Ok t) is

        pub plays_one : (t : State) → taken (at + 1) (run s commands) ≡ Ok t →
            HasPlayed s t (half_of {A = A} form before image at end) (half_of {A = A} form (before + length commands) image next end)
        unfolding played
        plays_one t is = ((at + 1, commands) ∷ [], from_record commands next there, rw is refl)

        -- one of them needs memory
        pub short_in_record : {X : Type 0} (t : State) → NeedsMemory s commands t →
            RunsShort s t (half_of {A = A} form before image at end) (half_of {A = A} form (before + length commands) image next end) X
        unfolding played
        short_in_record t needs = record {
          done = [];
          next = (at + 1, commands);
          after = half_of {A = A} form (before + length commands) image next end;
          state = s;
          all = from_record commands next there;
          accepted = refl;
          stops = inr (refl, needs);
        }

        -- it was not read
        pub short_of_record : {X : Type 0} → X → RunsShort s s (half_of {A = A} form before image at end) (half_of {A = A} form before image at end) X
        unfolding played
        short_of_record again = record {
          done = [];
          next = (at + 1, commands);
          after = half_of {A = A} form (before + length commands) image next end;
          state = s;
          all = from_record commands next there;
          accepted = refl;
          stops = inl (again, from_record commands next there, refl);
        }

        -- one of them is not, or needs memory
        pub plays_stop : (e : StoreFault) → Fails e (taken (at + 1) (run s commands)) →
            Stops e (held_by (half_of {A = A} form (before + length commands) image next end))
            (played_from s (half_of {A = A} form before image at end))
        plays_stop e failed =
            let r = taken (at + 1) (run s commands) in
            let whole : played_from s (half_of {A = A} form before image at end) ≡
            (held_by (half_of {A = A} form (before + length commands) image next end) >>= λ held.
            on_held held (taken (at + 1) (run s commands))) = ap (played_from s) (from_record commands next there) ∙
            with_more (half_of form (before + length commands) image next end) r refl in
            by (half_of form (before + length commands) image next end) (played_from s (half_of {A = A} form before image at end)) whole
          where
            by : (half : Half A) (is : Result (State × ℕ) StoreFault) → is ≡ (held_by half >>= λ held. on_held held (taken (at + 1) (run s commands))) → Stops e (held_by half) is
            by (Ok held) is whole =
                subst (λ (q : Result (State × ℕ) StoreFault). Fails e q) (sym whole)
                (fails_then e (taken (at + 1) (run s commands) >>= λ t. played t held.0) (λ t. Ok (t, held.1)) (fails_then e (taken (at + 1) (run s commands)) (λ t. played t held.0) failed))
            by (Err x) is whole = whole

-- the sector that is at fault at a gate is so in the half
pub plays_fault : (A : Type 0) (form : Form) (before : ℕ) (image : List (List ℕ)) (at end : ℕ) → at < end → (s : State) (e : JournalError) →
    reading.Fails e (record_at {A = A} form before image at end)
    → Stops (fault_of e) (held_by (half_of {A = A} form before image at end)) (played_from s (half_of {A = A} form before image at end))
plays_fault A form before image at end lt s e is =
    let half = half_of {A = A} form before image at end in
    by half e (error_on form before image at end [] half lt (prefix_none half) e is)
  where
    by : (half : Half A) (e : JournalError) → reading.Fails e half → Stops (fault_of e) (held_by half) (played_from s half)
    by (Err x) e is = refl
    by (Ok held) (journal.Damaged x) is = absurd cc
    by (Ok held) journal.DiskFault is = tt
    by (Ok held) journal.NoMemory is = tt
    by (Ok held) journal.JournalFull is = absurd is
