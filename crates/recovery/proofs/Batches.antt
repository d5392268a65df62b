-- A batch of commands that is applied in turn.
use Rattle.std.proofs.Common.{◌≡◌, ℕ, suc, ◌+◌, ◌-◌, ◌<◌, ◌≤◌, Bool, true, false, IsTrue, List, [], ◌∷◌, ◌++◌, length, map, take, drop, replicate}
use Rattle.std.proofs.Common.{get_or, Some, Result, Ok, Err, OnOk, OnErr, refl, sym, ap, subst, ◌∙◌, append_assoc, option_map, arith}
use Rattle.std.specs.List.{flat_map, slice_get}
use Rattle.std.proofs.lemmas.List.Concat.{flat_map-cons}
use Rattle.std.proofs.lemmas.List.Folds.{flat_map-map}
use Rattle.std.proofs.lemmas.Grind.{flat_map-append}
use Rattle.std.proofs.lemmas.Option.{slice_get-map, slice_get_read, slice_get_within}
use Rattle.std.specs.Prelude.{if◌then◌else◌}
use Rattle.std.specs.Borrow.{Bor}
use Rattle.std.proofs.lemmas.List.{append-nil, length-append, length-map, length-take-le, map-append, map_more, replicate_more, take-append-drop, take-map}
use Rattle.std.proofs.lemmas.Simd.{map-map}
use mathlib.Core.Bool.{false≢true}
use Rattle.centre_core.specs.Asked.{Asked}
use Rattle.centre_core.specs.Batches.{replies, taken}
use Rattle.centre_core.specs.declared.reply.Reply.{Reply}
use Rattle.centre_core.specs.declared.reply.Reply.TheVariants.{Accepted, Kept, Refused}
use Rattle.centre_core.specs.State.{State}
use Rattle.centre_core.specs.Step.{step}
use Rattle.centre_core.specs.Memory.{needs_memory}
use Rattle.centre_core.specs.History.{is_acceptance, accepts, after, next}
use Rattle.centre_core.specs.Histories.{IsHistory}
use Rattle.centre_core.proofs.HistoryLaws.{counted, counted_next}
use Rattle.centre_core.proofs.InTurnLaws.{after-append}
use Rattle.centre_core.proofs.JoinedLaws.{after_taken, taken_history}
use Rattle.centre_core.proofs.SameLaws.{accepts_are_same, step_is_same}
use Rattle.centre_core.proofs.StateLaws.{step_is_next}
use Rattle.centre_core.proofs.StepLaws as core
use Rattle.recovery.specs.declared.outcome.Outcome.{Outcome}
use Rattle.recovery.specs.declared.outcome.Outcome.TheVariants.{NoMemory, Replied}
use Rattle.centre_core.specs.Same.{under}
use Rattle.command_bytes.specs.Text.{command_text}
use Rattle.gated_journal.specs.Record.{given}
use Rattle.recovery.specs.Outcomes.{AreApplied, AreRecorded, IsAnswered, IsEnd, asked}
use Rattle.recovery.proofs.Limited.{step_limits}

-- one more of the same after a list
pub filled_one : {X : Type 0} (old now new : List X) (n k : ℕ) (x : X) → now ≡ old ++ replicate n x → new ≡ now ++ x ∷ [] → n + 1 ≡ k → new ≡ old ++ replicate k x
filled_one old now new n k x so_far more next =
    let one : new ≡ (old ++ replicate n x) ++ x ∷ [] = more ∙ ap (λ l. l ++ x ∷ []) so_far in
    one ∙ append_assoc old (replicate n x) (x ∷ []) ∙ ap (λ l. old ++ l) (replicate_more n x) ∙ ap (λ m. old ++ replicate m x) next

-- whether a command is accepted does not hang on where its reply is kept
pub same_verdict : {B : Type 0} (C : Type 0) (s : State) (c : Asked B) → is_acceptance (step {B = C} s c).1 ≡ accepts s c
same_verdict C s c = sym (ap (λ r. is_acceptance r.1) (step_is_same C C s c)) ∙ accepts_are_same C s c

-- a command that is accepted is counted
pub counted_one : {B C : Type 0} (s t : State) (c : Asked B) (reply : Reply C) → (t, reply) ≡ step s c → is_acceptance reply ≡ true → t.count ≡ s.count + 1
counted_one {B} {C} s t c reply done is =
    let state : t ≡ next s c = ap (λ (r : State × Reply C). r.0) done ∙ step_is_next C s c in
    let verdict : accepts s c ≡ true = sym (same_verdict C s c) ∙ sym (ap (λ (r : State × Reply C). is_acceptance r.1) done) ∙ is in
    ap (λ (u : State). u.count) state ∙ counted_next s c verdict

module _ {B : Type 0} where
  -- a command that is not accepted changes nothing
  idle_by : (s t : State) (c : Asked B) (reply : Reply B) → core.Outcome s c t reply → is_acceptance reply ≡ false → t ≡ s
  idle_by s t c (Accepted number pdu) says refused = absurd (false≢true (sym refused))
  idle_by s t c (Kept number pdu) says refused = says
  idle_by s t c (Refused refusal) says refused = says

  pub idle : (s : State) (c : Asked B) → accepts s c ≡ false → next s c ≡ s
  idle s c refused = idle_by s (next s c) c (step s c).1 (core.says B s c) refused

  -- ---- the accepted ones of a list, by whether its first is one

  abbrev pub first_or : Bool → Asked B → List (Asked B) → List (Asked B)
  first_or b c cs = if b then c ∷ cs else cs

  count_by : (c : Asked B) (rest : List (Asked B)) (b : Bool) → length (first_or b c rest) ≤ 1 + length rest
  count_by c rest true = omega arith
  count_by c rest false = omega arith

  more_by : (c : Asked B) (rest more : List (Asked B)) (b : Bool) → first_or b c (rest ++ more) ≡ first_or b c rest ++ more
  more_by c rest more true = refl
  more_by c rest more false = refl

  pub accepted_count : (s : State) (cs : List (Asked B)) → length (taken s cs) ≤ length cs
  accepted_count s [] = omega arith
  accepted_count s (c ∷ cs) = omega (arith, count_by c (taken (next s c) cs) (accepts s c), accepted_count (next s c) cs)

  size_by : (c : Asked B) (rest : List (Asked B)) (b : Bool) → length (flat_map command_text (first_or b c rest)) ≤ length (command_text c) + length (flat_map command_text rest)
  size_by c rest true = omega (arith, ap length (flat_map-cons command_text c rest), length-append (command_text c) (flat_map command_text rest))
  size_by c rest false = omega arith

  accepted_size : (s : State) (cs : List (Asked B)) → length (flat_map command_text (taken s cs)) ≤ length (flat_map command_text cs)
  accepted_size s [] = omega arith
  accepted_size s (c ∷ cs) =
      let rest = taken (next s c) cs in
      omega (arith, size_by c rest (accepts s c), accepted_size (next s c) cs, ap length (flat_map-cons command_text c cs), length-append (command_text c) (flat_map command_text cs))

  prefix_size : (cs : List (Asked B)) (n : ℕ) → length (flat_map command_text (take n cs)) ≤ length (flat_map command_text cs)
  prefix_size cs n =
      let parts : length (flat_map command_text cs) ≡ length (flat_map command_text (take n cs)) + length (flat_map command_text (drop n cs)) =
      ap (λ (l : List (Asked B)). length (flat_map command_text l)) (sym (take-append-drop n cs)) ∙
      ap length (flat_map-append command_text (take n cs) (drop n cs)) ∙
      length-append (flat_map command_text (take n cs)) (flat_map command_text (drop n cs)) in
      omega (arith, parts)

  pub accepted_more : (s : State) (xs ys : List (Asked B)) → taken s (xs ++ ys) ≡ taken s xs ++ taken (after s xs) ys
  accepted_more s [] ys = refl
  accepted_more s (x ∷ xs) ys = ap (first_or (accepts s x) x) (accepted_more (next s x) xs ys) ∙ more_by x (taken (next s x) xs) (taken (after (next s x) xs) ys) (accepts s x)

  pub replies_more : (C : Type 0) (s : State) (xs ys : List (Asked B)) → replies C s (xs ++ ys) ≡ replies C s xs ++ replies C (after s xs) ys
  replies_more C s [] ys = refl
  replies_more C s (x ∷ xs) ys = ap (λ l. (step {B = C} s x).1 ∷ l) (replies_more C (next s x) xs ys)

  pub length-replies : (C : Type 0) (s : State) (xs : List (Asked B)) → length (replies C s xs) ≡ length xs
  length-replies C s [] = refl
  length-replies C s (x ∷ xs) = ap suc (length-replies C (next s x) xs)

  -- none of all is accepted: nor of the first ones
  no_prefix : (xs ys : List (Asked B)) → xs ++ ys ≡ [] → xs ≡ []
  no_prefix [] ys e = refl
  no_prefix (x ∷ xs) ys e = absurd cc

  pub none_accepted : (s : State) (cs : List (Asked B)) (n : ℕ) → taken s cs ≡ [] → taken s (take n cs) ≡ []
  none_accepted s cs n none =
      no_prefix (taken s (take n cs)) (taken (after s (take n cs)) (drop n cs)) (sym (accepted_more s (take n cs) (drop n cs)) ∙ ap (taken s) (take-append-drop n cs) ∙ none)

  -- ---- the limits stay

  pub limits_after : (s : State) (cs : List (Asked B)) → (after s cs).registered.limits ≡ s.registered.limits
  limits_after s [] = refl
  limits_after s (c ∷ cs) = limits_after (next s c) cs ∙ step_limits s (next s c) c (step {B = B} s c).1 refl

  -- ---- one more is applied

  pub collected : (s : State) (c : Bor (Asked B)) (old new : List (Bor (Asked B))) → accepts s c.now ≡ true → new ≡ old ++ c ∷ [] → asked new ≡ asked old ++ first_or (accepts s c.now) c.now []
  collected s c old new taken_is more =
      ap asked more ∙ map-append (λ (x : Bor (Asked B)). x.now) old (c ∷ []) ∙ ap (λ b. asked old ++ first_or b c.now []) (sym taken_is)

  pub left_out : (s : State) (c : Bor (Asked B)) (old new : List (Bor (Asked B))) → accepts s c.now ≡ false → new ≡ old → asked new ≡ asked old ++ first_or (accepts s c.now) c.now []
  left_out s c old new refused same =
      ap asked same ∙ sym (append-nil (asked old)) ∙ ap (λ b. asked old ++ first_or b c.now []) (sym refused)

  take_one : (cs : List (Bor (Asked B))) (i : ℕ) (c : Bor (Asked B)) → i < length cs → c ≡ get_or cs i c → take (i + 1) (asked cs) ≡ take i (asked cs) ++ c.now ∷ []
  take_one cs i c lt is =
      take-map (λ (x : Bor (Asked B)). x.now) (i + 1) cs ∙ map_more (λ (x : Bor (Asked B)). x.now) cs i c lt ∙
      ap (λ l. l ++ (get_or cs i c).now ∷ []) (sym (take-map (λ (x : Bor (Asked B)). x.now) i cs))
      ∙ ap (λ (x : Bor (Asked B)). take i (asked cs) ++ x.now ∷ []) (sym is)

  -- the next one found refused memory
  pub wanted : (cs : List (Bor (Asked B))) (i : ℕ) (c : Bor (Asked B)) (t : State) → i < length cs → c ≡ get_or cs i c → IsTrue (needs_memory t c.now) → IsEnd (asked cs) i t
  wanted cs i c t lt is memory = record {
    most = omega (arith, lt, length-map cs (λ (x : Bor (Asked B)). x.now));
    wants = λ d e.
        let here : slice_get (asked cs) i ≡ Some c.now = slice_get-map (λ (x : Bor (Asked B)). x.now) cs i ∙
        ap (option_map (λ (x : Bor (Asked B)). x.now)) (slice_get_read cs (length cs) i c refl lt is) in
        let same : c.now ≡ d = cc in
        subst (λ (x : Asked B). IsTrue (needs_memory t x)) same memory;
  }

  -- all were applied
  all_done : (cs : List (Asked B)) (t : State) → IsEnd cs (length cs) t
  all_done cs t = record { most = omega arith; wants = λ c e. let within = slice_get_within cs (length cs) c e in absurd (omega (arith, within)) }

  pub applied_one : {C : Type 0} (s t u : State) (cs : List (Bor (Asked B))) (i : ℕ) (c : Bor (Asked B)) (outcomes more : List (Outcome C))
      (accepted others : List (Asked B)) → i < length cs → c ≡ get_or cs i c
      → AreApplied s (asked cs) i t outcomes accepted → u ≡ next t c.now → more ≡ outcomes ++ map Replied (replies C t (c.now ∷ [])) → others ≡ accepted ++ taken t (c.now ∷ [])
      → AreApplied s (asked cs) (i + 1) u more others
  applied_one {C} s t u cs i c outcomes more accepted others lt is so_far u_is more_is others_is =
      let prefix = take i (asked cs) in
      let one : take (i + 1) (asked cs) ≡ prefix ++ c.now ∷ [] = take_one cs i c lt is in
      record {
        state = u_is ∙ ap (λ x. next x c.now) so_far.state ∙ sym (after-append s prefix (c.now ∷ [])) ∙ ap (after s) (sym one);
        replied =
            more_is ∙ ap (λ l. l ++ map Replied (replies C t (c.now ∷ []))) so_far.replied ∙ ap (λ x. map Replied (replies C s prefix) ++ map Replied (replies C x (c.now ∷ []))) so_far.state
            ∙ sym (map-append Replied (replies C s prefix) (replies C (after s prefix) (c.now ∷ []))) ∙
            ap (map Replied) (sym (replies_more C s prefix (c.now ∷ []))) ∙ ap (λ l. map Replied (replies C s l)) (sym one);
        taken =
            others_is ∙ ap (λ l. l ++ taken t (c.now ∷ [])) so_far.taken ∙ ap (λ x. taken s prefix ++ taken x (c.now ∷ [])) so_far.state
            ∙ sym (accepted_more s prefix (c.now ∷ [])) ∙ ap (taken s) (sym one);
      }

  -- none was applied, and no more are
  pub stopped : {C : Type 0} (s t u : State) (cs : List (Bor (Asked B))) (i : ℕ) (c : Bor (Asked B)) (outcomes same : List (Outcome C))
      (accepted others : List (Bor (Asked B))) → i < length cs → c ≡ get_or cs i c
      → AreApplied s (asked cs) i t outcomes (asked accepted) → IsTrue (needs_memory t c.now) → u ≡ t → same ≡ outcomes → others ≡ accepted →
      (applied : ℕ) × AreApplied s (asked cs) applied u same (asked others) × IsEnd (asked cs) applied u
  stopped s t u cs i c outcomes same accepted others lt is so_far memory u_is same_is others_is = (
    i,
    record { state = u_is ∙ so_far.state; replied = same_is ∙ so_far.replied; taken = ap asked others_is ∙ so_far.taken },
    subst (λ x. IsEnd (asked cs) i x) (sym u_is) (wanted cs i c t lt is memory),
  )

  -- ---- the whole batch

  nothing_asked : (items : List (Bor (Asked B))) → asked items ≡ [] → items ≡ []
  nothing_asked [] e = refl
  nothing_asked (x ∷ xs) e = absurd cc

  text_asked : (cs : List (Bor (Asked B))) → length (flat_map command_text (asked cs)) ≡ length (flat_map (λ c. command_text c.now) cs)
  text_asked cs = ap length (flat_map-map command_text (λ (x : Bor (Asked B)). x.now) cs)

  pub record Ends {C : Type 0} (s : State) (cs : List (Asked B)) (t : State) (outcomes : List (Outcome C)) (accepted : List (Asked B)) : Type 0 where
    pub applied : ℕ
    pub are : AreApplied s cs applied t outcomes accepted
    pub end : IsEnd cs applied t

  pub ends : {C E : Type 0} (s t : State) (cs : List (Bor (Asked B))) (outcomes : List (Outcome C)) (accepted : List (Asked B))
      (result : Result Unit E) → OnOk result (AreApplied s (asked cs) (length cs) t outcomes accepted)
      → OnErr result ((applied : ℕ) × AreApplied s (asked cs) applied t outcomes accepted × IsEnd (asked cs) applied t) → Ends s (asked cs) t outcomes accepted
  ends s t cs outcomes accepted (Ok u) are none =
      record {
        applied = length cs;
        are = are;
        end = subst (λ n. IsEnd (asked cs) n t) (length-map cs (λ (x : Bor (Asked B)). x.now))
            (all_done (asked cs) t);
      }
  ends s t cs outcomes accepted (Err e) none some = record { applied = some.0; are = some.1; end = some.2 }

  module _ {C : Type 0} (s t : State) (cs items : List (Bor (Asked B))) (outcomes : List (Outcome C)) (e : Ends s (asked cs) t outcomes (asked items)) where
    abbrev applied : List (Asked B)
    applied = take e.applied (asked cs)

    count_is : length (asked cs) ≡ length cs
    count_is = length-map cs (λ (x : Bor (Asked B)). x.now)

    places_are : length outcomes ≡ e.applied
    places_are =
        let most = e.end.most in
        ap length e.are.replied ∙ length-map (replies C s applied) Replied ∙ length-replies C s applied ∙ length-take-le e.applied (asked cs) most

    pub ends_places : length outcomes ≤ length cs
    ends_places = let most = e.end.most in omega (arith, places_are, most, count_is)

    pub ends_answered : (filled : List (Outcome C)) (len : ℕ) → len ≡ length outcomes → filled ≡ outcomes ++ replicate (length cs - len) NoMemory → IsAnswered s (asked cs) t filled
    ends_answered filled len len_is filled_is =
        let left : length cs - len ≡ length (asked cs) - e.applied = omega (arith, count_is, len_is, places_are) in
        record {
          applied = e.applied;
          end = e.end;
          state = e.are.state;
          outcomes_are = filled_is ∙ ap (λ (l : List (Outcome C)). l ++ replicate (length cs - len) NoMemory) e.are.replied ∙ ap (λ n. map Replied (replies C s applied) ++ replicate n NoMemory) left;
        }

    pub ends_history : IsHistory s (asked items)
    ends_history = subst (λ (l : List (Asked B)). IsHistory s l) (sym e.are.taken) (taken_history s applied)

    pub ends_state : t ≡ after s (asked items)
    ends_state = e.are.state ∙ sym (after_taken s applied) ∙ ap (after s) (sym e.are.taken)

    pub ends_limits : t.registered.limits ≡ s.registered.limits
    ends_limits = ap (λ (x : State). x.registered.limits) e.are.state ∙ limits_after s applied

    pub ends_count : length items ≤ length cs
    ends_count =
        let most = e.end.most in
        omega (arith, most, count_is, length-map items (λ (x : Bor (Asked B)). x.now), ap length e.are.taken, accepted_count s applied, length-take-le e.applied (asked cs) most)

    -- each of them is counted
    pub ends_counted : t.count ≡ s.count + length items
    ends_counted =
        omega (arith, ap (λ (x : State). x.count) ends_state, counted s (asked items) ends_history, length-map items (λ (x : Bor (Asked B)). x.now))

    pub ends_none : taken s (asked cs) ≡ [] → items ≡ []
    ends_none none = nothing_asked items (e.are.taken ∙ none_accepted s (asked cs) e.applied none)

    pub ends_recorded : (A : Type 0) → AreRecorded A s (asked cs) t (given A items)
    ends_recorded A = record {
      applied = e.applied;
      state = e.are.state;
      these = sym (map-map (under A) (λ (x : Bor (Asked B)). x.now) items) ∙ ap (map (under A)) e.are.taken;
    }

    pub ends_size : length (flat_map (λ c. command_text c.now) items) ≤ length (flat_map (λ c. command_text c.now) cs)
    ends_size =
        omega (
          arith,
          text_asked items,
          text_asked cs,
          ap (λ (l : List (Asked B)). length (flat_map command_text l)) e.are.taken,
          accepted_size s applied,
          prefix_size (asked cs) e.applied,
        )

-- nothing is recorded, where nothing was applied
pub none_recorded : {B : Type 0} (A : Type 0) (s t : State) (cs : List (Asked B)) → t ≡ s → AreRecorded A s cs t []
none_recorded A s t cs same = record { applied = 0; state = same; these = refl }

-- a batch applied after a checkpoint, which left the state as it was
pub recorded_after : {B : Type 0} (A : Type 0) (s m t u : State) (cs : List (Asked B)) (given_are items : List (Bor (Asked B))) → m ≡ s →
    given_are ≡ items → u ≡ t → AreRecorded A m cs t (given A items) → AreRecorded A s cs u (given A given_are)
recorded_after A s m t u cs given_are items same are last recorded = record {
  applied = recorded.applied;
  state = last ∙ recorded.state ∙ ap (λ x. after x (take recorded.applied cs)) same;
  these = ap (given A) are ∙ recorded.these ∙ ap (λ x. map (under A) (taken x (take recorded.applied cs))) same;
}
