-- Commands one after another, as a loop takes them.
use Rattle.std.proofs.Common.{◌≡◌, ℕ, ◌+◌, ◌<◌, ◌≤◌, Bool, true, false, List, [], ◌∷◌, ◌++◌, length, take, drop, get_or, Option, Some, None, IsTrue, refl, sym, ap, ◌∙◌, if◌then◌else◌}
use Rattle.std.proofs.lemmas.List.{drop_all, drop_more, take-append-drop, take_more}
use Rattle.centre_core.specs.Asked.{Asked}
use Rattle.centre_core.specs.declared.reply.Reply.{Reply}
use Rattle.centre_core.specs.History.{accepts, is_acceptance, next}
use Rattle.centre_core.specs.Memory.{needs_memory}
use Rattle.centre_core.specs.State.{State}
use Rattle.centre_core.specs.Step.{step}
use Rattle.recovery.specs.Opening.{NeedsMemory}
use Rattle.recovery.specs.Opens.{run}

pub run_none : (A : Type 0) (s : State) → run {A = A} s [] ≡ Some s
unfolding run
run_none A s = refl

module _ {A : Type 0} where
  -- the current command, and those after it
  command_on : (cs : List (Asked A)) (i : ℕ) (c : Asked A) (s : State) → i < length cs → c ≡ get_or cs i c → run s (drop i cs) ≡ run s (c ∷ drop (i + 1) cs)
  command_on cs i c s lt is = ap (run s) (drop_more cs i c lt ∙ ap (λ (d : Asked A). d ∷ drop (i + 1) cs) (sym is))

  pub run_more : (cs : List (Asked A)) (i : ℕ) (c : Asked A) (s t : State) (reply : Reply A) (total : Option State) → i < length cs →
      c ≡ get_or cs i c → (t, reply) ≡ step s c → is_acceptance reply ≡ true → run s (drop i cs) ≡ total
      → run t (drop (i + 1) cs) ≡ total
  unfolding run
  run_more cs i c s t reply total lt is step_is accepted so_far =
      let state : next s c ≡ t = ap (λ x. x.0) (sym step_is) in
      let yes : accepts s c ≡ true = ap (λ x. is_acceptance x.1) (sym step_is) ∙ accepted in
      let one : run s (c ∷ drop (i + 1) cs) ≡ run t (drop (i + 1) cs) = rw yes (ap (λ (u : State). run u (drop (i + 1) cs)) state) in
      sym one ∙ sym (command_on cs i c s lt is) ∙ so_far

  pub run_stops : (cs : List (Asked A)) (i : ℕ) (c : Asked A) (s t : State) (reply : Reply A) (total : Option State) → i < length cs →
      c ≡ get_or cs i c → (t, reply) ≡ step s c → is_acceptance reply ≡ false → run s (drop i cs) ≡ total → total ≡ None
  unfolding run
  run_stops cs i c s t reply total lt is step_is refused so_far =
      let no : accepts s c ≡ false = ap (λ x. is_acceptance x.1) (sym step_is) ∙ refused in
      let one : run s (c ∷ drop (i + 1) cs) ≡ None = rw no refl in
      sym so_far ∙ command_on cs i c s lt is ∙ one

  pub run_done : (cs : List (Asked A)) (i : ℕ) (s : State) (total : Option State) → length cs ≤ i → run s (drop i cs) ≡ total → total ≡ Some s
  unfolding run
  run_done cs i s total le so_far = sym so_far ∙ ap (run s) (drop_all i cs le)

  -- commands after others
  run_after : (s t : State) (xs ys : List (Asked A)) → run s xs ≡ Some t → run s (xs ++ ys) ≡ run t ys
  unfolding run
  run_after s t [] ys is = let same : s ≡ t = cc in ap (λ (u : State). run u ys) same
  run_after s t (x ∷ xs) ys is = by (accepts s x) (λ more. run_after (next s x) t xs ys more) is
    where
      by : (b : Bool) → (run (next s x) xs ≡ Some t → run (next s x) (xs ++ ys) ≡ run t ys) → (if b then run (next s x) xs else None) ≡ Some t
          → (if b then run (next s x) (xs ++ ys) else None) ≡ run t ys
      by true more is = more is
      by false more is = absurd cc

  -- the current command is accepted after those before it
  pub run_taken : (cs : List (Asked A)) (i : ℕ) (c : Asked A) (s t u : State) (reply : Reply A) → i < length cs → c ≡ get_or cs i c →
      (u, reply) ≡ step t c → is_acceptance reply ≡ true → run s (take i cs) ≡ Some t → run s (take (i + 1) cs) ≡ Some u
  unfolding run
  run_taken cs i c s t u reply lt is step_is accepted so_far =
      let state : next t c ≡ u = ap (λ x. x.0) (sym step_is) in
      let yes : accepts t c ≡ true = ap (λ x. is_acceptance x.1) (sym step_is) ∙ accepted in
      let one : run t (c ∷ []) ≡ Some u = rw yes (ap Some state) in
      ap (run s) (take_more cs i c lt ∙ ap (λ (d : Asked A). take i cs ++ d ∷ []) (sym is)) ∙ run_after s t (take i cs) (c ∷ []) so_far ∙ one

  -- the current command needs memory
  pub run_short : (cs : List (Asked A)) (i : ℕ) (c : Asked A) (s t : State) → i < length cs → c ≡ get_or cs i c → run s (take i cs) ≡ Some t →
      IsTrue (needs_memory t c) → NeedsMemory s cs t
  run_short cs i c s t lt is so_far needs = record {
    done = take i cs;
    next = c;
    later = drop (i + 1) cs;
    all = sym (take-append-drop i cs) ∙ ap (λ (ds : List (Asked A)). take i cs ++ ds) (drop_more cs i c lt ∙ ap (λ (d : Asked A). d ∷ drop (i + 1) cs) (sym is));
    accepted = so_far;
    needs = needs;
  }
