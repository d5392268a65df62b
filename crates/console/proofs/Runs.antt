-- A run over a reader and a writer that are answered otherwise.
use Rattle.std.proofs.Common.{◌≡◌, ℕ, List, Option, Result, subst}
use Rattle.console.specs.declared.running.Ran.{Ran}
use Rattle.console.specs.declared.running.RunFault.{RunFault}
use Rattle.desk.specs.Rules.{Rules}
use Rattle.console.specs.Events.{Event}
use Rattle.console.specs.Runs.{IsRun}
use Rattle.console.specs.Told.{Streams, Tells, TellsWholeSince}
use Rattle.console.specs.Reading.{Speaker}

module _ (A : Type 0) {W : Type 0} (rules : Rules A W) (speaker : Speaker) (s t : W) (r : Result Ran RunFault) where
  -- of these bytes unread and written, and those written after the run
  abbrev pub Runs : Option (List ℕ) → Option (List ℕ) → Option (List ℕ) → Type 0
  Runs given held now = IsRun A rules (record { speaker = speaker; world = s; unread = given; written = held }) (record { result = r; world = t; written = now })

  pub run_equal : {given given' held held' now now' : Option (List ℕ)} → given ≡ given' → held ≡ held' → now ≡ now' → Runs given held now → Runs given' held' now'
  run_equal {given' = given'} {held = held} {held' = held'} {now = now} gives holds leaves run =
      subst (λ (n : Option (List ℕ)). Runs given' held' n) leaves
      (subst (λ (h : Option (List ℕ)). Runs given' h now) holds
      (subst (λ (i : Option (List ℕ)). Runs i held now) gives run))

-- of what the desk stands for and the writer holds after the run
pub run_left : (A : Type 0) {W : Type 0} (rules : Rules A W) (speaker : Speaker) (s : W) (r : Result Ran RunFault) {given held : Option (List ℕ)}
    (t : W) (now : Option (List ℕ)) {t' : W} {now' : Option (List ℕ)} →
    t ≡ t' → now ≡ now' → Runs A rules speaker s t r given held now → Runs A rules speaker s t' r given held now'
run_left A rules speaker s r {given = given} {held = held} t now {now' = now'} stands leaves run =
    subst (λ u. Runs A rules speaker s u r given held now') stands (subst (λ (n : Option (List ℕ)). Runs A rules speaker s t r given held n) leaves run)

-- what it told, by the same
module _ (A : Type 0) {W : Type 0} (rules : Rules A W) (speaker : Speaker) (s : W) (r : Result Ran RunFault) (old : Streams) (read : List ℕ) (unread : Option (List ℕ)) where
  pub told_left : (t : W) (passed : List Event) (held : Option (List ℕ)) {t' : W} {passed' : List Event} {held' : Option (List ℕ)} → t ≡ t' → passed ≡ passed' → held ≡ held' →
      Tells A rules speaker s t old (record { read = read; unread = unread; passed = passed; held = held }) r →
      Tells A rules speaker s t' old (record { read = read; unread = unread; passed = passed'; held = held' }) r
  told_left t passed held stands passes holds told =
      subst (λ (q : W × List Event × Option (List ℕ)). Tells A rules speaker s q.0 old (record { read = read; unread = unread; passed = q.1; held = q.2 }) r)
      (λ j. (stands j, passes j, holds j)) told

-- what it answered whole, by the same
module _ (A : Type 0) {W : Type 0} (rules : Rules A W) (speaker : Speaker) (s : W) (old : Streams) (read : List ℕ) (unread held : Option (List ℕ)) where
  pub whole_left : (t : W) (passed : List Event) {t' : W} {passed' : List Event} → t ≡ t' → passed ≡ passed' →
      TellsWholeSince A rules speaker s t old (record { read = read; unread = unread; passed = passed; held = held }) →
      TellsWholeSince A rules speaker s t' old (record { read = read; unread = unread; passed = passed'; held = held })
  whole_left t passed stands passes whole =
      subst (λ (q : W × List Event). TellsWholeSince A rules speaker s q.0 old (record { read = read; unread = unread; passed = q.1; held = held }))
      (λ j. (stands j, passes j)) whole
