-- A commit of one command.
use Rattle.std.proofs.Common.{◌≡◌, ◌⊎◌, inl, inr, subst, IsTrue, ℕ, ◌<◌, ◌-◌, ◌^◌, ◌≤◌, Bool, true, false, refl, Result, Ok, Err, List, [], ◌∷◌, length, ap, ◌∙◌, sym, arith}
use Rattle.std.specs.Prelude.{if◌then◌else◌, nat_le, IfErr, IfOk, IsErrOf, OnErr, OnOk}
use Rattle.std.specs.Borrow.{Bor}
use Rattle.std.proofs.lemmas.Bool.Decides.{nat_tests}
use Rattle.centre_core.specs.Asked.{Asked}
use Rattle.centre_core.specs.declared.reply.Reply.{Reply}
use Rattle.centre_core.specs.State.{State}
use Rattle.centre_core.specs.Step.{step}
use Rattle.centre_core.specs.Memory.{needs_memory}
use Rattle.centre_core.specs.History.{accepts, is_acceptance, next}
use Rattle.centre_core.proofs.HistoryLaws.{counted_next}
use Rattle.centre_core.proofs.StateLaws.{step_is_next}
use Rattle.image_rows.specs.Rows.{last_epoch}
use Rattle.gated_journal.specs.Record.{most_commands}
use Rattle.desk.specs.declared.outage.Outage.{Outage}
use Rattle.desk.specs.OfStore.{Refuses, StoreApplies, Stored}
use Rattle.recovery.specs.declared.outcome.Outcome.TheVariants.{Replied}
use Rattle.recovery.specs.declared.fault.StoreFault.{StoreFault}
use Rattle.recovery.specs.declared.fault.StoreFault.TheVariants as fault
use Rattle.recovery.specs.Outcomes.{asked}
use Rattle.recovery.specs.Refusals.{IsOfCheckpoint, IsOfDesk}
use Rattle.recovery.specs.Serving.{IsAfterOne, IsWordFor, stored_of}
use Rattle.recovery.proofs.Batches.{Ends, idle, same_verdict}

-- ---- the command is done

module _ {B : Type 0} where
  asked_if : (b : Bool) (entry : Bor (Asked B)) → asked (if b then entry ∷ [] else []) ≡ (if b then entry.now ∷ [] else [])
  asked_if true entry = refl
  asked_if false entry = refl

  few_if : (b : Bool) (entry : Bor (Asked B)) → length (if b then entry ∷ [] else []) ≤ most_commands
  few_if true entry = omega arith
  few_if false entry = omega arith

  pub few_kept : (b : Bool) (entry : Bor (Asked B)) (kept : List (Bor (Asked B))) → kept ≡ (if b then entry ∷ [] else []) → length kept ≤ most_commands
  few_kept b entry kept are = subst (λ (l : List (Bor (Asked B))). length l ≤ most_commands) (sym are) (few_if b entry)

  by_verdict : (s : State) (c : Asked B) (b : Bool) → accepts s c ≡ b → IsAfterOne s c (next s c)
  by_verdict s c true is = inr (is, refl)
  by_verdict s c false is = inl (idle s c is)

  module _ {C : Type 0} (m t : State) (reply : Reply C) (c : Asked B) (done : (t, reply) ≡ step m c) where
    verdict : is_acceptance reply ≡ accepts m c
    verdict = ap (λ (r : State × Reply C). is_acceptance r.1) done ∙ same_verdict C m c

    state_is : t ≡ next m c
    state_is = ap (λ (r : State × Reply C). r.0) done ∙ step_is_next C m c

    -- it changes nothing, or is accepted
    pub after_one : (s u : State) → m ≡ s → u ≡ t → IsAfterOne s c u
    after_one s u same last = subst (λ (x : State). IsAfterOne x c u) same (subst (λ (x : State). IsAfterOne m c x) (sym (last ∙ state_is)) (by_verdict m c (accepts m c) refl))

    -- it is a batch of one command that is applied to its end
    pub one_ends : (entry : Bor (Asked B)) (kept : List (Bor (Asked B))) → entry.now ≡ c → kept ≡ (if is_acceptance reply then entry ∷ [] else []) → Ends m (c ∷ []) t (Replied reply ∷ []) (asked kept)
    one_ends entry kept here are = record {
      applied = 1;
      are = record {
        state = state_is;
        replied = ap (λ (r : State × Reply C). Replied r.1 ∷ []) done;
        taken = ap asked are ∙ asked_if (is_acceptance reply) entry ∙ ap (λ (b : Bool). if b then entry.now ∷ [] else []) verdict ∙ ap (λ (d : Asked B). if accepts m c then d ∷ [] else []) here;
      };
      end = record { most = omega arith; wants = λ d at. absurd cc };
    }

-- no command takes a number back
counts_by : {B : Type 0} (s t : State) (c : Asked B) → IsAfterOne s c t → s.count ≤ t.count
counts_by s t c (inl same) = omega (arith, ap (λ (u : State). u.count) same)
counts_by s t c (inr done) = omega (arith, ap (λ (u : State). u.count) done.1, counted_next s c done.0)

pub result_counts : {B C E : Type 0} (s t : State) (c : Asked B) (result : Result (Reply C) E) → IfOk result (λ reply. (t, reply) ≡ step s c) → OnErr result (t ≡ s) → s.count ≤ t.count
result_counts s t c (Ok reply) ok err = counts_by s t c (after_one s t reply c ok s t refl refl)
result_counts s t c (Err e) ok err = omega (arith, ap (λ (u : State). u.count) err)

-- ---- what a desk says of it

last_is : (epoch : ℕ) → last_epoch ≤ epoch → nat_le last_epoch epoch ≡ true
last_is epoch le = grind (arith, nat_tests)

module _ (failures later epoch now : ℕ) (was is : Bool) (before later_before s t : State) where
  abbrev pub old : Stored
  old = stored_of failures epoch was before s

  abbrev pub new : Stored
  new = stored_of later now is later_before t

  -- a reply is the register's
  pub by_reply : {A B : Type 0} (c : Asked A) (reply : Reply B) → was ≡ false → is ≡ false → (t, reply) ≡ step s c → StoreApplies old c (Ok reply) new
  by_reply c reply sound still done = (sound, still, rw (sound, still) done)

  abbrev pub Says : {A : Type 0} → Asked A → Outage → Type 0
  Says c word = Refuses old c word new

  -- a fault is stated by its word
  pub by_fault : {A : Type 0} (c : Asked A) (e : StoreFault) (word : Outage) → IsOfDesk e → IsWordFor e word
      → (e ≡ fault.Broken → (was ≡ true) × (new ≡ old))
      → (e ≡ fault.NoMemory → (was ≡ false) × (is ≡ false) × (t ≡ s) × IsTrue (needs_memory s c))
      → (e ≡ fault.EpochsUsedUp → (was ≡ false) × (is ≡ false) × (last_epoch ≤ epoch) × (now ≡ epoch) × (later ≡ failures) × (t ≡ s))
      → (e ≡ fault.DiskFault → (was ≡ false) × (is ≡ true) × (later_before ≡ s) × ((failures < later) ⊎ (later ≡ 2 ^ 64 - 1)))
      → Says c word
  by_fault c fault.Unformatted word of reported broken memory epochs device = absurd of
  by_fault c fault.BadGeometry word of reported broken memory epochs device = absurd of
  by_fault c (fault.Damaged at) word of reported broken memory epochs device = absurd of
  by_fault c fault.Unready word of reported broken memory epochs device = absurd of
  by_fault c fault.Broken word of reported broken memory epochs device = subst (Says c) (sym reported) (broken refl)
  by_fault c fault.NoMemory word of reported broken memory epochs device =
      let m = memory refl in
      subst (Says c) (sym reported) (m.0, m.1, rw (m.0, m.1) m.2, rw m.0 m.3)
  by_fault c fault.EpochsUsedUp word of reported broken memory epochs device =
      let e = epochs refl in
      subst (Says c) (sym reported) (e.0, last_is epoch e.2, rw (e.0, e.1, e.3, e.4, e.5) refl)
  by_fault c fault.DiskFault word of reported broken memory epochs device =
      let d = device refl in
      subst (Says c) (sym reported) (d.0, d.1, rw (d.0, d.1) d.2, d.3)

-- ---- after a checkpoint that was to make room

-- what follows from each result follows
pub by_room : {T P : Type 0} (r : Result T StoreFault) → OnOk r P → IfErr r IsOfCheckpoint → (IsErrOf r fault.Broken → P) → (IsErrOf r fault.EpochsUsedUp → P) → (IsErrOf r fault.DiskFault → P) → P
by_room (Ok t) ok of broken epochs device = ok
by_room (Err fault.Unformatted) ok of broken epochs device = absurd of
by_room (Err fault.BadGeometry) ok of broken epochs device = absurd of
by_room (Err (fault.Damaged at)) ok of broken epochs device = absurd of
by_room (Err fault.NoMemory) ok of broken epochs device = absurd of
by_room (Err fault.Unready) ok of broken epochs device = absurd of
by_room (Err fault.Broken) ok of broken epochs device = broken refl
by_room (Err fault.EpochsUsedUp) ok of broken epochs device = epochs refl
by_room (Err fault.DiskFault) ok of broken epochs device = device refl

pub err_part : {T E P : Type 0} {r : Result T E} {e : E} → r ≡ Err e → OnErr r P → P
err_part {P = P} is p = subst (λ r. OnErr r P) is p
