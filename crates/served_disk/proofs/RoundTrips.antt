-- A disk that is made of the dump of another.
use Rattle.std.proofs.Common.{◌≡◌, ℕ, List, [], Option, None, Some, Result, Ok, Err, refl, sym, ap, subst, ◌∙◌}
use Rattle.std.specs.Io.KnownBytes.{Appends}
use Rattle.std.specs.Result.{result_ok}
use Rattle.registration.specs.declared.limits.Limits.{Limits}
use Rattle.centre_core.specs.State.{IsState, State}
use Rattle.centre_core.specs.StateRanges.{StateInRange}
use Rattle.sector_disk.specs.Disk.{View}
use Rattle.checkpoint.specs.Layout.{half_at}
use Rattle.checkpoint.specs.declared.side.Side.TheVariants as side
use Rattle.image_rows.specs.Loading.{state_of_rows}
use Rattle.image_rows.specs.Rows.{rows_of}
use Rattle.recovery.specs.Opens.{opening}
use Rattle.register_text.specs.Dump.{IsAll, IsLoadFault, IsOfPlace, register_bytes, text_read}
use Rattle.register_text.specs.Text.{IsUnder, state_of}
use Rattle.register_text.specs.declared.load_fault.LoadFault.{LoadFault}
use Rattle.register_text.specs.declared.load_fault.LoadFault.TheVariants as load
use Rattle.served_disk.specs.RoundTrip.{Copy, HasNoPlace, IsOfDump, KeepsRegister, ReadsBack}

one_state : (s t : State) → ◌≡◌ {A = Result State LoadFault} (Ok s) (Ok t) → s ≡ t
one_state s t same = cc

-- a writer that held nothing holds these bytes, and they are all that a reader gives
held_text : (before after known : Option (List ℕ)) (bytes text : List ℕ) → Appends before after bytes → before ≡ Some [] → known ≡ after → IsAll known text → text ≡ bytes
held_text before after None bytes text wrote none same all = absurd (no_text after (subst (λ (b : Option (List ℕ)). Appends b after bytes) none wrote) same)
  where
    no_text : (after : Option (List ℕ)) → Appends (Some []) after bytes → None ≡ after → ⊥
    no_text None wrote same = wrote
    no_text (Some x) wrote same = cc
held_text before after (Some left) bytes text wrote none same all =
    sym all ∙ subst (λ (a : Option (List ℕ)). Appends (Some []) a bytes) (sym same) (subst (λ (b : Option (List ℕ)). Appends b after bytes) none wrote)

module _ {A D W : Type 0} {view : D → View} {contents : W → Option (List ℕ)} {took : W → List ℕ → W → Type 0} {flushed : W → W → Type 0}
    (copy : Copy A view contents took flushed) where
  -- the text of a register was read as one
  pub made_of : ((s : State) → IsState s → StateInRange s → text_read s.registered.limits (register_bytes s) ≡ Ok s)
      → ((limits : Limits) (s t : State) → IsState s → StateInRange s → text_read limits (register_bytes s) ≡ Ok t → IsUnder limits (rows_of 1 s) t)
      → IsOfDump copy → KeepsRegister copy
  made_of again under same new at =
      let s = copy.dump.dumped.register in
      let register = copy.made.register in
      let limits = copy.layout.limits in
      let of : text_read limits (register_bytes s) ≡ Ok register = ap (text_read limits) (sym same) ∙ copy.made.read in
      let so = copy.dump.dumped.dumped in
      record {
        dumped = s;
        loaded = register;
        opened = copy.dump.dumped.kept copy.dump.honest;
        opens = record { opening = opening copy.layout side.A 1 (half_at copy.layout side.A) register; opens = copy.made.made.opens_to new at; same = refl };
        rows = under limits s register so.state so.ranges of;
        own = λ own. one_state register s (sym of ∙ ap (λ (l : Limits). text_read l (register_bytes s)) own ∙ again s so.state so.ranges);
      }

  -- a reader that gives what the writer holds gives the text that was dumped
  pub known_of : (given : Option (List ℕ)) → ReadsBack copy given → IsOfDump copy
  known_of given back =
      let dumped = copy.dump.dumped in
      held_text (contents copy.dump.before) (contents copy.dump.after) given (register_bytes dumped.register) copy.text dumped.dumped.written
      back.nothing back.same back.all

none_of : (o : Option (ℕ × State)) (made : Result State LoadFault) (fault : LoadFault) → result_ok made ≡ state_of o → made ≡ Err fault → o ≡ None
none_of None made fault same is = refl
none_of (Some x) made fault same is = absurd (unlike (sym (ap result_ok is) ∙ same))
  where
    unlike : ◌≡◌ {A = Option State} None (Some x.1) → ⊥
    unlike e = cc

-- a load of the text of a register is refused only for its place
pub no_place : (limits : Limits) (s : State) (fault : LoadFault) → result_ok (text_read limits (register_bytes s)) ≡ state_of (state_of_rows limits (rows_of 1 s))
    → ((f : LoadFault) → text_read limits (register_bytes s) ≡ Err f → IsOfPlace f) → IsLoadFault (text_read limits (register_bytes s)) fault → HasNoPlace limits s fault
no_place limits s load.Memory made why is = tt
no_place limits s load.Read made why is = tt
no_place limits s (load.Line n cause) made why is = (none_of _ _ _ made is, why (load.Line n cause) is)
no_place limits s (load.Cut n) made why is = why (load.Cut n) is
