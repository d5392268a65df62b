-- Where a PDU of a radio runs out of memory, its command needs it.
use Rattle.std.proofs.Common.{◌≡◌, ℕ, Bool, true, false, List, refl, sym, ap, ◌∙◌, subst, Result, Ok, Err}
use Rattle.std.specs.Prelude.{IsTrue, ◌||◌}
use Rattle.mm_pdus.specs.declared.fault.MmFault.{MmFault}
use Rattle.mm_pdus.specs.declared.fault.MmFault.TheVariants.{NoMemory}
use Rattle.mm_pdus.specs.declared.uplink.MmUp.{MmUp}
use Rattle.mm_pdus.specs.declared.uplink.MmUp.TheVariants as up
use Rattle.mm_pdus.specs.UplinkReading.{reading_up, unkept_up}
use Rattle.centre_core.specs.declared.command.Body.TheVariants.{Mm}
use Rattle.centre_core.specs.State.{State}
use Rattle.centre_core.specs.Memory.{reads_group, needs_read, needs_body}
use Rattle.centre_core.proofs.ReadingLaws.{moved, reading_moved, unkept_moved}

or_left : (a b : Bool) → IsTrue a → IsTrue (a || b)
or_left true b h = refl
or_left false b h = cc

is_true_or_right : (a b : Bool) → IsTrue b → IsTrue (a || b)
is_true_or_right true b h = refl
is_true_or_right false b h = h

-- A PDU of a radio, read under C for a command under B.
module _ (B C : Type 0) (s : State) (moment itsi area : ℕ) (pdu : List Bool) where
  read_needs : (read : Result (MmUp C) MmFault) → IsTrue (needs_read s itsi area read) → IsTrue (needs_read s itsi area (moved C B read))
  read_needs (Ok (up.Demand update)) h = h
  read_needs (Ok up.Detach) h = h
  read_needs (Ok (up.Groups mode items)) h = h
  read_needs (Err fault) h = h

  -- no memory for a group of it
  pub group_read : unkept_up {A = C} pdu ≡ Err NoMemory → IsTrue (needs_body {A = B} s moment (Mm itsi area pdu))
  group_read none =
      or_left (reads_group (unkept_up {A = B} pdu)) _ (ap reads_group (unkept_moved C B pdu ∙ ap (moved C B) none))

  -- none for what it asks
  pub pdu_read : (read : Result (MmUp C) MmFault) → reading_up pdu ≡ read → IsTrue (needs_read s itsi area read) → IsTrue (needs_body {A = B} s moment (Mm itsi area pdu))
  pdu_read read is h =
      is_true_or_right (reads_group (unkept_up {A = B} pdu)) _
      (subst (λ r. IsTrue (needs_read s itsi area r)) (sym (reading_moved C B pdu ∙ ap (moved C B) is)) (read_needs read h))
