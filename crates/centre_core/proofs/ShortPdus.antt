-- A location update runs out of memory only for the entry of a new radio: the PDUs of its replies are short.
use Rattle.std.proofs.Common.{◌≡◌, ◌<◌, ◌+◌, Bool, true, false, List, [], ◌∷◌, ◌++◌, length, refl, ap, sym, ◌∙◌, Option, Some, None, Result, Ok, Err, IsOk, OnErr, IsSome, IsTrue, arith, length-append}
use Rattle.std.specs.Prelude.{nat_le, nat_lt, not, ◌&&◌, if◌then◌else◌, unwrap_or}
use Rattle.std.specs.Option.{is_some, is_none}
use Rattle.std.proofs.lemmas.Bool.Decides.{nat_tests}
use Rattle.identity.specs.Number.{num}
use Rattle.identity.specs.Inside.NumberLaws.{length-num}
use Rattle.mm_pdus.specs.declared.update.AcceptType.{AcceptType}
use Rattle.mm_pdus.specs.declared.update.LocationUpdateType.{LocationUpdateType}
use Rattle.mm_pdus.specs.declared.update.LocationUpdateType.TheVariants.{Roaming, Migrating, Periodic, ItsiAttach, Demand, DisabledMs}
use Rattle.mm_pdus.specs.declared.update.LocationUpdateType.TheVariants.{ServiceRestorationRoaming, ServiceRestorationMigrating}
use Rattle.mm_pdus.specs.Values.{update_number, update_accepted}
use Rattle.mm_pdus.specs.Downlink.{accept_text}
use Rattle.registration.specs.Numbers.{Area}
use Rattle.registration.specs.declared.rule.Rule.{Rule}
use Rattle.registration.specs.declared.fault.RegFault.{RegFault}
use Rattle.registration.specs.declared.fault.RegFault.TheVariants.{LaNotAllowed, Congestion, NoMemory}
use Rattle.registration.specs.Refusals.{first_of}
use Rattle.registration.specs.Registered.{radio_of, rule_of, type_refusal, area_refusal, service_refusal, room_refusal}
use Rattle.identity.specs.Numbers.{Itsi}
use Rattle.centre_core.specs.State.{State}
use Rattle.centre_core.specs.declared.command.Command.{Command}
use Rattle.centre_core.specs.declared.reply.Reply.TheVariants.{Refused}
use Rattle.centre_core.specs.declared.reply.Refusal.{Refusal}
use Rattle.centre_core.specs.Step.{step_locate, location_refusal}
use Rattle.centre_core.specs.Memory.{needs_update, is_long}

-- a call that fails only for an acknowledgement, of another PDU
pub sure : {T E : Type 0} (r : Result T E) → OnErr r (IsTrue false) → IsOk r
sure (Ok x) never = refl
sure (Err e) never = absurd cc

pub long_copy : (bits : List Bool) → 64 < length bits → IsTrue (is_long (Some bits))
long_copy bits long = let more : nat_lt 64 (length bits) ≡ true = grind (arith, nat_tests, long) in more

-- an accept has 8 bits
pub accept_short : (update : AcceptType) → 64 < length (accept_text update) → ⊥
unfolding num
accept_short update long =
    let number = update_number (update_accepted update) in
    let end : List Bool = num 3 number ++ false ∷ [] in
    let whole : length (accept_text update) ≡ length (num 4 5) + length end = length-append (num 4 5) end in
    let rest : length end ≡ length (num 3 number) + 1 = length-append (num 3 number) (false ∷ []) in
    omega (arith, long, whole, rest, length-num 4 5, length-num 3 number)

-- ---- no refusal for the type, the rule or the area is for want of memory

type_never : (update : LocationUpdateType) → type_refusal update ≡ Some NoMemory → ⊥
type_never Roaming e = cc
type_never Migrating e = cc
type_never Periodic e = cc
type_never ItsiAttach e = cc
type_never ServiceRestorationRoaming e = cc
type_never ServiceRestorationMigrating e = cc
type_never Demand e = cc
type_never DisabledMs e = cc

within_never : (within : Bool) → (if within then None else Some LaNotAllowed) ≡ Some NoMemory → ⊥
within_never true e = cc
within_never false e = cc

area_never : (rule : Option Rule) (area : Area) → area_refusal rule area ≡ Some NoMemory → ⊥
area_never None area e = cc
area_never (Some rule) area e = within_never (nat_le rule.low area && nat_le area rule.high) e

first_never : (a b : Option RegFault) → (a ≡ Some NoMemory → ⊥) → (b ≡ Some NoMemory → ⊥) → first_of (a ∷ b ∷ []) ≡ Some NoMemory → ⊥
first_never None b k l e = l e
first_never (Some f) b k l e = k e

pub service_never : (s : State) (itsi : Itsi) (area : Area) (update : LocationUpdateType) → service_refusal s.registered itsi area update ≡ Some NoMemory → ⊥
service_never s itsi area update e =
    first_never (type_refusal update) (area_refusal (rule_of s.registered itsi) area) (type_never update) (area_never (rule_of s.registered itsi) area) e

-- ---- only a new radio needs memory, where there is room

first_three : (a b c : Option RegFault) → first_of (a ∷ b ∷ []) ≡ None → c ≡ None → first_of (a ∷ b ∷ c ∷ []) ≡ None
first_three None None c e k = k
first_three None (Some f) c e k = absurd cc
first_three (Some f) b c e k = absurd cc

is_new : (known : Bool) → (known ≡ true → ⊥) → known ≡ false
is_new true never = absurd (never refl)
is_new false never = refl

has_room : (known room : Bool) → known ≡ false → NoMemory ≡ unwrap_or (if known then None else (if room then None else Some Congestion)) NoMemory →
    (if known then None else (if room then None else Some Congestion)) ≡ None
has_room true room k e = absurd cc
has_room false true k e = refl
has_room false false k e = absurd cc

both : (known : Bool) (refusal : Option RegFault) → known ≡ false → refusal ≡ None → IsTrue (not known && is_none refusal)
both true refusal k e = absurd cc
both false None k e = refl
both false (Some f) k e = absurd cc

failed : {T E : Type 0} (r : Result T E) (e : E) → r ≡ Err e → IsOk r → ⊥
failed (Ok x) e is ok = cc
failed (Err f) e is ok = cc

-- a place that is refused for want of memory, after the rule and the area were found good
pub new_needs : {T : Type 0} (s : State) (itsi : Itsi) (area : Area) (update : LocationUpdateType) (r : Result T RegFault)
    → service_refusal s.registered itsi area update ≡ None
    → r ≡ Err NoMemory
    → NoMemory ≡ unwrap_or (room_refusal s.registered itsi) NoMemory
    → (IsSome (radio_of s.registered itsi) → IsOk r)
    → IsTrue (needs_update s itsi area update)
new_needs s itsi area update r served is full moves =
    let known = is_some (radio_of s.registered itsi) in
    let new : known ≡ false = is_new known (λ k. failed r NoMemory is (moves k)) in
    let room : room_refusal s.registered itsi ≡ None = has_room known _ new full in
    both known _ new (first_three (type_refusal update) (area_refusal (rule_of s.registered itsi) area) (room_refusal s.registered itsi) served room)

-- ---- a place that is refused is refused so by the step

first_third : (a b c : Option RegFault) → first_of (a ∷ b ∷ []) ≡ None → first_of (a ∷ b ∷ c ∷ []) ≡ c
first_third None None None e = refl
first_third None None (Some f) e = refl
first_third None (Some f) c e = absurd cc
first_third (Some f) b c e = absurd cc

is_refused : (room : Option RegFault) (fault : RegFault) → fault ≡ unwrap_or room NoMemory → (fault ≡ NoMemory → ⊥) → room ≡ Some fault
is_refused None fault is other = absurd (other is)
is_refused (Some f) fault is other = ap Some (sym is)

module _ {A B : Type 0} (s : State) (c : Command A) where
  pub refused_place : (itsi : Itsi) (area : Area) (update : LocationUpdateType) (fault : RegFault) (t : State) (refusal : Refusal B)
      → service_refusal s.registered itsi area update ≡ None
      → (fault ≡ unwrap_or (room_refusal s.registered itsi) NoMemory) × (t ≡ s)
      → (fault ≡ NoMemory → ⊥) × (refusal ≡ location_refusal update fault)
      → (t, Refused refusal) ≡ step_locate s c itsi area update
  refused_place itsi area update fault t refusal served is other =
      let room = is_refused (room_refusal s.registered itsi) fault is.0 other.0 in
      let whole = first_third (type_refusal update) (area_refusal (rule_of s.registered itsi) area) (room_refusal s.registered itsi) served ∙ room in
      rw (is.1, other.1, whole) refl
