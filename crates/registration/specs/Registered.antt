-- The rules and the radios of a register, and what each call makes of them.
use Rattle.std.specs.Prelude.{◌≡◌, nat_le, nat_lt, Bool, true, false, ◌&&◌, length, Option, Some, None, IsSome, if◌then◌else◌, refl, [], ◌∷◌}
use Rattle.std.specs.Option.{option_map, is_some}
use Rattle.std.specs.Coded.{Coded, code_by, coded×}
use Rattle.std.specs.FinMap as map
use Rattle.identity.specs.Numbers.{Identity, Itsi}
use Rattle.identity.specs.Path.{Path, id_path}
use Rattle.mm_pdus.specs.declared.update.LocationUpdateType.{LocationUpdateType}
use Rattle.mm_pdus.specs.declared.update.LocationUpdateType.TheVariants.{Roaming, Migrating, Periodic, ItsiAttach, Demand, DisabledMs}
use Rattle.mm_pdus.specs.declared.update.LocationUpdateType.TheVariants.{ServiceRestorationRoaming, ServiceRestorationMigrating}
use Rattle.prefix_tree.specs.Table.{PathMap, coded_table, longest}
use Rattle.registration.specs.Numbers.{Area, Station}
use Rattle.registration.specs.declared.limits.Limits.{Limits}
use Rattle.registration.specs.declared.rule.Rule.{Rule}
use Rattle.registration.specs.declared.radio.Radio.{Radio}
use Rattle.registration.specs.declared.fault.RegFault.{RegFault}
use Rattle.registration.specs.declared.fault.RegFault.TheVariants.{UnknownIdentity, LaNotAllowed, Congestion, Migration, UnsupportedType}
use Rattle.registration.specs.declared.fault.RegFault.TheVariants.{NotAttached, RulesFull}
use Rattle.registration.specs.Refusals.{first_of}
use Rattle.registration.specs.contracts.limits.Limits as limits
use Rattle.registration.specs.contracts.rule.Rule as rule
use Rattle.registration.specs.contracts.radio.Radio as radio

-- the limits, the rules under their prefixes, and the radios under the 48 bits of their identities
pub record Registered : Type 0 where
  pub limits : Limits
  pub rules : PathMap Rule
  pub radios : PathMap Radio

-- how it is stored, for proofs
abbrev pub coded_registered : Coded Registered
coded_registered =
    code_by (Limits × (PathMap Rule × PathMap Radio))
    (coded× (limits.the_row).coded (coded× (coded_table (rule.the_row).coded) (coded_table (radio.the_row).coded)))
    (λ s. (s.limits, (s.rules, s.radios))) (λ p. record { limits = p.0; rules = p.1.0; radios = p.1.1 }) (λ _. refl)

-- no rule and no radio
abbrev pub empty_registered : Limits → Registered
empty_registered limits = record { limits = limits; rules = map.empty; radios = map.empty }

-- the rule that serves an identity and its prefix: the longest that begins the identity
abbrev pub longest_rule : Registered → Identity → Option (Path × Rule)
longest_rule s identity = longest s.rules (id_path identity)

-- the rule that serves an identity
abbrev pub rule_of : Registered → Identity → Option Rule
rule_of s identity = option_map (λ e. e.1) (longest_rule s identity)

-- radios are under all 48 bits of an identity, and under no other prefix
abbrev pub AreWhole : PathMap Radio → Type 0
AreWhole radios = (p : Path) → IsSome (map.get radios p) → length p ≡ 48

-- where a radio is, or was
abbrev pub radio_of : Registered → Itsi → Option Radio
radio_of s itsi = map.get s.radios (id_path itsi)

-- why a rule is not set: its prefix is new and the table is full
abbrev pub set_refusal : Registered → Path → Option RegFault
set_refusal s prefix = if is_some (map.get s.rules prefix) then None else (if nat_lt (map.len s.rules) s.limits.rules then None else Some RulesFull)

-- the register with this rule under the prefix, in place of any that was there
abbrev pub with_rule : Registered → Path → Rule → Registered
with_rule s prefix rule = record s { rules = map.insert s.rules prefix rule }

-- whether a rule is under exactly this prefix
abbrev pub has_rule : Registered → Path → Bool
has_rule s prefix = is_some (map.get s.rules prefix)

-- the register without a rule under the prefix
abbrev pub without_rule : Registered → Path → Registered
without_rule s prefix = record s { rules = map.remove s.rules prefix }

-- why a location update of this type is refused
abbrev pub type_refusal : LocationUpdateType → Option RegFault
type_refusal Roaming = None
type_refusal Migrating = Some Migration
type_refusal Periodic = None
type_refusal ItsiAttach = None
type_refusal ServiceRestorationRoaming = None
type_refusal ServiceRestorationMigrating = Some Migration
type_refusal Demand = None
type_refusal DisabledMs = Some UnsupportedType

-- why a location area is refused: no rule serves the identity, or the one that does has not this area
abbrev pub area_refusal : Option Rule → Area → Option RegFault
area_refusal None area = Some UnknownIdentity
area_refusal (Some rule) area = if nat_le rule.low area && nat_le area rule.high then None else Some LaNotAllowed

-- why a radio is refused for lack of room: it is new, and there are as many as may be
abbrev pub room_refusal : Registered → Itsi → Option RegFault
room_refusal s itsi = if is_some (radio_of s itsi) then None else (if nat_lt (map.len s.radios) s.limits.radios then None else Some Congestion)

-- why a location update is refused, lack of room aside: the same for a known and a new radio
abbrev pub service_refusal : Registered → Itsi → Area → LocationUpdateType → Option RegFault
service_refusal s itsi area update =
    first_of
    (type_refusal update
    ∷ area_refusal (rule_of s itsi) area
    ∷ [])

-- why a location update is refused: for its type first, then by the identity's rule and the location area, then for lack of room
abbrev pub locate_refusal : Registered → Itsi → Area → LocationUpdateType → Option RegFault
locate_refusal s itsi area update =
    first_of
    (type_refusal update
    ∷ area_refusal (rule_of s itsi) area
    ∷ room_refusal s itsi
    ∷ [])

-- the register with this as the radio of the identity
abbrev pub with_radio : Registered → Itsi → Radio → Registered
with_radio s itsi radio = record s { radios = map.insert s.radios (id_path itsi) radio }

-- whether the register knows the radio
abbrev pub has_radio : Registered → Itsi → Bool
has_radio s itsi = is_some (radio_of s itsi)

-- the register that knows nothing of the radio
abbrev pub without_radio : Registered → Itsi → Registered
without_radio s itsi = record s { radios = map.remove s.radios (id_path itsi) }

-- the register where the radio is present at this station and location area
abbrev pub located : Registered → Itsi → Station → Area → Registered
located s itsi station area = with_radio s itsi (record { station = station; area = area; present = true })

-- whether a radio is known and present
abbrev pub is_present : Option Radio → Bool
is_present None = false
is_present (Some radio) = radio.present

-- why a detach is refused: the radio is not present
abbrev pub detach_refusal : Registered → Itsi → Option RegFault
detach_refusal s itsi = if is_present (radio_of s itsi) then None else Some NotAttached

-- the same radio, not present; its station and location area stay
abbrev pub absent : Radio → Radio
absent radio = record { station = radio.station; area = radio.area; present = false }

-- the register where this radio is no longer present; without one nothing changes
abbrev pub detached_at : Registered → Itsi → Option Radio → Registered
detached_at s itsi None = s
detached_at s itsi (Some radio) = with_radio s itsi (absent radio)

-- the register where the radio of the identity is no longer present, if it is known
abbrev pub detached : Registered → Itsi → Registered
detached s itsi = detached_at s itsi (radio_of s itsi)
