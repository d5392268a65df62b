-- How a location update and a group PDU change the attachments, and how the PDU is answered.
use Rattle.std.specs.Prelude.{ℕ, ◌==◌, nat_lt, Bool, true, false, ◌&&◌, not, List, [], ◌∷◌, length, Option, Some, None, if◌then◌else◌}
use Rattle.std.specs.List.{filter, filter_map, fold}
use Rattle.std.specs.FinMap as finite
use Rattle.identity.specs.Numbers.{Itsi}
use Rattle.mm_pdus.specs.Numbers.{Class}
use Rattle.mm_pdus.specs.declared.update.LocationUpdateType.{LocationUpdateType}
use Rattle.mm_pdus.specs.declared.update.LocationUpdateType.TheVariants.{Roaming, Migrating, Periodic, ItsiAttach, Demand, DisabledMs}
use Rattle.mm_pdus.specs.declared.update.LocationUpdateType.TheVariants.{ServiceRestorationRoaming, ServiceRestorationMigrating}
use Rattle.mm_pdus.specs.declared.lifetime.Lifetime.{Lifetime}
use Rattle.mm_pdus.specs.declared.lifetime.Lifetime.TheVariants.{NotNeeded, NextItsiAttach, NotAllowedAtNextItsiAttach, NextLocationUpdate}
use Rattle.mm_pdus.specs.declared.address.GroupAddress.{GroupAddress}
use Rattle.mm_pdus.specs.declared.detachment.DetachReason.TheVariants as reason
use Rattle.mm_pdus.specs.declared.group.GroupMode.{GroupMode}
use Rattle.mm_pdus.specs.declared.group.GroupMode.TheVariants.{Amendment, DetachAllFirst}
use Rattle.mm_pdus.specs.declared.group.GroupUp.{GroupUp}
use Rattle.mm_pdus.specs.declared.group.GroupUp.TheVariants as up
use Rattle.mm_pdus.specs.declared.group.GroupDown.{GroupDown}
use Rattle.mm_pdus.specs.declared.group.GroupDown.TheVariants as down
use Rattle.mm_pdus.specs.Address.{gtsi_of}
use Rattle.registration.specs.declared.rule.Rule.{Rule}
use Rattle.registration.specs.Refusals.{first_of, refused_if}
use Rattle.registration.specs.Registered.{Registered, rule_of, radio_of, is_present}
use Rattle.group_attach.specs.declared.fault.GroupFault.{GroupFault}
use Rattle.group_attach.specs.declared.fault.GroupFault.TheVariants.{NotAttached, TooManyGroups}
use Rattle.group_attach.specs.declared.attachment.Attachment.{Attachment}
use Rattle.group_attach.specs.Attached.{Attached, Pair, Usage, entry_of, of_radio}

-- the attachments that pass the test
abbrev pub passing : (Pair × Usage → Bool) → Attached → Attached
passing test m = finite.from_sorted (filter test (finite.entries m))

-- the lifetimes that an ITSI attach ends
abbrev pub ends_at_attach : Lifetime → Bool
ends_at_attach NotNeeded = false
ends_at_attach NextItsiAttach = true
ends_at_attach NotAllowedAtNextItsiAttach = true
ends_at_attach NextLocationUpdate = true

-- the one lifetime that any other location update ends, except a periodic one
abbrev pub ends_at_update : Lifetime → Bool
ends_at_update NotNeeded = false
ends_at_update NextItsiAttach = false
ends_at_update NotAllowedAtNextItsiAttach = false
ends_at_update NextLocationUpdate = true

-- whether an accepted update of this type ends an attachment of this lifetime; migration and the update of a disabled radio are never accepted
abbrev pub is_dropped : LocationUpdateType → Lifetime → Bool
is_dropped Roaming lifetime = ends_at_update lifetime
is_dropped Migrating lifetime = false
is_dropped Periodic lifetime = false
is_dropped ItsiAttach lifetime = ends_at_attach lifetime
is_dropped ServiceRestorationRoaming lifetime = ends_at_update lifetime
is_dropped ServiceRestorationMigrating lifetime = false
is_dropped Demand lifetime = ends_at_update lifetime
is_dropped DisabledMs lifetime = false

-- an accepted update of this radio ends the attachment
abbrev pub is_ended : ℕ → LocationUpdateType → Pair × Usage → Bool
is_ended itsi update e = (e.0.0 == itsi) && is_dropped update e.1.1

-- the attachments after an accepted location update of the radio
abbrev pub after_update : Attached → Itsi → LocationUpdateType → Attached
after_update m itsi update = passing (λ e. not (is_ended itsi update e)) m

-- the attachments of all other radios
abbrev pub without_radio : Attached → Itsi → Attached
without_radio m itsi = finite.retain_keys m (λ pair. not (pair.0 == itsi))

-- a group with a rule is attached for the rule's lifetime, in place of any attachment before; a group without a rule is not
abbrev pub attached_by : Attached → Pair → Class → Option Rule → Attached
attached_by m pair class None = m
attached_by m pair class (Some rule) = finite.insert m pair (class, rule.lifetime)

-- the attachments after one item of a radio's PDU
abbrev pub changed_by : Registered → Itsi → Attached → GroupUp → Attached
changed_by s itsi m (up.Attach class address) = attached_by m (itsi, gtsi_of address itsi) class (rule_of s (gtsi_of address itsi))
changed_by s itsi m (up.Leave reason address) = finite.remove m (itsi, gtsi_of address itsi)

-- the attachments before the items: as they were, or without the radio's where the mode detaches all first
abbrev pub at_start : Attached → Itsi → GroupMode → Attached
at_start m itsi Amendment = m
at_start m itsi DetachAllFirst = without_radio m itsi

-- the attachments after a radio's PDU of this mode and these items
abbrev pub applied : Registered → Attached → Itsi → GroupMode → List GroupUp → Attached
applied s m itsi mode items = fold (changed_by s itsi) (at_start m itsi mode) items

-- the answer to an attach, by the group's rule
abbrev pub answer_by : Class → GroupAddress → Option Rule → GroupDown
answer_by class address None = down.Detach reason.UnknownGroup address
answer_by class address (Some rule) = down.Attach rule.lifetime class address

-- the answer to an item: an attach has one, a detach has none
abbrev pub answer : Registered → Itsi → GroupUp → Option GroupDown
answer s itsi (up.Attach class address) = Some (answer_by class address (rule_of s (gtsi_of address itsi)))
answer s itsi (up.Leave reason address) = None

-- the acknowledgement: the items that attach, in order
abbrev pub answers : Registered → Itsi → List GroupUp → List GroupDown
answers s itsi items = filter_map (answer s itsi) items

-- how many groups a radio may be attached to
abbrev pub most_of_radio : ℕ
most_of_radio = 32

-- the radio is not present
abbrev pub absent_refusal : Registered → ℕ → Option GroupFault
absent_refusal s itsi = if is_present (radio_of s itsi) then None else Some NotAttached

-- a radio may not be attached to so many groups
abbrev pub crowd_refusal : ℕ → Option GroupFault
crowd_refusal groups = refused_if (nat_lt most_of_radio groups) TooManyGroups

-- how many groups a radio is attached to
abbrev pub groups_count : Attached → ℕ → ℕ
groups_count m itsi = finite.len (of_radio m itsi)

-- why a group PDU is refused: the radio is not present, or would be attached to more groups than it may
abbrev pub apply_refusal : Registered → Attached → Itsi → GroupMode → List GroupUp → Option GroupFault
apply_refusal s m itsi mode items =
    first_of
    (absent_refusal s itsi
    ∷ crowd_refusal (groups_count (applied s m itsi mode items) itsi)
    ∷ [])

-- why the attachments of a radio are not restored: they are more than it may have
abbrev pub restore_refusal : List Attachment → Option GroupFault
restore_refusal list = crowd_refusal (length list)

-- a radio has the attachments of a list, and no other
abbrev pub restored : Attached → Itsi → List Attachment → Attached
restored m itsi list = fold (λ n a. finite.insert n (entry_of a).0 (entry_of a).1) (without_radio m itsi) list
