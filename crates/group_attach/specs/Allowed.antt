-- What always holds of the attachments.
use Rattle.std.specs.Prelude.{◌≡◌, ◌≤◌, List, None, IsSome}
use Rattle.std.specs.FinMap as finite
use Rattle.identity.specs.Numbers.{Itsi, Gtsi}
use Rattle.registration.specs.Registered.{Registered, radio_of}
use Rattle.mm_pdus.specs.declared.update.LocationUpdateType.{LocationUpdateType}
use Rattle.mm_pdus.specs.declared.group.GroupMode.{GroupMode}
use Rattle.mm_pdus.specs.declared.group.GroupUp.{GroupUp}
use Rattle.group_attach.specs.Attached.{Attached, no_groups, of_radio}
use Rattle.group_attach.specs.Applied.{most_of_radio, after_update, applied, apply_refusal}

-- no radio is attached to more groups than it may
abbrev pub AllGroupsFit : Attached → Type 0
AllGroupsFit m = (itsi : Itsi) → finite.len (of_radio m itsi) ≤ most_of_radio

-- the radio of each attachment is known
abbrev pub AreKnown : Registered → Attached → Type 0
AreKnown s m = (itsi : Itsi) (gtsi : Gtsi) → IsSome (finite.get m (itsi, gtsi)) → IsSome (radio_of s itsi)

-- both of these
abbrev pub AreAllowed : Registered → Attached → Type 0
AreAllowed s m = AllGroupsFit m × AreKnown s m

-- both hold where no radio is attached to any group
abbrev pub EmptyIsAllowed : Type 0
EmptyIsAllowed = (s : Registered) → AreAllowed s no_groups

-- both still hold after a location update
abbrev pub AllowedAfterUpdates : Type 0
AllowedAfterUpdates = (s : Registered) (m : Attached) (itsi : Itsi) (update : LocationUpdateType) → AreAllowed s m → AreAllowed s (after_update m itsi update)

-- both still hold after a group PDU that is not refused
abbrev pub AllowedAfterPdus : Type 0
AllowedAfterPdus =
    (s : Registered) (m : Attached) (itsi : Itsi) (mode : GroupMode) (items : List GroupUp)
    → apply_refusal s m itsi mode items ≡ None
    → AreAllowed s m
    → AreAllowed s (applied s m itsi mode items)
