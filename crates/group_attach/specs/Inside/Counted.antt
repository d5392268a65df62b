-- How many groups a radio has after a PDU, counted item by item without the attachments themselves.
use Rattle.std.specs.Prelude.{ℕ, ◌+◌, ◌-◌, ◌==◌, Bool, false, ◌||◌, if◌then◌else◌}
use Rattle.std.specs.Option.{is_some}
use Rattle.identity.specs.Numbers.{Itsi, Gtsi}
use Rattle.mm_pdus.specs.declared.group.GroupUp.{GroupUp}
use Rattle.mm_pdus.specs.declared.group.GroupUp.TheVariants as up
use Rattle.mm_pdus.specs.Address.{gtsi_of}
use Rattle.registration.specs.Registered.{Registered, rule_of}

-- the group that an item names
abbrev pub group_of : Itsi → GroupUp → Gtsi
group_of itsi (up.Attach class address) = gtsi_of address itsi
group_of itsi (up.Leave reason address) = gtsi_of address itsi

-- whether the radio is attached to the item's group after the item
abbrev pub attached_after : Registered → Itsi → Bool → GroupUp → Bool
attached_after s itsi before (up.Attach class address) = before || is_some (rule_of s (gtsi_of address itsi))
attached_after s itsi before (up.Leave reason address) = false

-- whether it is attached to this group after the item
abbrev pub attached_to_after : Registered → Itsi → Gtsi → Bool → GroupUp → Bool
attached_to_after s itsi gtsi before item = if gtsi == group_of itsi item then attached_after s itsi before item else before

-- the count of its groups, where the item's group is or is not among them before and after
abbrev pub counted : ℕ → Bool → Bool → ℕ
counted count before after = if before then (if after then count else count - 1) else (if after then count + 1 else count)
