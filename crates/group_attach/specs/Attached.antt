-- The attachments of radios to groups as one finite map, and what can be asked of it.
use Rattle.std.specs.Prelude.{◌==◌, List, Option, map}
use Rattle.std.specs.List.{fold}
use Rattle.std.specs.Option.{option_map}
use Rattle.std.specs.Ordering.{nat_cmp, ordering_then}
use Rattle.std.specs.declared.cmp.Ordering.{Ordering}
use Rattle.std.specs.Coded.{Coded, coded×, coded_ℕ}
use Rattle.std.specs.FinMap as finite
use Rattle.identity.specs.Numbers.{Itsi, Gtsi}
use Rattle.mm_pdus.specs.Numbers.{Class}
use Rattle.mm_pdus.specs.declared.lifetime.Lifetime.{Lifetime}
use Rattle.mm_pdus.specs.contracts.lifetime.Lifetime as lifetime
use Rattle.group_attach.specs.declared.attachment.Attachment.{Attachment}

-- a radio and a group
abbrev pub Pair : Type 0
Pair = Itsi × Gtsi

-- by radio, then by group
abbrev pub pair_cmp : Pair → Pair → Ordering
pair_cmp p q = ordering_then (nat_cmp p.0 q.0) (nat_cmp p.1 q.1)

-- how a radio is attached to a group: the class of usage, and the lifetime
abbrev pub Usage : Type 0
Usage = Class × Lifetime

-- how each radio is attached to each of its groups
abbrev pub Attached : Type 0
Attached = finite.FinMap pair_cmp Usage

-- its coding, for proofs
abbrev pub coded_attached : Coded Attached
coded_attached = finite.code (coded× coded_ℕ coded_ℕ) (coded× coded_ℕ (lifetime.the_row).coded)

-- no radio is attached to any group
abbrev pub no_groups : Attached
no_groups = finite.empty

-- an entry of the map as an attachment
abbrev pub attachment_of : Pair × Usage → Attachment
attachment_of e = record { itsi = e.0.0; gtsi = e.0.1; class = e.1.0; lifetime = e.1.1 }

-- an attachment as an entry of the map
abbrev pub entry_of : Attachment → Pair × Usage
entry_of a = ((a.itsi, a.gtsi), (a.class, a.lifetime))

-- the attachment of a radio to a group
abbrev pub attachment_at : Attached → Pair → Option Attachment
attachment_at m pair = option_map (λ usage. attachment_of (pair, usage)) (finite.get m pair)

-- all attachments, by radio and then by group
abbrev pub listed : Attached → List Attachment
listed m = map attachment_of (finite.entries m)

-- the attachments of one radio
abbrev pub of_radio : Attached → Itsi → Attached
of_radio m itsi = finite.retain_keys m (λ pair. pair.0 == itsi)

-- the attachments to one group
abbrev pub of_group : Attached → Gtsi → Attached
of_group m gtsi = finite.retain_keys m (λ pair. pair.1 == gtsi)

-- a radio's attachments, by group
abbrev pub groups_of : Attached → Itsi → List Attachment
groups_of m itsi = listed (of_radio m itsi)

-- a group's attachments, by radio
abbrev pub members_of : Attached → Gtsi → List Attachment
members_of m gtsi = listed (of_group m gtsi)

-- the radio and the group of an attachment
abbrev pub pair_of : Attachment → Pair
pair_of a = (a.itsi, a.gtsi)

-- with this attachment, in place of any of its pair
abbrev pub attached : Attached → Attachment → Attached
attached m a = finite.insert m (pair_of a) (a.class, a.lifetime)

-- with all attachments of a list, one after another
abbrev pub all_attached : Attached → List Attachment → Attached
all_attached m list = fold attached m list
