-- Attachments in lists, each list under the path of a radio or of a group.
use Rattle.std.specs.Prelude.{◌≡◌, ◌<◌, ◌==◌, Bool, List, Option, None, Some, IsSome, unwrap_or, if◌then◌else◌}
use Rattle.std.specs.List.{flat_map, fold}
use Rattle.std.specs.Option.{is_some}
use Rattle.std.specs.Ordering.{eq_by_cmp}
use Rattle.std.specs.FinMap as finite
use Rattle.identity.specs.Numbers.{Identity, Itsi}
use Rattle.identity.specs.Number.{number}
use Rattle.identity.specs.Path.{Path, path_cmp, id_path}
use Rattle.prefix_tree.specs.Table.{PathMap}
use Rattle.mm_pdus.specs.declared.update.LocationUpdateType.{LocationUpdateType}
use Rattle.group_attach.specs.declared.attachment.Attachment.{Attachment}
use Rattle.group_attach.specs.declared.ending.Ending.{Ending}
use Rattle.group_attach.specs.declared.ending.Ending.TheVariants as ending
use Rattle.group_attach.specs.Attached.{Attached, Pair, Usage, no_groups, pair_of}
use Rattle.group_attach.specs.Applied.{is_dropped, after_update}
use Rattle.group_attach.specs.Inside.ListedMap.{map_of}

-- attachments under paths
abbrev pub Filed : Type 0
Filed = PathMap Attached

-- the attachments of a list; none where there is no list
abbrev pub held : Option Attached → Attached
held list = unwrap_or list no_groups

-- the list under a path
abbrev pub under : Filed → Path → Attached
under f p = held (finite.get f p)

-- with this list under the path; an empty one is not stored
abbrev pub placed : Filed → Path → Attached → Filed
placed f p list = if finite.len list == 0 then finite.remove f p else finite.insert f p list

-- the list, if it is not empty
abbrev pub unless_empty : Attached → Option Attached
unless_empty list = if finite.len list == 0 then None else Some list

-- of each list the entries whose number has the list's path
abbrev pub of_entries : (Pair → Identity) → List (Path × Attached) → List (Pair × Usage)
of_entries key es = flat_map (λ e. finite.entries (finite.retain_keys e.1 (λ pair. eq_by_cmp path_cmp (id_path (key pair)) e.0))) es

-- the attachments of all lists
unfoldable pub gathered : (Pair → Identity) → Filed → Attached
gathered key f = finite.from_entries (of_entries key (finite.entries f))

-- all pairs of the list have this number
abbrev pub AllHave : (Pair → Identity) → Identity → Attached → Type 0
AllHave key k list = (pair : Pair) → IsSome (finite.get list pair) → key pair ≡ k

-- no list is empty, and each is under the path of its pairs
unfoldable pub IsFiled : (Pair → Identity) → Filed → Type 0
IsFiled key f = (p : Path) (list : Attached) → finite.get f p ≡ Some list → (0 < finite.len list) × AllHave key (number p) list

-- the part of the attachments with this number
abbrev pub part_of : (Pair → Identity) → Attached → Identity → Attached
part_of key m k = finite.retain_keys m (λ pair. key pair == k)

-- n is m with the list in place of the radio's attachments
abbrev pub IsReplaced : Attached → Itsi → Attached → Attached → Type 0
IsReplaced m itsi list n = (pair : Pair) → finite.get n pair ≡ (if pair.0 == itsi then finite.get list pair else finite.get m pair)

-- whether the list has an attachment of this pair
abbrev pub has_pair : List Attachment → Attachment → Bool
has_pair list a = is_some (finite.get (map_of list) (pair_of a))

-- without this attachment, unless the list has its pair
abbrev pub left_unless : List Attachment → Attached → Attachment → Attached
left_unless list m a = if has_pair list a then m else finite.remove m (pair_of a)

-- without the attachments of the old list whose pairs are not in the list
abbrev pub all_left : Attached → List Attachment → List Attachment → Attached
all_left m old list = fold (left_unless list) m old

-- without this attachment, if the update ends it
abbrev pub left_if_ended : LocationUpdateType → Attached → Attachment → Attached
left_if_ended update m a = if is_dropped update a.lifetime then finite.remove m (pair_of a) else m

-- without the attachments of a list that the update ends
abbrev pub all_ended : LocationUpdateType → Attached → List Attachment → Attached
all_ended update m list = fold (left_if_ended update) m list

-- with the pair's usage as it was before, if it had one
abbrev pub set_back : Attached → Pair → Option Usage → Attached
set_back m pair None = finite.remove m pair
set_back m pair (Some usage) = finite.insert m pair usage

-- the attachments after a radio has left a group, or after its accepted location update
abbrev pub ended : Attached → Itsi → Ending → Attached
ended m itsi (ending.Leave gtsi) = finite.remove m (itsi, gtsi)
ended m itsi (ending.Update update) = after_update m itsi update
