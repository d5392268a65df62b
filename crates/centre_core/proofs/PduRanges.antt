-- What is read of a PDU is in its range, and so are the PDUs that answer it.
use Rattle.std.proofs.Common.{◌≡◌, ℕ, ◌+◌, ◌*◌, ◌<◌, ◌≤◌, ◌^◌, Bool, true, false, List, [], ◌∷◌, ◌++◌, length, refl, sym, ap, ◌∙◌, subst, arith, Option, Some, None, Result, Ok, Err}
use Rattle.std.specs.Prelude.{◌==◌, MatchBool}
use Rattle.std.specs.Option.{option_map}
use Rattle.std.specs.Result.{result_map_both}
use Rattle.std.specs.List.{AllByRecursion, flat_map, filter_map, cons_option}
use Rattle.std.proofs.lemmas.List.{length-append}
use Rattle.base.proofs.Lists.{all_append}
use Rattle.identity.specs.Number.{num}
use Rattle.identity.specs.Inside.NumberLaws.{length-num}
use Rattle.identity.specs.Identity.{mcc_of, mnc_of, ssi_of}
use Rattle.identity.proofs.Identities.{number_of_fields}
use Rattle.mm_pdus.specs.declared.update.AcceptType.{AcceptType}
use Rattle.mm_pdus.specs.declared.address.GroupAddress.{GroupAddress}
use Rattle.mm_pdus.specs.declared.address.GroupAddress.TheVariants.{Short, Full}
use Rattle.mm_pdus.specs.declared.group.GroupMode.{GroupMode}
use Rattle.mm_pdus.specs.declared.group.GroupUp.{GroupUp}
use Rattle.mm_pdus.specs.declared.group.GroupDown.{GroupDown}
use Rattle.mm_pdus.specs.declared.group.GroupDown.TheVariants as down
use Rattle.mm_pdus.specs.declared.uplink.MmUp.TheVariants as up
use Rattle.mm_pdus.specs.Values.{update_number, update_accepted, lifetime_number, detach_number, most_groups}
use Rattle.mm_pdus.specs.Syntax.{Element, element, extension}
use Rattle.mm_pdus.specs.Address.{gtsi_of}
use Rattle.mm_pdus.specs.Groups.{address, IsAddress, group_up, IsGroupUp, group_down, groups_body, groups_extension}
use Rattle.mm_pdus.specs.Uplink.{GroupsOf, elements_of, identity_uplink}
use Rattle.mm_pdus.specs.UplinkReading.{reading_up}
use Rattle.mm_pdus.specs.Downlink.{accept_text, acknowledge_text, identity_downlink, rejects}
use Rattle.mm_pdus.proofs.UplinkLaws as uplink
use Rattle.sds_tl.specs.declared.fault.SdsFault.{SdsFault}
use Rattle.sds_tl.specs.declared.pdu.Sds.{Sds}
use Rattle.sds_tl.specs.declared.pdu.Sds.TheVariants.{Transfer, Report, Ack}
use Rattle.sds_tl.specs.declared.pdu.DeliveryReportRequest.{DeliveryReportRequest}
use Rattle.sds_tl.specs.declared.pdu.Head.{Head}
use Rattle.sds_tl.specs.declared.pdu.Head.TheVariants as heads
use Rattle.sds_tl.specs.Syntax.{Spells, IsInRange, most_bits}
use Rattle.sds_tl.specs.Reading.{fault, value, unless, head_of, heading, head_value, cleared}
use Rattle.sds_tl.specs.Transfers.{transfer_reference}
use Rattle.sds_tl.proofs.Spelling.{value_takes}
use Rattle.sds_tl.proofs.Cleared.{cleared_spells}
use Rattle.sds_tl.proofs.Heads.{heads_agree}
use Rattle.centre_core.specs.StateRanges.{IsReply}

-- ---- short data

abbrev pub reference_in : Head → ℕ
reference_in (heads.Transfer request reference) = reference
reference_in (heads.Report acknowledge status reference) = reference
reference_in (heads.Ack status reference) = reference

small_reference : (sds : Sds (Unit {0})) → IsInRange sds → reference_in (head_of sds) < 2 ^ 8
small_reference (Transfer identifier request selection reference user_data) h = h.reference_fits
small_reference (Report identifier acknowledge status reference user_data) h = h.reference_fits
small_reference (Ack identifier status reference) h = h.reference_fits

-- of a PDU that is read: its reference, and its length and that of its written form
pub record IsShortData (pdu : List Bool) (reference : ℕ) : Type 0 where
  pub reference_small : reference < 2 ^ 8
  pub short : length pdu ≤ most_bits
  pub written_short : length (cleared pdu) ≤ most_bits

read_as : (pdu : List Bool) (head : Head) (none : Option SdsFault) → fault pdu ≡ none → unless none (head_value pdu) ≡ Ok head → IsShortData pdu (reference_in head)
read_as pdu head (Some f) is e = cc
read_as pdu head None is e =
    let spells : Spells (value pdu) pdu = value_takes (Unit {0}) pdu is in
    let agrees : Ok head ≡ result_map_both head_of (λ (f : SdsFault). f) (unless None (value {A = Unit {0}} pdu)) =
    sym e ∙ ap (λ n. unless n (head_value pdu)) (sym is) ∙ heads_agree (Unit {0}) pdu ∙ ap (λ n. result_map_both head_of (λ (f : SdsFault). f) (unless n (value {A = Unit {0}} pdu))) is in
    let same : head ≡ head_of (value {A = Unit {0}} pdu) = cc in
    record {
      reference_small = subst (λ h. reference_in h < 2 ^ 8) (sym same) (small_reference (value pdu) spells.range);
      short = spells.room;
      written_short = (cleared_spells (Unit {0}) (value pdu) pdu spells).room;
    }

pub head_read : (pdu : List Bool) (head : Head) → heading pdu ≡ Ok head → IsShortData pdu (reference_in head)
head_read pdu head is = read_as pdu head (fault pdu) refl is

transfer_by : (head : Result Head SdsFault) (reference : ℕ) → transfer_reference head ≡ Ok reference → (request : DeliveryReportRequest) × (head ≡ Ok (heads.Transfer request reference))
transfer_by (Err fault) reference e = cc
transfer_by (Ok (heads.Transfer request r)) reference e = let n : r ≡ reference = cc in (request, ap (λ k. Ok (heads.Transfer request k)) n)
transfer_by (Ok (heads.Report acknowledge status r)) reference e = cc
transfer_by (Ok (heads.Ack status r)) reference e = cc

pub transfer_read : (pdu : List Bool) (reference : ℕ) → transfer_reference (heading pdu) ≡ Ok reference → IsShortData pdu reference
transfer_read pdu reference is = let head = transfer_by (heading pdu) reference is in head_read pdu (heads.Transfer head.0 reference) head.1

-- ---- groups of a radio

of_element : (b : Bool) (prefix : List GroupUp) (body : Type 0) → MatchBool b (AllByRecursion IsGroupUp prefix × body) (prefix ≡ []) → AllByRecursion IsGroupUp prefix
of_element true prefix body h = h.0
of_element false prefix body none = subst (AllByRecursion IsGroupUp) (sym none) tt

groups_are : (es : List Element) (items : List GroupUp) → GroupsOf es items → AllByRecursion IsGroupUp items
groups_are [] items none = subst (AllByRecursion IsGroupUp) (sym none) tt
groups_are (e ∷ es) items (prefix, back, is, body, later) =
    subst (AllByRecursion IsGroupUp) (sym is)
    (all_append IsGroupUp prefix back (of_element (e.identifier == identity_uplink) prefix (e.body ≡ groups_body group_up prefix) body)
    (groups_are es back later))

-- there are at most 32 groups in a PDU, each in its range
pub groups_read : {A : Type 0} (pdu : List Bool) (mode : GroupMode) (items : List GroupUp) → reading_up {A = A} pdu ≡ Ok (up.Groups mode items) →
    (length items ≤ most_groups) × AllByRecursion IsGroupUp items
groups_read pdu mode items is =
    let (report, x, extended, groups, few, text) = uplink.is_spelt pdu (Ok (up.Groups mode items)) is in
    (few, groups_are (elements_of x) items groups)

-- a group's number has 48 bits
pub gtsi_fits : (a : GroupAddress) (itsi : ℕ) → IsAddress a → itsi < 2 ^ 48 → gtsi_of a itsi < 2 ^ 48
gtsi_fits (Short gssi) itsi small fits = let own = (number_of_fields itsi fits).0 in omega (arith, own.0, own.1, small)
gtsi_fits (Full gtsi) itsi fits h = fits

-- ---- answers

address_short : (a : GroupAddress) → length (address a) ≤ 50
address_short (Short gssi) = omega (arith, length-append (num 2 0) (num 24 gssi), length-num 2 0, length-num 24 gssi)
address_short (Full gtsi) =
    let ssi = num 24 (ssi_of gtsi) in
    let mcc = num 10 (mcc_of gtsi) in
    let mnc = num 14 (mnc_of gtsi) in
    omega (
      arith,
      length-append (num 2 1) ssi,
      length-append (num 2 1 ++ ssi) mcc,
      length-append (num 2 1 ++ ssi ++ mcc) mnc,
      length-num 2 1,
      length-num 24 (ssi_of gtsi),
      length-num 10 (mcc_of gtsi),
      length-num 14 (mnc_of gtsi),
    )

group_short : (g : GroupDown) → length (group_down g) ≤ 56
group_short (down.Attach lifetime class a) =
    let life = num 2 (lifetime_number lifetime) in
    omega (arith, length-append life (num 3 class), length-append (life ++ num 3 class) (address a), length-num 2 (lifetime_number lifetime), length-num 3 class, address_short a)
group_short (down.Detach reason a) = omega (arith, length-append (num 2 (detach_number reason)) (address a), length-num 2 (detach_number reason), address_short a)

groups_short : (items : List GroupDown) → length (flat_map group_down items) ≤ 56 * length items
groups_short [] = omega arith
groups_short (g ∷ items) = omega (arith, length-append (group_down g) (flat_map group_down items), group_short g, groups_short items)

element_short : (e : Element) → length (element e) ≡ 16 + length e.body
element_short e =
    let head = num 4 e.identifier in
    let size = num 11 (length e.body) in
    omega (arith, length-append head size, length-append (head ++ size) e.body, length-num 4 e.identifier, length-num 11 (length e.body))

body_short : (items : List GroupDown) → length items ≤ most_groups → length (groups_body group_down items) ≤ 1798
body_short items few = omega (arith, length-append (num 6 (length items)) (flat_map group_down items), length-num 6 (length items), groups_short items, few)

extension_short : (items : List GroupDown) → length items ≤ most_groups → length (extension (groups_extension group_down identity_downlink items)) ≤ 1816
extension_short [] few = omega arith
extension_short (g ∷ items) few =
    let e : Element = record { identifier = identity_downlink; body = groups_body group_down (g ∷ items) } in
    omega (arith, length-append (element e ++ []) (false ∷ []), length-append (element e) [], element_short e, body_short (g ∷ items) few)

-- an acknowledgement of at most 32 groups, and an acceptance
pub acknowledge_fits : (items : List GroupDown) → length items ≤ most_groups → IsReply (Some (acknowledge_text false items))
acknowledge_fits items few =
    let rest = extension (groups_extension group_down identity_downlink items) in
    let len = length-append (num 4 11) (rejects items ∷ false ∷ rest) in
    let head = length-num 4 11 in
    (omega (arith, len, head), omega (arith, len, head, extension_short items few))

pub accept_fits : (o : Option AcceptType) → IsReply (option_map accept_text o)
accept_fits None = tt
accept_fits (Some a) =
    let n = update_number (update_accepted a) in
    let prefix = length-append (num 4 5) (num 3 n) in
    let all = length-append (num 4 5 ++ num 3 n) (false ∷ []) in
    let kind = length-num 4 5 in
    let update = length-num 3 n in
    (omega (arith, prefix, all, kind, update), omega (arith, prefix, all, kind, update))

one_by_one : {Y : Type 0} (o : Option Y) (ys : List Y) (n : ℕ) → length ys ≤ n → length (cons_option o ys) ≤ n + 1
one_by_one None ys n h = omega (arith, h)
one_by_one (Some y) ys n h = omega (arith, h)

-- no more are answered than asked
pub no_more : {X Y : Type 0} (f : X → Option Y) (xs : List X) → length (filter_map f xs) ≤ length xs
no_more f [] = omega arith
no_more f (x ∷ xs) = omega (arith, one_by_one (f x) (filter_map f xs) (length xs) (no_more f xs))
