-- Each row of a state is in its range.
use Rattle.std.proofs.Common.{ℕ, ◌+◌, ◌<◌, ◌≤◌, ◌^◌, [], ◌∷◌, length, Option, Some, None, subst, arith}
use Rattle.std.specs.Prelude.{◌==◌, IfSome}
use Rattle.std.specs.List.{All}
use Rattle.std.specs.Option.{is_some}
use Rattle.std.specs.FinMap as map
use Rattle.std.proofs.lemmas.List.Elements.{All-nil, All-cons, All-head, All-tail, All-append, All-map, All-weaker}
use Rattle.std.proofs.lemmas.List.Sums.{count_by-le-length}
use Rattle.identity.specs.Number.{number}
use Rattle.identity.specs.Inside.NumberLaws.{number-lt}
use Rattle.identity.specs.Path.{Path}
use Rattle.registration.specs.declared.radio.Radio.{Radio}
use Rattle.group_attach.specs.Attached.{Attached, of_radio}
use Rattle.group_attach.specs.Allowed.{AllGroupsFit}
use Rattle.group_attach.proofs.Pairs.{pairs_total, pairs_exact}
use Rattle.centre_core.specs.State.{State, LastAccepted, IsState, IsOfAccepted, last_number}
use Rattle.centre_core.specs.StateRanges.{StateInRange, AllEntries, RadioInRange, AttachmentInRange, LastAcceptedInRange}
use Rattle.centre_core.proofs.EntriesLaws.{retain_all}
use Rattle.image_rows.specs.Rows.{RowInRange, HeaderRow, HeaderInRange, GroupInRange, MailRow, last_epoch, group_of, groups_of, rule_row, radio_row, served_rows, rows_of, header_of}
use Rattle.image_rows.proofs.Groups.{length_groups}
use Rattle.image_rows.proofs.Stations.{Entries}

groups_in_range : (m : Attached) (itsi : ℕ) → AllEntries AttachmentInRange m → All GroupInRange (groups_of m itsi)
groups_in_range m itsi all =
    All-map GroupInRange group_of (map.entries (of_radio m itsi))
    (All-weaker (λ e. AttachmentInRange e.0 e.1) (λ e. GroupInRange (group_of e)) (λ e range. (range.1, range.2)) (map.entries (of_radio m itsi))
    (retain_all pairs_total pairs_exact AttachmentInRange m (λ pair. pair.0 == itsi) all))

radio_in_range : (stations : ℕ) (m : Attached) (e : Path × Radio) → stations ≤ 64 → AllGroupsFit m → AllEntries AttachmentInRange m → RadioInRange stations e.0 e.1 → RowInRange (radio_row m e)
radio_in_range stations m e most few all range =
    let itsi = number e.0 in
    let len = length_groups m itsi in
    let fits = few itsi in
    record {
      number = subst (λ n. itsi < 2 ^ n) range.0 (number-lt e.0);
      station = omega (arith, range.2, most);
      area = range.3;
      count = omega (arith, len, fits);
      each_group = groups_in_range m itsi all;
    }

served_in_range : (count k : ℕ) (os : Entries) → count ≤ last_number → k + length os ≤ 65 → All (IsOfAccepted count) os →
    All (λ last. IfSome last LastAcceptedInRange) os → All RowInRange (served_rows k os)
served_in_range count k [] few fits numbered ranges = All-nil RowInRange
served_in_range count k (None ∷ os) few fits numbered ranges =
    served_in_range count (k + 1) os few (omega (arith, fits)) (All-tail (IsOfAccepted count) None os numbered)
    (All-tail (λ (last : Option LastAccepted). IfSome last LastAcceptedInRange) None os ranges)
served_in_range count k (Some x ∷ os) few fits numbered ranges =
    let number = All-head (IsOfAccepted count) (Some x) os numbered in
    All-cons RowInRange _ (served_rows (k + 1) os)
    (record { place = omega (arith, fits); kept = All-head (λ (last : Option LastAccepted). IfSome last LastAcceptedInRange) (Some x) os ranges; number = omega (arith, number.1, few) })
    (served_in_range count (k + 1) os few (omega (arith, fits)) (All-tail (IsOfAccepted count) (Some x) os numbered)
    (All-tail (λ (last : Option LastAccepted). IfSome last LastAcceptedInRange) (Some x) os ranges))

pub rows_in_range : (epoch : ℕ) (s : State) → 0 < epoch → epoch ≤ last_epoch → IsState s → StateInRange s → All RowInRange (rows_of epoch s)
rows_in_range epoch s some most is ranges =
    let limits = ranges.limits in
    let counted = is.count in
    let mail = is.mail.in_order in
    let served_few = count_by-le-length is_some s.served in
    let header : HeaderInRange (header_of epoch s) = record {
      some = some;
      most = most;
      count = omega (arith, counted);
      rules = omega (arith, is.within.rules, limits.most_rules);
      radios = omega (arith, is.within.radios, limits.most_radios);
      mail = omega (arith, mail.fits, is.mail.room, limits.most_mail);
      served = omega (arith, served_few, is.stations, limits.most_stations);
    } in
    let rules = All-map RowInRange rule_row (map.entries s.registered.rules) ranges.rules in
    let radios =
    All-map RowInRange (radio_row s.groups) (map.entries s.registered.radios)
    (All-weaker (λ e. RadioInRange s.registered.limits.stations e.0 e.1) (λ e. RowInRange (radio_row s.groups e))
    (λ e. radio_in_range s.registered.limits.stations s.groups e limits.most_stations is.attachments.0 ranges.attachments)
    (map.entries s.registered.radios) ranges.radios) in
    let items = All-map RowInRange MailRow s.mail.items
    (λ k d below. record {
      item = ranges.mail k d below;
      number = omega (arith, (mail.numbered k d below).1, counted);
      written =
          (mail.spelt k d below).written;
    }) in
    let served = served_in_range s.count 1 s.served counted (omega (arith, is.stations, limits.most_stations)) is.last ranges.served in
    All-cons RowInRange (HeaderRow (header_of epoch s)) _ header
    (All-append RowInRange _ _ rules (All-append RowInRange _ _ radios (All-append RowInRange _ _ items served)))
