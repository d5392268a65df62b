-- A label is read as the layout that was written, and as no other.
use Rattle.std.proofs.Common.{◌≡◌, ℕ, ◌<◌, ◌≤◌, ◌^◌, Bool, true, false, ◌&&◌, List, ◌++◌, length, drop, Option, Some, None, Ok, refl, sym, ap, ◌∙◌, arith, append_assoc}
use Rattle.std.specs.Prelude.{IfSome, IsSome, nat_le}
use Rattle.std.proofs.lemmas.Bool.{false≢true, le-leb}
use Rattle.std.proofs.lemmas.List.{length-append, take-append-drop}
use Rattle.std.specs.Coded.{le_prop}
use Rattle.base.proofs.Bools.{and_is_true}
use Rattle.sector_disk.specs.Disk.{sector}
use Rattle.registration.specs.Limits.{AreLimits, rule_capacity, radio_capacity, mail_capacity, station_capacity}
use Rattle.registration.specs.declared.limits.Limits.{Limits}
use Rattle.command_bytes.specs.Fields.{◌>>=◌, big}
use Rattle.command_bytes.proofs.Numbers.{length-big, number_again}
use Rattle.checkpoint.specs.Half.{IsHalfSize, fewest_sectors, most_half_sectors}
use Rattle.checkpoint.specs.declared.layout.Layout.{Layout}
use Rattle.checkpoint.specs.Label.{IsLabel, label_size, label_text, layout_number, name}
use Rattle.checkpoint.specs.Layout.{disk_size, label_at}
use Rattle.recovery.specs.Ranges.{are_limits, half_size_passes, is_half_size, is_within, layout_by, layout_of, limits_by, limits_of, limits_pass}
use Rattle.recovery.specs.declared.label.LabelNumbers.{LabelNumbers}
use Rattle.recovery.specs.Label.{layout_at, layout_in, layout_of_numbers, numbers_at}

-- ---- ranges

within_passes : (low high n : ℕ) → low ≤ n → n ≤ high → is_within low high n ≡ true
within_passes low high n above below = and_is_true (nat_le low n) (nat_le n high) (le-leb low n above) (le-leb n high below)

limits_are : (limits : Limits) → are_limits limits.rules limits.radios limits.mail limits.stations ≡ true
limits_are limits =
    let is = limits.in_range in
    and_is_true (is_within 1 rule_capacity limits.rules && is_within 1 radio_capacity limits.radios) (is_within 1 mail_capacity limits.mail && is_within 1 station_capacity limits.stations)
    (and_is_true (is_within 1 rule_capacity limits.rules) (is_within 1 radio_capacity limits.radios)
    (within_passes 1 rule_capacity limits.rules is.some_rules is.most_rules)
    (within_passes 1 radio_capacity limits.radios is.some_radios is.most_radios))
    (and_is_true (is_within 1 mail_capacity limits.mail) (is_within 1 station_capacity limits.stations)
    (within_passes 1 mail_capacity limits.mail is.some_mail is.most_mail)
    (within_passes 1 station_capacity limits.stations is.some_stations is.most_stations))

same_ranges : (rules radios mail stations : ℕ) (p q : AreLimits rules radios mail stations) → p ≡ q
same_ranges rules radios mail stations p q = λ i. record {
  some_rules = le_prop p.some_rules q.some_rules i;
  most_rules = le_prop p.most_rules q.most_rules i;
  some_radios = le_prop p.some_radios q.some_radios i;
  most_radios = le_prop p.most_radios q.most_radios i;
  some_mail = le_prop p.some_mail q.some_mail i;
  most_mail = le_prop p.most_mail q.most_mail i;
  some_stations = le_prop p.some_stations q.some_stations i;
  most_stations = le_prop p.most_stations q.most_stations i;
}

same_size : (journal : ℕ) (p q : IsHalfSize journal) → p ≡ q
same_size journal p q = λ i. record { fewest = le_prop p.fewest q.fewest i; most = le_prop p.most q.most i }

-- ---- the values of a layout's numbers

limits_made : (limits : Limits) (may : Bool) (is : may ≡ true → AreLimits limits.rules limits.radios limits.mail limits.stations) → may ≡ true →
    limits_by limits.rules limits.radios limits.mail limits.stations may is ≡ Some limits
limits_made limits true is passes = λ i.
    Some (record {
      rules = limits.rules;
      radios = limits.radios;
      mail = limits.mail;
      stations = limits.stations;
      in_range =
          same_ranges limits.rules limits.radios limits.mail limits.stations (is refl) limits.in_range i;
    })
limits_made limits false is passes = absurd cc

limits_again : (limits : Limits) → limits_of limits.rules limits.radios limits.mail limits.stations ≡ Some limits
limits_again limits = limits_made limits (are_limits limits.rules limits.radios limits.mail limits.stations) (limits_pass limits.rules limits.radios limits.mail limits.stations) (limits_are limits)

layout_made : (layout : Layout) (may : Bool) (is : may ≡ true → IsHalfSize layout.journal) → may ≡ true → layout_by layout.limits layout.journal may is ≡ Some layout
layout_made layout true is passes = λ i. Some (record { limits = layout.limits; journal = layout.journal; in_range = same_size layout.journal (is refl) layout.in_range i })
layout_made layout false is passes = absurd cc

layout_again : (layout : Layout) → layout_of layout.limits layout.journal ≡ Some layout
layout_again layout = layout_made layout (is_half_size layout.journal) (half_size_passes layout.journal)
    (within_passes fewest_sectors most_half_sectors layout.journal layout.in_range.fewest layout.in_range.most)

-- ---- the numbers of a layout

abbrev pub label_numbers : Layout → LabelNumbers
label_numbers layout = record {
  number = layout_number;
  rules = layout.limits.rules;
  radios = layout.limits.radios;
  mail = layout.limits.mail;
  stations = layout.limits.stations;
  journal = layout.journal;
}

stated_again : (n rules radios mail stations journal : ℕ) (rest : List ℕ) → n < 256 ^ 2 → rules < 256 ^ 4 → radios < 256 ^ 4 → mail < 256 ^ 4 → stations < 256 ^ 4 → journal < 256 ^ 4
    → numbers_at (big 2 n ++ (big 4 rules ++ (big 4 radios ++ (big 4 mail ++ (big 4 stations ++ (big 4 journal ++ rest)))))) ≡ Some
    (record { number = n; rules = rules; radios = radios; mail = mail; stations = stations; journal = journal })
unfolding numbers_at
stated_again n rules radios mail stations journal rest nl rl dl ml sl jl =
    rw (number_again 2 n (big 4 rules ++ (big 4 radios ++ (big 4 mail ++ (big 4 stations ++ (big 4 journal ++ rest))))) nl)
    (rw (number_again 4 rules (big 4 radios ++ (big 4 mail ++ (big 4 stations ++ (big 4 journal ++ rest)))) rl)
    (rw (number_again 4 radios (big 4 mail ++ (big 4 stations ++ (big 4 journal ++ rest))) dl)
    (rw (number_again 4 mail (big 4 stations ++ (big 4 journal ++ rest)) ml)
    (rw (number_again 4 stations (big 4 journal ++ rest) sl)
    (rw (number_again 4 journal rest jl) refl)))))

abbrev pub after_name : Layout → List ℕ → List ℕ
after_name layout rest =
    big 2 layout_number ++
    (big 4 layout.limits.rules ++
    (big 4 layout.limits.radios ++ (big 4 layout.limits.mail ++ (big 4 layout.limits.stations ++ (big 4 layout.journal ++ rest)))))

pub label_parts : (layout : Layout) (rest : List ℕ) → label_text layout ++ rest ≡ name ++ after_name layout rest
unfolding label_text
label_parts layout rest = simp append_assoc refl

label_numbers_read : (layout : Layout) (rest : List ℕ) → numbers_at (after_name layout rest) ≡ Some (label_numbers layout)
label_numbers_read layout rest =
    let limits = layout.limits.in_range in
    let size = layout.in_range in
    stated_again layout_number layout.limits.rules layout.limits.radios layout.limits.mail layout.limits.stations layout.journal rest
    (omega arith) (omega (arith, limits.most_rules)) (omega (arith, limits.most_radios)) (omega (arith, limits.most_mail)) (omega (arith, limits.most_stations)) (omega (arith, size.most))

layout_of_label : (layout : Layout) → layout_of_numbers (label_numbers layout) ≡ Some layout
layout_of_label layout = rw (limits_again layout.limits) (layout_again layout)

-- ---- a label is read

label_is : (layout : Layout) (bytes : List ℕ) → IsLabel layout bytes → bytes ≡ name ++ after_name layout (drop label_size bytes)
label_is layout bytes is = sym (take-append-drop label_size bytes) ∙ ap (λ (prefix : List ℕ). prefix ++ drop label_size bytes) is ∙ label_parts layout (drop label_size bytes)

named_read : (layout : Layout) (sectors : ℕ) (rest : List ℕ) → disk_size layout ≤ sectors → layout_at sectors (name ++ after_name layout rest) ≡ Ok layout
named_read layout sectors rest room = rw (label_numbers_read layout rest) (rw (layout_of_label layout) (rw (le-leb (disk_size layout) sectors room) refl))

pub label_read : (layout : Layout) (image : List (List ℕ)) → IsLabel layout (sector image label_at) → disk_size layout ≤ length image → layout_in image ≡ Ok layout
unfolding layout_in
label_read layout image is room =
    ap (layout_at (length image)) (label_is layout (sector image label_at) is) ∙ named_read layout (length image) (drop label_size (sector image label_at)) room

-- ---- how long it is

pub label_length : (layout : Layout) → length (label_text layout) ≡ label_size
unfolding label_text
label_length layout = simp (length-append, length-big) refl

-- ---- what the calls that make limits and a layout answer

no_limits : (rules radios mail stations : ℕ) (may : Bool) (is : may ≡ true → AreLimits rules radios mail stations) →
    (AreLimits rules radios mail stations → ⊥) → limits_by rules radios mail stations may is ≡ None
no_limits rules radios mail stations true is none = absurd (none (is refl))
no_limits rules radios mail stations false is none = refl

pub limits_made_of : (rules radios mail stations : ℕ) (o : Option Limits) → (AreLimits rules radios mail stations → IsSome o)
    → IfSome o (λ l. (l.rules ≡ rules) × (l.radios ≡ radios) × (l.mail ≡ mail) × (l.stations ≡ stations)) → limits_of rules radios mail stations ≡ o
limits_made_of rules radios mail stations None fits value =
    no_limits rules radios mail stations (are_limits rules radios mail stations) (limits_pass rules radios mail stations) (λ are. false≢true (fits are))
limits_made_of rules radios mail stations (Some l) fits value =
    (λ i. limits_of (sym value.0 i) (sym value.1 i) (sym value.2 i) (sym value.3 i)) ∙ limits_again l

no_layout : (limits : Limits) (journal : ℕ) (may : Bool) (is : may ≡ true → IsHalfSize journal) → (IsHalfSize journal → ⊥) → layout_by limits journal may is ≡ None
no_layout limits journal true is none = absurd (none (is refl))
no_layout limits journal false is none = refl

pub layout_made_of : (limits : Limits) (journal : ℕ) (o : Option Layout) → (IsHalfSize journal → IsSome o) → IfSome o (λ l. (l.limits ≡ limits) × (l.journal ≡ journal)) → layout_of limits journal ≡ o
layout_made_of limits journal None fits value = no_layout limits journal (is_half_size journal) (half_size_passes journal) (λ are. false≢true (fits are))
layout_made_of limits journal (Some l) fits value = (λ i. layout_of (sym value.0 i) (sym value.1 i)) ∙ layout_again l

pub stated_made : (t : LabelNumbers) (o : Option Limits) (limits : Limits) (made : Option Layout) → t.number ≡ 1 →
    limits_of t.rules t.radios t.mail t.stations ≡ o → o ≡ Some limits → layout_of limits t.journal ≡ made → made ≡ layout_of_numbers t
stated_made t o limits made number first is second =
    let go = λ (l : Limits). layout_of l t.journal in
    let one : layout_of_numbers t ≡ (limits_of t.rules t.radios t.mail t.stations >>= go) = rw number refl in
    sym (one ∙ ap (λ (l : Option Limits). l >>= go) (first ∙ is) ∙ second)
