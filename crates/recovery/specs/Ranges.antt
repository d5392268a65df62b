-- Limits and layouts from numbers that are in their ranges.
use Rattle.std.specs.Prelude.{◌≡◌, ℕ, Bool, true, false, ◌&&◌, Option, Some, None, nat_le}
use Rattle.std.proofs.Common.{refl}
use Rattle.std.proofs.lemmas.Bool.{leb-true}
use Rattle.base.proofs.Bools.{both_true}
use Rattle.registration.specs.Limits.{AreLimits, rule_capacity, radio_capacity, mail_capacity, station_capacity}
use Rattle.registration.specs.declared.limits.Limits.{Limits}
use Rattle.sector_disk.specs.Numbers.{Sectors}
use Rattle.checkpoint.specs.Half.{IsHalfSize, fewest_sectors, most_half_sectors}
use Rattle.checkpoint.specs.declared.layout.Layout.{Layout}

-- a number is neither below the low one nor above the high one
abbrev pub is_within : ℕ → ℕ → ℕ → Bool
is_within low high n = nat_le low n && nat_le n high

-- the ranges of `AreLimits`, as a test
abbrev pub are_limits : ℕ → ℕ → ℕ → ℕ → Bool
are_limits rules radios mail stations =
    (is_within 1 rule_capacity rules && is_within 1 radio_capacity radios)
    && (is_within 1 mail_capacity mail && is_within 1 station_capacity stations)

-- the range of `IsHalfSize`, as a test
abbrev pub is_half_size : Sectors → Bool
is_half_size journal = is_within fewest_sectors most_half_sectors journal

-- ---- what passes the tests is in range

pub limits_pass : (rules radios mail stations : ℕ) → are_limits rules radios mail stations ≡ true → AreLimits rules radios mail stations
limits_pass rules radios mail stations e =
    let halves =
    both_true (is_within 1 rule_capacity rules && is_within 1 radio_capacity radios)
    (is_within 1 mail_capacity mail && is_within 1 station_capacity stations) e in
    let first = both_true (is_within 1 rule_capacity rules) (is_within 1 radio_capacity radios) halves.0 in
    let second = both_true (is_within 1 mail_capacity mail) (is_within 1 station_capacity stations) halves.1 in
    let r = both_true (nat_le 1 rules) (nat_le rules rule_capacity) first.0 in
    let d = both_true (nat_le 1 radios) (nat_le radios radio_capacity) first.1 in
    let m = both_true (nat_le 1 mail) (nat_le mail mail_capacity) second.0 in
    let s = both_true (nat_le 1 stations) (nat_le stations station_capacity) second.1 in
    record {
      some_rules = leb-true 1 rules r.0;
      most_rules = leb-true rules rule_capacity r.1;
      some_radios = leb-true 1 radios d.0;
      most_radios = leb-true radios radio_capacity d.1;
      some_mail = leb-true 1 mail m.0;
      most_mail = leb-true mail mail_capacity m.1;
      some_stations = leb-true 1 stations s.0;
      most_stations = leb-true stations station_capacity s.1;
    }

pub half_size_passes : (journal : Sectors) → is_half_size journal ≡ true → IsHalfSize journal
half_size_passes journal e =
    let parts = both_true (nat_le fewest_sectors journal) (nat_le journal most_half_sectors) e in
    record { fewest = leb-true fewest_sectors journal parts.0; most = leb-true journal most_half_sectors parts.1 }

-- ---- the values

-- the limits of these numbers, if they have passed a test of their ranges
abbrev pub limits_by : (rules radios mail stations : ℕ) (may : Bool) → (may ≡ true → AreLimits rules radios mail stations) → Option Limits
limits_by rules radios mail stations true is = Some (record { rules = rules; radios = radios; mail = mail; stations = stations; in_range = is refl })
limits_by rules radios mail stations false is = None

-- the limits of these numbers, if each is in its range
abbrev pub limits_of : ℕ → ℕ → ℕ → ℕ → Option Limits
limits_of rules radios mail stations = limits_by rules radios mail stations (are_limits rules radios mail stations) (limits_pass rules radios mail stations)

-- the layout with these limits and halves of this size, if the size has passed a test of its range
abbrev pub layout_by : (limits : Limits) (journal : Sectors) (may : Bool) → (may ≡ true → IsHalfSize journal) → Option Layout
layout_by limits journal true is = Some (record { limits = limits; journal = journal; in_range = is refl })
layout_by limits journal false is = None

-- the layout with these limits and halves of this size, if the size is in its range
abbrev pub layout_of : Limits → Sectors → Option Layout
layout_of limits journal = layout_by limits journal (is_half_size journal) (half_size_passes journal)
