-- The greatest limits are one value.
use Rattle.std.proofs.Common.{◌≡◌}
use Rattle.std.specs.Coded.{le_prop}
use Rattle.registration.specs.declared.limits.Limits.{Limits}
use Rattle.registration.specs.Limits.{AreLimits, rule_capacity, radio_capacity, mail_capacity, station_capacity}
use Rattle.schedule.specs.World.{greatest}

same_ranges : (p q : AreLimits rule_capacity radio_capacity mail_capacity station_capacity) → p ≡ q
same_ranges p q = λ i. record {
  some_rules = le_prop p.some_rules q.some_rules i;
  most_rules = le_prop p.most_rules q.most_rules i;
  some_radios = le_prop p.some_radios q.some_radios i;
  most_radios = le_prop p.most_radios q.most_radios i;
  some_mail = le_prop p.some_mail q.some_mail i;
  most_mail = le_prop p.most_mail q.most_mail i;
  some_stations = le_prop p.some_stations q.some_stations i;
  most_stations = le_prop p.most_stations q.most_stations i;
}

abbrev made : AreLimits rule_capacity radio_capacity mail_capacity station_capacity → Limits
made p = record { rules = rule_capacity; radios = radio_capacity; mail = mail_capacity; stations = station_capacity; in_range = p }

pub greatest_made : (p : AreLimits rule_capacity radio_capacity mail_capacity station_capacity) → made p ≡ greatest
greatest_made p = λ i. made (same_ranges p greatest.in_range i)
