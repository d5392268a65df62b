-- How much a register may hold.
use Rattle.std.specs.Prelude.{ℕ, ◌≤◌}

-- how many rules a register may be given room for
abbrev pub rule_capacity : ℕ
rule_capacity = 4096

-- how many radios it may be given room for
abbrev pub radio_capacity : ℕ
radio_capacity = 65536

-- how many waiting messages and reports
abbrev pub mail_capacity : ℕ
mail_capacity = 65536

-- how many stations
abbrev pub station_capacity : ℕ
station_capacity = 64

-- the ranges of the greatest numbers of rules, radios, waiting messages and stations
pub record AreLimits (rules radios mail stations : ℕ) : Type 0 where
  pub some_rules : 1 ≤ rules
  pub most_rules : rules ≤ rule_capacity
  pub some_radios : 1 ≤ radios
  pub most_radios : radios ≤ radio_capacity
  pub some_mail : 1 ≤ mail
  pub most_mail : mail ≤ mail_capacity
  pub some_stations : 1 ≤ stations
  pub most_stations : stations ≤ station_capacity
