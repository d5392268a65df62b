-- How long rows are at most.
use Rattle.std.specs.Prelude.{ℕ, ◌≤◌, length}
use Rattle.group_attach.specs.Applied.{most_of_radio}
use Rattle.image_rows.specs.Rows.{Row, HeaderRow, RuleRow, RadioRow, MailRow, ServedRow}

-- a radio's row has no more groups than a radio may have
abbrev pub HasFewGroups : Row → Type 0
HasFewGroups (HeaderRow h) = Unit {0}
HasFewGroups (RuleRow prefix rule) = Unit {0}
HasFewGroups (RadioRow itsi radio groups) = length groups ≤ most_of_radio
HasFewGroups (MailRow w) = Unit {0}
HasFewGroups (ServedRow station last) = Unit {0}

-- how many bytes the longest row has
abbrev pub longest_row : ℕ
longest_row = 295
