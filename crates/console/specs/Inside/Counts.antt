-- How many words a line has, by its form.
use Rattle.std.specs.Prelude.{ℕ, ◌+◌}
use Rattle.console.specs.declared.form.Form.{Form}
use Rattle.console.specs.declared.form.Form.TheVariants.{Apply, Ask, Print, Mark, OwnStation, Service}
use Rattle.console.specs.declared.form.BodyForm.{BodyForm}
use Rattle.console.specs.declared.form.BodyForm.TheVariants.{RuleSet, RuleClear, Sent, Expire, Delete}
use Rattle.console.specs.declared.form.QueryForm.{QueryForm}
use Rattle.console.specs.declared.form.QueryForm.TheVariants.{Total}
use Rattle.console.specs.declared.form.ListingForm.{ListingForm}
use Rattle.console.specs.declared.form.ListingForm.TheVariants.{RadiosUnder, Due, WaitingAt, Last}

-- the words of a command after its keyword
abbrev pub arguments : BodyForm → ℕ
arguments RuleSet = 5
arguments RuleClear = 1
arguments Sent = 4
arguments Delete = 4
arguments Expire = 0
arguments other = 3

-- the words of a command: its sequence and moment come first
abbrev pub command_count : BodyForm → ℕ
command_count form = 3 + arguments form

-- the words of a query
abbrev pub query_count : QueryForm → ℕ
query_count Total = 1
query_count other = 2

-- the words of a listing
abbrev pub listing_count : ListingForm → ℕ
listing_count RadiosUnder = 2
listing_count Due = 2
listing_count WaitingAt = 2
listing_count Last = 2
listing_count other = 1

-- the words of a line
abbrev pub count_of : Form → ℕ
count_of (Apply form) = command_count form
count_of (Ask form) = query_count form
count_of (Print form) = listing_count form
count_of Mark = 2
count_of OwnStation = 1
count_of Service = 1
