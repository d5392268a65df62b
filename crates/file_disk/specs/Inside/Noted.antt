-- How the logic codes a list of calls.
use Rattle.std.specs.Prelude.{List}
use Rattle.std.specs.Coded.{Coded, coded_list}
use Rattle.sector_disk.specs.declared.record.Call.{Call}
use Rattle.sector_disk.specs.contracts.record.Call as call

-- one call after another, each by the code of a call
abbrev pub calls_code : Coded (List Call)
calls_code = coded_list (call.the_row).coded
