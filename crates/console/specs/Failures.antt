-- The ledger of a writer's failures.
use Rattle.std.specs.Prelude.{ℕ, Result, Ok, Err}
use Rattle.console.specs.declared.running.RunFault.{RunFault}
use Rattle.console.specs.declared.running.RunFault.TheVariants.{Read, Write, NoMemory}

-- how many failures of the writer the result of a run reports: one at Write, else none
abbrev pub failures_reported : {T : Type 0} → Result T RunFault → ℕ
failures_reported (Ok x) = 0
failures_reported (Err Read) = 0
failures_reported (Err Write) = 1
failures_reported (Err NoMemory) = 0
