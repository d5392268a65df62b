-- What calls leave of the output and the input of a run.
use Rattle.std.specs.Prelude.{◌≡◌, ◌+◌, IfErr, Result}
use Rattle.console.specs.Failures.{failures_reported}
use Rattle.console.specs.declared.input.Input.{Input}
use Rattle.console.specs.declared.output.Output.{Output}
use Rattle.console.specs.declared.running.RunFault.{RunFault}
use Rattle.console.specs.declared.running.RunFault.TheVariants.{Write}

-- the output is the same one: it borrows the same things
pub record IsSameOutput {W G : Type 0} (old new : Output W G) : Type 0 where
  pub writer : new.writer.ghost_name ≡ old.writer.ghost_name
  pub failures : new.failures.ghost_name ≡ old.failures.ghost_name

-- A call that writes. The output stays the same one. The ledger counts the failure that the result reports, and the call fails only
-- where the writer failed.
pub record WritesOn {W G T : Type 0} (old new : Output W G) (result : Result T RunFault) : Type 0 where
  pub same : IsSameOutput old new
  pub ledger : new.failures.now ≡ old.failures.now + failures_reported result
  pub stops : IfErr result (λ e. e ≡ Write)

-- the input is the same one: it borrows the same things
pub record IsSameInput {R L F : Type 0} (old new : Input R L F) : Type 0 where
  pub reader : new.reader.ghost_name ≡ old.reader.ghost_name
  pub steps : new.steps.ghost_name ≡ old.steps.ghost_name
  pub faults : new.faults.ghost_name ≡ old.faults.ghost_name
