use Rattle.clap.specs.Words.{with_subcommand}
use Rattle.command_line.specs.Program as spec
use Rattle.command_line.proofs.Adds.{added, if_added}
use Rattle.command_line.proofs.program.program.Goals as goal

pub returns : goal.returns
returns c =
    let one = added spec.bare spec.format _ _ _ c.in_ok-under_name.ensures c.in_ok-format.ensures c.in_ok-subcommand.ensures in
    let two = added (with_subcommand spec.bare spec.format.top) spec.run _ _ _ one c.in_ok-run.ensures c.in_ok-subcommand-2.ensures in
    let three = added (with_subcommand (with_subcommand spec.bare spec.format.top) spec.run.top) spec.serve _ _ _ two c.in_ok-serve.ensures c.in_ok-subcommand-3.ensures in
    let four = added (with_subcommand (with_subcommand (with_subcommand spec.bare spec.format.top) spec.run.top) spec.serve.top) spec.show _ _ _ three
    c.in_ok-show.ensures c.in_ok-subcommand-4.ensures in
    let five = added spec.serving spec.dump _ _ _ four c.in_ok-dump.ensures c.in_ok-subcommand-5.ensures in
    let six = added (with_subcommand spec.serving spec.dump.top) spec.load _ _ _ five c.in_ok-load.ensures c.in_ok-subcommand-6.ensures in
    if_added spec.loading spec.check _ _ c.subcommand-7.result six c.in_ok-check.ensures c.subcommand-7.ensures
