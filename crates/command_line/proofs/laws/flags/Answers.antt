use Rattle.command_line.proofs.Flags.{help_reported, sub_help_reported, version_reported}
use Rattle.command_line.proofs.laws.flags.Goals as goal

pub returns-clause-help : goal.returns-clause-help
returns-clause-help c = help_reported

pub returns-clause-version : goal.returns-clause-version
returns-clause-version c = version_reported

pub returns-clause-format : goal.returns-clause-format
returns-clause-format c = sub_help_reported
