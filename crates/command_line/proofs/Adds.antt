-- A subcommand more.
use Rattle.std.proofs.Common.{◌∙◌, ◌||◌, IfOk, Ok, Err, Result, ap}
use Rattle.clap.specs.Words.{AddsSubcommand, App, shape_of, with_subcommand}
use Rattle.clap.specs.declared.builder.command.Command.{Command}
use Rattle.command_line.specs.Program.{Describes}

-- clap knows it then
pub added : (a s : App) (old sub new : Command) → Describes a old → Describes s sub → AddsSubcommand old sub new → Describes (with_subcommand a s.top) new
added a s old sub new (is, free) (sub_is, sub_free) adds = (
  adds.shape sub_free ∙ ap (λ (x : App). with_subcommand x (shape_of sub)) is ∙ ap (λ (x : App). with_subcommand a x.top) sub_is,
  adds.globals ∙ (λ j. free j || sub_free j),
)

-- the same where memory may run out
pub if_added : {E : Type 0} (a s : App) (old sub : Command) (r : Result Command E) → Describes a old → Describes s sub → IfOk r (λ new. AddsSubcommand old sub new)
    → IfOk r (Describes (with_subcommand a s.top))
if_added a s old sub (Ok new) is sub_is adds = added a s old sub new is sub_is adds
if_added a s old sub (Err e) is sub_is adds = adds
