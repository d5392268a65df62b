-- The definition of the command line for clap: seven subcommands, each with its words in order. How clap reads words
-- by it is said by its own definitions, `subcommand_of` and `fault_of`.
use Rattle.std.specs.Prelude.{◌≡◌, false, true, Some, codes, pos}
use Rattle.clap.specs.Words.{App, Rule, Text, app_of, new_app, new_rule, with_rule, with_subcommand}
use Rattle.clap.specs.Lexer.{usize_max}
use Rattle.clap.specs.Simple.{on_top}
use Rattle.clap.specs.declared.builder.action.ArgAction.TheVariants.{Append, SetTrue}
use Rattle.clap.specs.declared.builder.command.Command.{Command}
use Rattle.clap.specs.declared.builder.command.Command.TheViews.{out-Command as fields_of}
use Rattle.clap.specs.declared.builder.value_parser.ValueParser.TheVariants as value

-- one required word
abbrev pub one_word : Text → Rule
one_word name = record (new_rule name) { required = true }

-- any number of words, or none
abbrev pub any_words : Text → Rule
any_words name = record (new_rule name) {
  range = Some (record {
    start_inclusive = 1;
    end_inclusive = usize_max;
  });
}

-- one word or more
abbrev pub some_words : Text → Rule
some_words name = record (any_words name) { required = true }

-- a subcommand of two rules for its words
abbrev pub with_two_words : Text → Rule → Rule → App
with_two_words name first second = with_rule (with_rule (new_app name) first) second

-- `format SETTINGS DISK`
abbrev pub format : App
format = with_two_words (codes "format") (one_word (codes "SETTINGS")) (one_word (codes "DISK"))

-- `--orders K`, any number of times: K is a number from 1 to 65,535
abbrev pub orders : Rule
orders = record (new_rule (codes "orders")) {
  long = Some (codes "orders");
  action = Some Append;
  value_names = 1;
  parser = Some (value.Signed (pos 1) (pos 65535));
}

-- `run [--orders K]... DISK FILE...`
abbrev pub run : App
run = with_rule (with_two_words (codes "run") (one_word (codes "DISK")) (some_words (codes "FILE"))) orders

-- a flag
abbrev pub flag : Text → Rule
flag name = record (new_rule name) {
  long = Some name;
  action = Some SetTrue;
}

-- the words of `serve` after DISK; help names them together
abbrev pub ends : Rule
ends = record (any_words (codes "END")) { value_names = 1 }

-- `serve [--orders K]... DISK [IN OUT]...`, without its flags
abbrev pub serve_words : App
serve_words = with_rule (with_two_words (codes "serve") (one_word (codes "DISK")) ends) orders

-- `serve [--orders K]... [--log] [--stop-at-fault] DISK [IN OUT]...`
abbrev pub serve : App
serve = with_rule (with_rule serve_words (flag (codes "log"))) (flag (codes "stop-at-fault"))

-- `show DISK WORD...`
abbrev pub show : App
show = with_two_words (codes "show") (one_word (codes "DISK")) (some_words (codes "WORD"))

-- `dump DISK`
abbrev pub dump : App
dump = with_rule (new_app (codes "dump")) (one_word (codes "DISK"))

-- `load DUMP SETTINGS DISK`
abbrev pub load : App
load = with_rule (with_two_words (codes "load") (one_word (codes "DUMP")) (one_word (codes "SETTINGS"))) (one_word (codes "DISK"))

-- `check [--rest] DISK`
abbrev pub check : App
check = with_rule (with_rule (new_app (codes "check")) (one_word (codes "DISK"))) (flag (codes "rest"))

-- the program without its subcommands: one of them must be named, it has a version, and `help` is no subcommand
abbrev pub bare : App
bare = on_top (λ top. record top {
  subcommand_required = true;
  disable_help_subcommand = true;
  has_version = true;
}) (new_app (codes "tetra-switch"))

-- the program with the subcommands that make, change and query a disk file
abbrev pub serving : App
serving = with_subcommand (with_subcommand (with_subcommand (with_subcommand bare format.top) run.top) serve.top) show.top

-- also the subcommands that print a register as text, and make a disk file from that text
abbrev pub loading : App
loading = with_subcommand (with_subcommand serving dump.top) load.top

-- the program: also the subcommand that prints what is damaged in a disk file
abbrev pub program : App
program = with_subcommand loading check.top

-- clap's command has this definition, and no argument is global, so none is passed down to subcommands
abbrev pub Describes : App → Command → Type 0
Describes app command = (app_of command ≡ app) × ((fields_of command).has_globals ≡ false)
