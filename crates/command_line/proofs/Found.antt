-- From what clap says of the program's command to what the words ask for.
use Rattle.std.proofs.Common.{◌≡◌, ◌∙◌, inl, inr, refl, ap, subst, true, List, []}
use Rattle.clap.specs.Words.{App, HasKind, HasMatchesOf, Kinds, Text, fault_of, is_simple, kind_of, subcommand_of, subcommand_rows_of}
use Rattle.clap.specs.Faults.{is_simple_and_free}
use Rattle.clap.specs.declared.error.Error.{Error}
use Rattle.clap.specs.declared.parser.matches.ArgMatches.{ArgMatches}
use Rattle.clap.proofs.OnLiterals.{clap_on_literals}
use Rattle.command_line.specs.Program.{program}
use Rattle.command_line.specs.Asked.{ReportsOne, faults, refusal_by}
use Rattle.command_line.specs.declared.request.Refusal.{Refusal}

is_simple_here : is_simple program ≡ true
unfolding clap_on_literals
is_simple_here = refl

is_free_here : is_simple_and_free program ≡ true
unfolding clap_on_literals
is_free_here = refl

-- what clap takes
pub taken : (command : App) (words : List Text) (m : ArgMatches) → command ≡ program
    → (is_simple_and_free command ≡ true → fault_of command words ≡ []) → HasMatchesOf command words m
    → (faults words ≡ []) × (subcommand_rows_of m ≡ subcommand_of program words)
taken command words m is free simple = (
  subst (λ (a : App). fault_of a words ≡ []) is (free (ap is_simple_and_free is ∙ is_free_here)),
  (simple (ap is_simple is ∙ is_simple_here)).1 ∙ ap (λ (a : App). subcommand_of a words) is,
)

reports : (kinds : Kinds) (e : Error) (reported : Refusal) → reported ≡ refusal_by (kind_of e) e → HasKind kinds e → ReportsOne kinds reported
reports kinds e reported is (inl memory) = inl (is ∙ ap (λ k. refusal_by k e) memory)
reports kinds e reported is (inr among) = inr (e, is, among)

-- what clap refuses is reported by its kind
pub refused : (command : App) (words : List Text) (e : Error) (reported : Refusal) → command ≡ program
    → (is_simple_and_free command ≡ true → HasKind (fault_of command words) e) → reported ≡ refusal_by (kind_of e) e
    → ReportsOne (faults words) reported
refused command words e reported is free by =
    reports (faults words) e reported by (subst (λ (a : App). HasKind (fault_of a words) e) is (free (ap is_simple_and_free is ∙ is_free_here)))
