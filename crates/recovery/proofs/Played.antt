-- Records whose commands are accepted in their turn are played.
use Rattle.std.proofs.Common.{◌≡◌, List, [], ◌∷◌, ◌++◌, Some, Ok, refl, sym, ap, ◌∙◌}
use Rattle.centre_core.specs.Asked.{Asked}
use Rattle.centre_core.specs.State.{State}
use Rattle.centre_core.specs.History.{after, next}
use Rattle.centre_core.specs.Histories.{IsHistory}
use Rattle.centre_core.proofs.InTurnLaws.{after-append}
use Rattle.gated_journal.specs.Half.{RecordAt}
use Rattle.recovery.specs.Opens.{played, run}
use Rattle.recovery.specs.OpensTo.{commands_of}

module _ {A : Type 0} where
  -- of two histories, one after the other
  first_of_two : (s : State) (xs ys : List (Asked A)) → IsHistory s (xs ++ ys) → IsHistory s xs
  first_of_two s [] ys is = tt
  first_of_two s (x ∷ xs) ys is = (is.0, first_of_two (next s x) xs ys is.1)

  second_of_two : (s : State) (xs ys : List (Asked A)) → IsHistory s (xs ++ ys) → IsHistory (after s xs) ys
  second_of_two s [] ys is = is
  second_of_two s (x ∷ xs) ys is = second_of_two (next s x) xs ys is.1

  pub history_runs : (s : State) (cs : List (Asked A)) → IsHistory s cs → run s cs ≡ Some (after s cs)
  unfolding run
  history_runs s [] is = refl
  history_runs s (c ∷ cs) is = rw is.0 (history_runs (next s c) cs is.1)

  pub history_played : (s : State) (entries : List (RecordAt A)) → IsHistory s (commands_of entries) → played s entries ≡ Ok (after s (commands_of entries))
  unfolding played
  history_played s [] is = refl
  history_played s (entry ∷ entries) is =
      let here = history_runs s entry.1 (first_of_two s entry.1 (commands_of entries) is) in
      let later = history_played (after s entry.1) entries (second_of_two s entry.1 (commands_of entries) is) in
      rw here (later ∙ ap Ok (sym (after-append s entry.1 (commands_of entries))))
