-- No message is lost over what is accepted.
use Rattle.std.specs.Prelude.{◌↔◌, IsTrue}
use Rattle.std.proofs.Common.{Bool, ◌∷◌, ◌++◌, sym, subst}
use Rattle.std.specs.List.{Contains, list_any}
use Rattle.mailbox.specs.Values.{Item}
use Rattle.centre_core.specs.State.{State}
use Rattle.centre_core.specs.History.{next, after, names}
use Rattle.centre_core.specs.Histories.{IsHistory}
use Rattle.centre_core.proofs.MailLaws.{none_lost, none_lost_made}
use Rattle.centre_core.proofs.InTurnLaws.{history-rest, ended_are_named}
use Rattle.schedule.specs.Laws.{NoneOfTheBaseLost, NoneMadeLost}
use Rattle.schedule.proofs.Soundness.{reached}

-- the message is missing in the state exactly where it is named
abbrev Missing : State → Item → Bool → Type 0
Missing s m named = (¬ Contains s.mail.items m) ↔ IsTrue named

module _ {A : Type 0} where
  pub none_of_the_base_lost : NoneOfTheBaseLost A
  none_of_the_base_lost base n es w run state m message waits =
      let in_turn = (reached base n es w run).stepped in
      subst (λ b. Missing (after base w.accepted) m b) (ended_are_named base w.accepted m in_turn) (none_lost base state w.accepted m message waits)

  pub none_made_lost : NoneMadeLost A
  none_made_lost base n es w run state bs c cs parts m makes =
      let in_turn : IsHistory base (bs ++ c ∷ cs) = subst (λ l. IsHistory base l) parts (reached base n es w run).stepped in
      let rest : IsHistory (after base bs) (c ∷ cs) = history-rest base bs (c ∷ cs) in_turn in
      subst (λ l. Missing (after base l) m (list_any (λ d. names d m) cs)) (sym parts)
      (subst (λ b. Missing (after base (bs ++ c ∷ cs)) m b) (ended_are_named (next (after base bs) c) cs m rest.1) (none_lost_made base state bs c cs m rest.0 makes))
