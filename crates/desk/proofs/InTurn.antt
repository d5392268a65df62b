-- Commands that a desk carries out one after another.
use Rattle.std.proofs.Common.{List, [], ◌∷◌, ◌++◌, refl, subst}
use Rattle.std.specs.Prelude.{Result}
use Rattle.centre_core.specs.declared.command.Command.{Command}
use Rattle.centre_core.specs.declared.reply.Reply.{Reply}
use Rattle.desk.specs.declared.outage.Outage.{Outage}
use Rattle.desk.specs.Rules.{AreApplied, Rules}

-- one command more
pub applied_more : {A W : Type 0} (rules : Rules A W) (cs : List (Command A)) (c : Command A) (s mid t : W) (rs : List (Result (Reply A) Outage)) (r : Result (Reply A) Outage) →
    AreApplied rules s cs rs mid → rules.applies mid c r t → AreApplied rules s (cs ++ c ∷ []) (rs ++ r ∷ []) t
applied_more rules [] c s mid t [] r h is = (t, subst (λ m. rules.applies m c r t) h is, refl)
applied_more rules [] c s mid t (q ∷ rs) r h is = absurd h
applied_more rules (d ∷ cs) c s mid t [] r h is = absurd h
applied_more rules (d ∷ cs) c s mid t (q ∷ rs) r h is = (h.0, h.1, applied_more rules cs c h.0 mid t rs r h.2 is)
