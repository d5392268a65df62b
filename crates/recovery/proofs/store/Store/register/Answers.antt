use Rattle.std.proofs.Common.{sym, ◌∙◌}
use Rattle.std.proofs.lemmas.Bool.{true≢false}
use Rattle.recovery.proofs.store.Store.register.Goals as goal

pub returns-clause-broken : goal.returns-clause-broken
returns-clause-broken g c = λ is. absurd (true≢false (sym is ∙ c.if-self.false))
