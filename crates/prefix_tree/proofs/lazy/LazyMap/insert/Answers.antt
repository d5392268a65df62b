use Rattle.prefix_tree.proofs.LazyLaws.{not_there}
use Rattle.prefix_tree.proofs.lazy.LazyMap.insert.Goals as goal

pub returns-in_err-clone-clause-overwrites : goal.returns-in_err-clone-clause-overwrites
returns-in_err-clone-clause-overwrites g c = λ there. absurd (not_there _ _ _ c.self.view_is c.in_default.is there)
