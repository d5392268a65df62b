use Rattle.group_attach.proofs.AllowedLaws as allowed
use Rattle.group_attach.proofs.laws.effects_are_allowed.Goals as goal

pub returns-clause-empty : goal.returns-clause-empty
returns-clause-empty c = λ s. (allowed.no_groups_fit, allowed.no_groups_known s)

pub returns-clause-updates : goal.returns-clause-updates
returns-clause-updates c = λ s m itsi update held. (allowed.after_update_fits m itsi update held.0, allowed.after_update_known s m itsi update held.1)

pub returns-clause-pdus : goal.returns-clause-pdus
returns-clause-pdus c = λ s m itsi mode items unrefused held. (allowed.applied_fits s m itsi mode items unrefused held.0, allowed.applied_known s m itsi mode items unrefused held.1)
