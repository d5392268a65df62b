use Rattle.std.proofs.Common.{◌∙◌}
use Rattle.centre_core.proofs.EffectLaws.{same_state, same_whole}
use Rattle.centre_core.proofs.tables.TablesTryCopy.try_copy.Goals as goal

pub invariant_of-result : goal.invariant_of-result
invariant_of-result g c =
    same_state (record {
      registered = c.self.inside.registry;
      groups = c.self.inside.groups;
      mail = c.self.inside.mail;
      served =
          c.self.inside.served.items;
      count = c.self.inside.count;
    }) _ _ _ _ c.in_ok-try_copy.ensures c.in_ok-try_copy-2.ensures
    c.in_ok-try_copy-3.ensures (c.in_ok-copy_all.ensures ∙ c.deref.ensures.value) c.self.invariant

pub returns : goal.returns
returns g c =
    same_whole (record {
      registered = c.self.inside.registry;
      groups = c.self.inside.groups;
      mail = c.self.inside.mail;
      served =
          c.self.inside.served.items;
      count = c.self.inside.count;
    }) _ _ _ _ c.in_ok-try_copy.ensures c.in_ok-try_copy-2.ensures
    c.in_ok-try_copy-3.ensures (c.in_ok-copy_all.ensures ∙ c.deref.ensures.value) ∙ c.self.view_is
