use Rattle.std.proofs.Common.{ap, ◌∙◌}
use Rattle.std.specs.Option.{is_some}
use Rattle.std.specs.FinMap as finite
use Rattle.group_attach.specs.Attached.{pair_of}
use Rattle.group_attach.proofs.FiledFacts.{none_to_overwrite, none_before}
use Rattle.group_attach.proofs.lists.Lists.attach.Goals as goal

pub returns-in_err-clone-clause-overwrites : goal.returns-in_err-clone-clause-overwrites
returns-in_err-clone-clause-overwrites g c = λ there.
    absurd (none_to_overwrite c.args.self.now c.args.path (pair_of c.args.attachment)
    (c.in_default.ensures.there ∙ ap (λ f. is_some (finite.get f c.args.path)) c.self.view_is) there)

pub returns-in_err-list-clause-overwrites : goal.returns-in_err-list-clause-overwrites
returns-in_err-list-clause-overwrites g c = λ there.
    absurd (none_to_overwrite c.args.self.now c.args.path (pair_of c.args.attachment)
    (c.in_default.ensures.there ∙ ap (λ f. is_some (finite.get f c.args.path)) c.self.view_is) there)

pub returns-in_err-insert-clause-overwrites : goal.returns-in_err-insert-clause-overwrites
returns-in_err-insert-clause-overwrites g c = λ there.
    absurd (none_to_overwrite c.args.self.now c.args.path (pair_of c.args.attachment)
    (c.in_default.ensures.there ∙ ap (λ f. is_some (finite.get f c.args.path)) c.self.view_is) there)

pub returns-clause-before : goal.returns-clause-before
returns-clause-before g c = none_before c.args.self.now c.args.path (pair_of c.args.attachment) (c.in_default.ensures.there ∙ ap (λ f. is_some (finite.get f c.args.path)) c.self.view_is)
