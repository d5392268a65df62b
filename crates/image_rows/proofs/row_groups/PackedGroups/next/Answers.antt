use Rattle.std.proofs.Common.{◌≡◌, rules, Some}
use Rattle.image_rows.specs.RowText.{group_in}
use Rattle.image_rows.specs.RowReading.{group_at}
use Rattle.image_rows.proofs.GroupSteps.{none_left, no_first, first_taken}
use Rattle.image_rows.proofs.row_groups.PackedGroups.next.Goals as goal

pub returns-then-self-eq0-clause-value : goal.returns-then-self-eq0-clause-value
returns-then-self-eq0-clause-value c = (no_first c.args.self.now (none_left c.self.inside.count c.self.inside.bytes.now c.args.self.now c.self.view_is c.if-self-eq0.true)).0

pub returns-then-self-eq0-clause-rest : goal.returns-then-self-eq0-clause-rest
returns-then-self-eq0-clause-rest c = (no_first c.args.self.now (none_left c.self.inside.count c.self.inside.bytes.now c.args.self.now c.self.view_is c.if-self-eq0.true)).1

pub returns-clause-value : goal.returns-clause-value
returns-clause-value c =
    let is : Some (group_in c.in-Some.attachment, c.in-Some.rest.now) ≡ group_at c.self.inside.bytes.now = search rules in
    (first_taken c.self.inside.count c.self.inside.bytes.now c.args.self.now (group_in c.in-Some.attachment) c.in-Some.rest.now c.self.view_is c.self.invariant c.if-self-eq0.false is).0

pub returns-clause-rest : goal.returns-clause-rest
returns-clause-rest c =
    let is : Some (group_in c.in-Some.attachment, c.in-Some.rest.now) ≡ group_at c.self.inside.bytes.now = search rules in
    (first_taken c.self.inside.count c.self.inside.bytes.now c.args.self.now (group_in c.in-Some.attachment) c.in-Some.rest.now c.self.view_is c.self.invariant c.if-self-eq0.false is).1
