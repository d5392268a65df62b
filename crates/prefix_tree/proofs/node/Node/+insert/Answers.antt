use Rattle.std.proofs.Common.{[], true, false, sym, ap, ◌∙◌, arith, rules}
use Rattle.std.proofs.lemmas.Bool.Decides.{nat_tests}
use Rattle.std.proofs.lemmas.Result.{on_ok_weaker, IfOk-weaker, IfErr-weaker}
use Rattle.base.proofs.Options.{none_there}
use Rattle.prefix_tree.specs.Inside.Around.{around, table_of, IsUnder}
use Rattle.prefix_tree.proofs.NodeLaws.{fits, whole_key, longer_key, side_is, read_at, read_zero, read_one, write_here, into_zero, into_one, is_there}
use Rattle.prefix_tree.proofs.NodeLaws.{off_link, on_link, same_box, firm_node, firm_after, begins_box}
use Rattle.prefix_tree.proofs.StepLaws.{turn, zero_any, one_any, still_sound, sound_with_zero, sound_with_one}
use Rattle.prefix_tree.proofs.node.Node.+insert.Goals as goal

pub insert-returns-then-len-clause-before : goal.insert-returns-then-len-clause-before
insert-returns-then-len-clause-before g t c =
    let whole = whole_key c.self.inside _ c.self.view_is c.args.key.now c.requires.within (sym c.len.ensures.value ∙ c.if-len.true ∙ c.len-2.ensures.value) in
    c.replace.ensures.value ∙ sym (read_at c.self.inside _ c.self.view_is c.requires.sound _ whole)

pub insert-returns-then-len-clause-ok : goal.insert-returns-then-len-clause-ok
insert-returns-then-len-clause-ok g t c =
    let whole = whole_key c.self.inside _ c.self.view_is c.args.key.now c.requires.within (sym c.len.ensures.value ∙ c.if-len.true ∙ c.len-2.ensures.value) in
    ap (λ v. around c.self.inside.at v (table_of c.self.inside.zero) (table_of c.self.inside.one)) c.replace.ensures.after
    ∙ write_here c.self.inside _ c.self.view_is c.requires.sound _ _ whole

pub insert-side-requires-clause-shorter : goal.insert-side-requires-clause-shorter
insert-side-requires-clause-shorter g t c =
    longer_key c.self.inside _ c.self.view_is c.args.key.now c.requires.within (λ same. grind (arith, nat_tests, c.if-len.false, c.len.ensures.value ∙ same ∙ sym c.len-2.ensures.value))

pub insert-returns-then-side-clause-before : goal.insert-returns-then-side-clause-before
insert-returns-then-side-clause-before g t c =
    let side = side_is c.self.inside _ c.self.view_is c.args.key.now c.requires.within _ true c.if-side.true c.side.ensures in
    IfOk-weaker c.insert_below.result _ _ (λ x e. e ∙ sym (read_one c.self.inside _ c.self.view_is c.requires.sound _ side)) c.insert_below.ensures.before

pub insert-returns-then-side-clause-ok : goal.insert-returns-then-side-clause-ok
insert-returns-then-side-clause-ok g t c =
    let side = side_is c.self.inside _ c.self.view_is c.args.key.now c.requires.within _ true c.if-side.true c.side.ensures in
    on_ok_weaker c.insert_below.result (into_one c.self.inside _ c.self.view_is c.requires.sound _ _ _ side) c.insert_below.ensures.ok

pub insert-returns-then-side-clause-overwrite_succeeds : goal.insert-returns-then-side-clause-overwrite_succeeds
insert-returns-then-side-clause-overwrite_succeeds g t c some =
    let side = side_is c.self.inside _ c.self.view_is c.args.key.now c.requires.within _ true c.if-side.true c.side.ensures in
    c.insert_below.ensures.overwrite_succeeds (is_there (sym (read_one c.self.inside _ c.self.view_is c.requires.sound _ side)) some)

pub insert-returns-else-side-clause-before : goal.insert-returns-else-side-clause-before
insert-returns-else-side-clause-before g t c =
    let side = side_is c.self.inside _ c.self.view_is c.args.key.now c.requires.within _ false c.if-side.false c.side.ensures in
    IfOk-weaker c.insert_below-else-side.result _ _ (λ x e. e ∙ sym (read_zero c.self.inside _ c.self.view_is c.requires.sound _ side)) c.insert_below-else-side.ensures.before

pub insert-returns-else-side-clause-ok : goal.insert-returns-else-side-clause-ok
insert-returns-else-side-clause-ok g t c =
    let side = side_is c.self.inside _ c.self.view_is c.args.key.now c.requires.within _ false c.if-side.false c.side.ensures in
    on_ok_weaker c.insert_below-else-side.result (into_zero c.self.inside _ c.self.view_is c.requires.sound _ _ _ side) c.insert_below-else-side.ensures.ok

pub insert-returns-else-side-clause-overwrite_succeeds : goal.insert-returns-else-side-clause-overwrite_succeeds
insert-returns-else-side-clause-overwrite_succeeds g t c some =
    let side = side_is c.self.inside _ c.self.view_is c.args.key.now c.requires.within _ false c.if-side.false c.side.ensures in
    c.insert_below-else-side.ensures.overwrite_succeeds (is_there (sym (read_zero c.self.inside _ c.self.view_is c.requires.sound _ side)) some)

pub insert_below-returns-then-not-leads-clause-before : goal.insert_below-returns-then-not-leads-clause-before
insert_below-returns-then-not-leads-clause-before g t c = IfOk-weaker c.grow.result _ _ (λ x e. e ∙ sym (off_link _ _ _ c.requires (sym c.leads.ensures ∙ c.if-not-leads.true))) c.grow.ensures.before

pub insert_below-returns-then-not-leads-clause-overwrite_succeeds : goal.insert_below-returns-then-not-leads-clause-overwrite_succeeds
insert_below-returns-then-not-leads-clause-overwrite_succeeds g t c some = absurd (none_there (off_link _ _ _ c.requires (sym c.leads.ensures ∙ c.if-not-leads.true)) some)

pub insert_below-returns-clause-err : goal.insert_below-returns-clause-err
insert_below-returns-clause-err g t c = IfErr-weaker c.insert.result _ _ (λ x e. (e.0, same_box _ c.in-Some.node _ _ c.in-Some.is e.1 c.deref_mut.ensures.value)) c.insert.ensures.err

pub insert_below-returns-clause-under : goal.insert_below-returns-clause-under
insert_below-returns-clause-under g t c p under begun =
    firm_after p c.insert.result _ c.insert.new.self c.args.key.now c.args.value _ (firm_node p _ c.in-Some.node _ c.in-Some.is c.deref_mut.ensures.value under)
    (begins_box _ _ _ c.deref_mut.ensures.value (on_link _ _ c.in-Some.node c.in-Some.is (sym c.leads.ensures ∙ c.if-not-leads.false)))
    c.insert.ensures.at c.insert.ensures.ok c.insert.ensures.err c.insert.ensures.sound

pub insert-returns-then-len-clause-sound : goal.insert-returns-then-len-clause-sound
insert-returns-then-len-clause-sound g t c = still_sound c.self.inside _ c.self.view_is c.requires.sound

pub insert-insert_below-requires : goal.insert-insert_below-requires
insert-insert_below-requires g t c κs within = let under : IsUnder [] c.self.inside.one = one_any c.self.inside _ c.self.view_is c.requires.sound in search (rules)

pub insert-insert_below-requires-else-side : goal.insert-insert_below-requires-else-side
insert-insert_below-requires-else-side g t c κs within = let under : IsUnder [] c.self.inside.zero = zero_any c.self.inside _ c.self.view_is c.requires.sound in search (rules)

pub insert-returns-then-side-clause-sound : goal.insert-returns-then-side-clause-sound
insert-returns-then-side-clause-sound g t c =
    sound_with_one c.self.inside _ c.self.view_is c.requires.sound _
    (c.insert_below.ensures.under _ (fits c.self.inside _ c.self.view_is c.requires.sound).1
    (turn c.self.inside.at c.args.key.now _ _ c.if-side.true c.side.ensures))

pub insert-returns-else-side-clause-sound : goal.insert-returns-else-side-clause-sound
insert-returns-else-side-clause-sound g t c =
    sound_with_zero c.self.inside _ c.self.view_is c.requires.sound _
    (c.insert_below-else-side.ensures.under _ (fits c.self.inside _ c.self.view_is c.requires.sound).0
    (turn c.self.inside.at c.args.key.now _ _ c.if-side.false c.side.ensures))
