use Rattle.std.proofs.Common.{◌∙◌, ◌*◌, ap, sym, arith, drop, take, ◌≡◌, ◌+◌, ◌-◌}
use Rattle.register_text.proofs.WordGroups.{read_at, stopped_at, all_at}
use Rattle.register_text.proofs.fields.groups_in.Goals as goal

pub loop-at-preserved : goal.loop-at-preserved
loop-at-preserved g c =
    let at = c.loop-at.at in
    let three : 3 * at + 3 - 3 * at ≡ 3 = omega arith in
    read_at (λ w. w.now) c.args.words.now at c.loop-at.groups.items c.push.new.self.items c.in-Some.group _ c.in_ok-push.ensures.items
    c.in-Some.ensures (ap (λ n. take n (drop (3 * at) c.args.words.now)) three) (omega (arith, c.loop-at-test.true)) ∙ c.loop-at.invariant

pub returns-in_default : goal.returns-in_default
returns-in_default g c =
    let at = c.loop-at.at in
    let three : 3 * at + 3 - 3 * at ≡ 3 = omega arith in
    stopped_at (λ w. w.now) c.args.words.now at c.loop-at.groups.items _ c.in_default.ensures
    (ap (λ n. take n (drop (3 * at) c.args.words.now)) three) (omega (arith, c.loop-at-test.true)) ∙ c.loop-at.invariant

pub returns : goal.returns
returns g c = all_at (λ w. w.now) c.args.words.now c.loop-at.at c.loop-at.groups.items (omega (arith, c.loop-at-test.false)) ∙ c.loop-at.invariant
