use Rattle.std.proofs.Common.{◌≡◌, ◌≤◌, ℕ, ap, ◌∙◌, subst}
use Rattle.std.specs.Prelude.{◌&&◌, nat_le}
use Rattle.std.specs.FinMap as map
use Rattle.identity.specs.Path.{left_aligned}
use Rattle.identity.specs.Path.{path_cmp}
use Rattle.prefix_tree.proofs.Following.{sorted_rise}
use Rattle.listings.specs.Inside.Walking.{if_under, is_past}
use Rattle.listings.proofs.Under.{next_under}
use Rattle.listings.proofs.walk.radio_under.Goals as goal

pub returns : goal.returns
returns g c =
    let p = c.args.prefix.now in
    let radios = c.args.registry.now.radios in
    let short = subst (λ n. n ≤ 48) c.len-len.ensures.value c.len-len.ensures.at_most_48 in
    let past : (n : ℕ) → is_past c.later.result n ≡ (is_past c.args.after n && nat_le (left_aligned p) n) = λ n. c.later.ensures.past n ∙
    ap (λ b. is_past c.args.after n && b) (c.before_prefix.ensures n) in
    c.if_under.ensures ∙ ap (if_under p) c.next_radio.ensures
    ∙ next_under p c.args.after c.later.result (map.entries radios) short c.later.ensures.one_below c.later.ensures.below past
    (sorted_rise path_cmp (map.entries radios) (map.entries_sorted radios)) c.requires
