use Rattle.std.proofs.Common.{◌≡◌, ◌-◌, ℕ, length, sym, ◌∙◌, ap, subst, arith}
use Rattle.centre_core.specs.Histories.{IsHistory}
use Rattle.snapshots.proofs.CommandLists.{run_length}
use Rattle.snapshots.proofs.visit.list_of.Goals as goal

pub overflow_sub-result : goal.overflow_sub-result
overflow_sub-result g c =
    let x = c.args.inside.now.part.value in
    let n = run_length g.J.Centre.base x.register x.list.log c.requires.snapshot.1 c.requires.snapshot.0 in
    let r : c.count.result ≡ x.register.count = c.count.ensures ∙ ap (λ s. s.register.count) c.get-shown.ensures in
    let b = c.requires.base in
    let le = n.0 in
    omega arith

pub invariant_of-result : goal.invariant_of-result
invariant_of-result g c =
    let x = c.args.inside.now.part.value in
    let n = run_length g.J.Centre.base x.register x.list.log c.requires.snapshot.1 c.requires.snapshot.0 in
    let r : c.count.result ≡ x.register.count = c.count.ensures ∙ ap (λ s. s.register.count) c.get-shown.ensures in
    let l = c.again.ensures ∙ ap (λ s. s.list) c.get-shown.ensures in
    let m : c.count.result - c.args.base ≡ length x.list.log = ap (λ k. k - c.args.base) r ∙ ap (λ (k : ℕ). x.register.count - k) c.requires.base ∙ n.1 in
    (m ∙ ap (λ t. length t.log) (sym l), ap (λ t. t.book) l ∙ c.requires.snapshot.2, subst (λ t. IsHistory g.J.Centre.base t.log) (sym l) c.requires.snapshot.1)
