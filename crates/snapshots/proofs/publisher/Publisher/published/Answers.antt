use Rattle.std.proofs.Common.{◌≡◌, ◌-◌, ℕ, length, sym, ◌∙◌, ap, subst, arith}
use Rattle.centre_core.specs.Histories.{IsHistory}
use Rattle.snapshots.proofs.CommandLists.{run_length}
use Rattle.snapshots.proofs.publisher.Publisher.published.Goals as goal

pub overflow_sub-result : goal.overflow_sub-result
overflow_sub-result g c =
    let i = c.self.invariant in
    let n = run_length g.J.Centre.base c.self.inside.writer.desk.shown.value.register c.self.inside.writer.desk.shown.value.list.log i.5.1 i.5.0 in
    let r : c.count.result ≡ c.self.inside.writer.desk.shown.value.register.count = c.count.ensures ∙ ap (λ s. s.register.count) c.published-shown.ensures in
    let b = i.2 in
    let le = n.0 in
    omega arith

pub invariant_of-result : goal.invariant_of-result
invariant_of-result g c =
    let i = c.self.invariant in
    let n = run_length g.J.Centre.base c.self.inside.writer.desk.shown.value.register c.self.inside.writer.desk.shown.value.list.log i.5.1 i.5.0 in
    let r : c.count.result ≡ c.self.inside.writer.desk.shown.value.register.count = c.count.ensures ∙ ap (λ s. s.register.count) c.published-shown.ensures in
    let l = c.again.ensures ∙ ap (λ s. s.list) c.published-shown.ensures in
    let b = i.2 in
    let e = n.1 in
    let m : c.count.result - c.self.inside.base ≡ length c.self.inside.writer.desk.shown.value.list.log = ap (λ k. k - c.self.inside.base) r ∙
    ap (λ (k : ℕ). c.self.inside.writer.desk.shown.value.register.count - k) b ∙ e in
    (m ∙ ap (λ t. length t.log) (sym l), ap (λ t. t.book) l ∙ i.5.2, subst (λ t. IsHistory g.J.Centre.base t.log) (sym l) i.5.1)
