use Rattle.std.proofs.Common.{◌≡◌, ◌-◌, ℕ, length, ◌∙◌, ap, arith}
use Rattle.snapshots.proofs.CommandLists.{run_length}
use Rattle.snapshots.proofs.Prefixes.{is_whole}
use Rattle.snapshots.proofs.publisher.Publisher.is_caught_up.Goals as goal

pub overflow_sub-result : goal.overflow_sub-result
overflow_sub-result g c =
    let i = c.self.invariant in
    let n = run_length g.J.Centre.base c.self.inside.writer.desk.shown.value.register c.self.inside.writer.desk.shown.value.list.log i.5.1 i.5.0 in
    let r : c.count.result ≡ c.self.inside.writer.desk.shown.value.register.count = c.count.ensures ∙ ap (λ s. s.register.count) c.published.ensures in
    let b = i.2 in
    let le = n.0 in
    omega arith

pub returns : goal.returns
returns g c =
    let i = c.self.invariant in
    let n = run_length g.J.Centre.base c.self.inside.writer.desk.shown.value.register c.self.inside.writer.desk.shown.value.list.log i.5.1 i.5.0 in
    let r : c.count.result ≡ c.self.inside.writer.desk.shown.value.register.count = c.count.ensures ∙ ap (λ s. s.register.count) c.published.ensures in
    let m : c.count.result - c.self.inside.base ≡ length c.self.inside.writer.desk.shown.value.list.log = ap (λ k. k - c.self.inside.base) r ∙
    ap (λ (k : ℕ). c.self.inside.writer.desk.shown.value.register.count - k) i.2 ∙ n.1 in
    rw (← c.self.view_is) (is_whole c.self.inside.writer.desk.shown.value.list.log c.self.inside.appended.log (c.count.result - c.self.inside.base) c.self.inside.count i.6 m i.3)
