use Rattle.std.proofs.Common.{◌≡◌, ◌-◌, ◌+◌, ◌<◌, ℕ, List, [], ◌∷◌, length, rules, subst, arith}
use Rattle.std.specs.Prelude.{slice_set}
use Rattle.std.specs.Arc.{arc_value}
use Rattle.std.specs.declared.alloc.Global.{Global}
use Rattle.centre_core.specs.Asked.{Asked}
use Rattle.flusher.specs.Stages.{sent}
use Rattle.flusher.specs.Answerings.{HaveAnswered}
use Rattle.flusher.proofs.Answered.{one_answered}
use Rattle.flusher.proofs.Batched.{at_or}
use Rattle.flusher.proofs.answering.answer_one.Goals as goal

pub returns : goal.returns
returns g c =
    let items = c.args.senders.now.items in
    let i = c.from-station.result - 1 in
    let is : c.from-station.result ≡ (arc_value c.args.command).station = search rules in
    let pos = c.requires.station.0 in
    let le = c.requires.station.1 in
    let inside : i < length items = omega (arith, is, pos, le) in
    let mine : (arc_value c.args.command).station ≡ i + 1 = omega (arith, is, pos) in
    subst (λ (q : List (Asked Global) × ℕ). HaveAnswered items (sent q.1 (arc_value c.args.command) q.0 c.args.decision ∷ []) (slice_set items i c.send.new.self))
    (λ j. (c.copy-published.ensures j, c.copy-moment.ensures j))
    (one_answered items i c.index_mut.result.now c.send.new.self
    (sent c.copy-moment.result.tick (arc_value c.args.command) c.copy-published.result c.args.decision)
    (at_or items i c.index_mut.result.now inside (search rules)) mine c.send.ensures.same c.send.ensures.sent)
