use Rattle.std.proofs.Common.{◌≡◌, [], ◌∷◌, length, ap, sym, ◌∙◌, arith, length-append}
use Rattle.std.specs.Prelude.{All}
use Rattle.std.proofs.lemmas.List.Elements.{All-same, All-push, All-weaker}
use Rattle.atomic_table.specs.Seated.{TableId}
use Rattle.station_queue.specs.Ends.{Taking, Sending, sending}
use Rattle.station_queue.proofs.Steps.{begins, more_senders}
use Rattle.station_queue.proofs.queue.open_queue.Goals as goal

pub ruled-requires-clause-rule : goal.ruled-requires-clause-rule
ruled-requires-clause-rule c = begins

pub loop-station-preserved : goal.loop-station-preserved
loop-station-preserved c =
    let i = c.loop-station.invariant in
    let now = c.in_ok-sender.ensures.made in
    let items = c.in-Ok.ensures.items in
    let made = ap (λ (t : Taking). t.made) now in
    let queue = ap (λ (t : Taking). t.queue) now in
    let old = c.loop-station.taker.queue in
    let new : TableId = c.sender.new.self.queue in
    let same : All (λ s. s.queue ≡ new) c.loop-station.senders.items = All-weaker (λ (s : Sending). s.queue ≡ old) (λ s. s.queue ≡ new) (λ s e. e ∙ sym queue) c.loop-station.senders.items i.5 in
    let mine : c.in_ok-sender.sender.queue ≡ new = ap (λ (s : Sending). s.queue) c.in_ok-sender.ensures.sender ∙ sym queue in
    let before = i.0 in
    let long = i.2 in
    let more = ap length items in
    let one = length-append c.loop-station.senders.items (c.in_ok-sender.sender ∷ []) in (
      omega arith,
      ap (λ (t : Taking). t.taken) now ∙ i.1,
      omega arith,
      more_senders _ _ _ c.loop-station.taker.queue _ _ items i.2
          (c.in_ok-sender.ensures.sender ∙ ap (λ n. sending c.loop-station.taker.queue n []) c.new-in-loop-station.ensures)
          (ap (λ (t : Taking). t.queue) now) i.3,
      ap (λ (t : Taking). t.settled) now ∙ i.4,
      All-same (λ (s : Sending). s.queue ≡ new) _ _ items (All-push (λ (s : Sending). s.queue ≡ new) c.loop-station.senders.items c.in_ok-sender.sender same mine),
    )
