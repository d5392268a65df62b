use Rattle.std.proofs.Common.{◌++◌, subst}
use Rattle.centre_core.specs.Histories.{IsHistory}
use Rattle.centre_core.proofs.InTurnLaws.{history-rest}
use Rattle.flusher.specs.Shared.{commands_in}
use Rattle.flusher.proofs.publishing.publish_all.Goals as goal

pub append-requires : goal.append-requires
append-requires g c =
    let base = g.J.Centre.base in
    let all = c.loop-command.publisher.appended in
    record { next = (history-rest base all _ (subst (λ xs. IsHistory base (all ++ commands_in xs)) c.in-Some.ensures.items c.loop-command.invariant.0)).0 }
