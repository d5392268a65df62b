use Rattle.std.proofs.Common.{All, take}
use mathlib.Core.List.{IsPrefix}
use Rattle.flusher.proofs.closing.wait_within_each.Given as goal

abbrev pub invariant-loop-end : goal.invariant-loop-end
invariant-loop-end g l = All (λ e. IsPrefix e.viewer l.published) (take l.end-index l.ended)
