use Rattle.std.proofs.Common.{◌≡◌, ◌≤◌, ◌++◌, List, ℕ, vec_capacity}
use Rattle.listings.specs.Inside.Dumping.{lasts_text}
use Rattle.listings.proofs.Dumping.{lasts_left}
use Rattle.listings.proofs.dump.put_lasts.Given as goal

-- this is written, and the lines from this station on are left
abbrev pub invariant-loop-at : goal.invariant-loop-at
invariant-loop-at g l = (done : List ℕ) × (l.out.items ≡ l.initial.out.items ++ done) × (done ++ lasts_left l.served l.at ≡ lasts_text 1 l.served)
    × (vec_capacity l.initial.out ≤ vec_capacity l.out)
