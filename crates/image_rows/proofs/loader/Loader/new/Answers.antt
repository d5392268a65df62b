use Rattle.std.proofs.Common.{None, subst, sym}
use Rattle.image_rows.specs.Held.{IsLoaded, loading}
use Rattle.image_rows.proofs.Loaded.{begun_is_loaded}
use Rattle.image_rows.proofs.loader.Loader.new.Goals as goal

pub invariant_of-result : goal.invariant_of-result
invariant_of-result g c =
    subst IsLoaded (sym (λ i. loading None (record { registered = c.in_ok-new.ensures i; groups = c.new-2.ensures i; mail = c.new-3.ensures i; served = c.in_ok-none_kept.ensures i; count = 0 })))
    (begun_is_loaded c.args.limits)
