use Rattle.std.proofs.KnownBytes.{Appends-trans}
use Rattle.base.proofs.Results.{then_on_ok}
use Rattle.served_disk.specs.Rests.{lacking_radios_text}
use Rattle.served_disk.proofs.rest.print_lacking_radios.Goals as goal

pub returns : goal.returns
unfolding lacking_radios_text
returns g c = then_on_ok c.print_lacking-2.result c.print_lacking-2.ensures (λ more. Appends-trans _ _ _ _ _ c.in_ok-print_lacking.ensures more)
