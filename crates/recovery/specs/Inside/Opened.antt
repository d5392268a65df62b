-- The register and the journal that a disk opens to.
use Rattle.std.specs.Prelude.{◌≡◌, ◌<◌}
use Rattle.checkpoint.specs.Layout.{half_at, half_end}
use Rattle.recovery.specs.declared.opening.Opened.{Opened}
use Rattle.recovery.specs.Opens.{Opening, opening}

-- what the disk opened to
abbrev pub opened_view : {A : Type 0} → Opened A → Opening
opened_view opened = opening opened.layout opened.side opened.epoch opened.journal.next opened.register

-- the register has the layout's limits, and the journal is that of the side and counts the register's commands
pub record IsWhole {A : Type 0} (opened : Opened A) : Type 0 where
  pub limits : opened.register.registered.limits ≡ opened.layout.limits
  pub first : opened.journal.first ≡ half_at opened.layout opened.side
  pub end : opened.journal.end ≡ half_end opened.layout opened.side
  pub next : opened.journal.next < half_end opened.layout opened.side
  pub counts : opened.journal.count ≡ opened.register.count
