-- Why a text asks for no disk.
use Rattle.std.proofs.Common.{◌≡◌, ℕ, List, Result, Err, refl, subst, sym}
use Rattle.std.specs.Prelude.{IsUtf8}
use Rattle.toml.specs.Errors.{IsBlank}
use Rattle.settings.specs.declared.reading.Settings.{Settings}
use Rattle.settings.specs.declared.reading.SettingsFault.{SettingsFault}
use Rattle.settings.specs.declared.reading.SettingsFault.TheVariants as settings
use Rattle.settings.specs.Reading.{Holds}
use Rattle.served_disk.specs.declared.fault.Fault.{Fault}
use Rattle.served_disk.specs.Faults.{of_settings}
use Rattle.served_disk.specs.Making.{AsksForNone}

abbrev refused_for : SettingsFault → Result Settings SettingsFault
refused_for e = Err e

by_fault : (text : List ℕ) (e : SettingsFault) → (refused_for e ≡ Err settings.BadSettings → (s : Settings) → ¬ Holds text s) → (refused_for e ≡ Err settings.NoMemory → IsUtf8 text × ¬ IsBlank text)
    → AsksForNone text (of_settings e)
by_fault text settings.BadSettings refused memory = refused refl
by_fault text settings.NoMemory refused memory = memory refl

pub none_read : (text : List ℕ) (e : SettingsFault) (f : Fault) → f ≡ of_settings e → (refused_for e ≡ Err settings.BadSettings → (s : Settings) → ¬ Holds text s)
    → (refused_for e ≡ Err settings.NoMemory → IsUtf8 text × ¬ IsBlank text) → AsksForNone text f
none_read text e f is refused memory = subst (λ g. AsksForNone text g) (sym is) (by_fault text e refused memory)
