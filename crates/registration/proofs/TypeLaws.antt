-- Which types of location updates are served.
use Rattle.std.proofs.Common.{◌≡◌, None, refl}
use Rattle.std.specs.Prelude.{◌↔◌, IsSome}
use Rattle.mm_pdus.specs.declared.update.LocationUpdateType.{LocationUpdateType}
use Rattle.mm_pdus.specs.declared.update.LocationUpdateType.TheVariants.{Roaming, Migrating, Periodic, ItsiAttach, ServiceRestorationRoaming, ServiceRestorationMigrating, Demand, DisabledMs}
use Rattle.mm_pdus.specs.Values.{accept_of}
use Rattle.registration.specs.Registered.{type_refusal}

pub accepted_types : (update : LocationUpdateType) → (type_refusal update ≡ None) ↔ IsSome (accept_of update)
accepted_types Roaming = (λ e. refl, λ s. refl)
accepted_types Migrating = (λ e. absurd cc, λ s. absurd cc)
accepted_types Periodic = (λ e. refl, λ s. refl)
accepted_types ItsiAttach = (λ e. refl, λ s. refl)
accepted_types ServiceRestorationRoaming = (λ e. refl, λ s. refl)
accepted_types ServiceRestorationMigrating = (λ e. absurd cc, λ s. absurd cc)
accepted_types Demand = (λ e. refl, λ s. refl)
accepted_types DisabledMs = (λ e. absurd cc, λ s. absurd cc)
