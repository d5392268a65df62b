-- Each update that is accepted is answered by its type.
use Rattle.std.proofs.Common.{◌≡◌, refl, ap, Option, Some, None}
use Rattle.std.specs.Prelude.{IsSome}
use Rattle.std.specs.Option.{option_map}
use Rattle.mm_pdus.specs.declared.update.LocationUpdateType.{LocationUpdateType}
use Rattle.mm_pdus.specs.declared.update.AcceptType.{AcceptType}
use Rattle.mm_pdus.specs.Values.{accept_of}
use Rattle.mm_pdus.specs.Downlink.{accept_text}
use Rattle.mm_pdus.proofs.ValueLaws.{update_accepted-accept_of}
use Rattle.centre_core.specs.Laws.{IsAnswered}

answered_by : (update : LocationUpdateType) (accept : Option AcceptType) → accept_of update ≡ accept → IsSome accept → IsAnswered update
answered_by update None is some = absurd cc
answered_by update (Some accept) is some = record { accept = accept; same = update_accepted-accept_of update accept is; pdu = ap (option_map accept_text) is }

pub is_answered : (update : LocationUpdateType) → IsSome (accept_of update) → IsAnswered update
is_answered update some = answered_by update (accept_of update) refl some
