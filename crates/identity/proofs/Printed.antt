-- Texts that are put together from parts, and how long they are.
use Rattle.std.proofs.Common.{append_assoc, length-append}

pub ruleset printed = (append_assoc, length-append)
