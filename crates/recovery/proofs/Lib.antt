mod Labelled
mod Sided
mod Played
mod Opened
mod Lasting
mod OneCommand
mod Called
mod Formatted
mod FormattedWith
mod Faults
mod Batches
pub mod Stored
mod UnderWay
mod Going
mod Recorded
mod KeptOn
mod Chained
mod States
mod Limited
mod Applied
mod Replayed
mod FromOpening
mod Synced
mod Ranged
pub mod Lived
pub mod CutShort
mod FirstDamage
mod Remains
mod Later
mod Events
pub mod Determined
mod InCall
pub mod Committed
