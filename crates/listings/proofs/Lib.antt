pub mod Listed
mod Fullest
mod Used
mod RuleLine
mod Walks
mod Passed
mod Under
mod Turns
mod Dumping
