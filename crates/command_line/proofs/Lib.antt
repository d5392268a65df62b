mod Adds
mod Flags
mod Found
mod Paired
mod Stations
