mod Blank
mod GivenUp
mod Parts
mod Runs
mod Walks
