mod LastLongest
mod Places
mod Removal
