pub mod TwoSessions
