pub mod GroupViews
pub mod PduTest
pub mod Codes
