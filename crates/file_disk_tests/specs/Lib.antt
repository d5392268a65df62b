pub mod PartFile
pub mod StepFile
