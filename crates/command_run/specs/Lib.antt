pub mod Top
pub mod Complete
pub mod Main
pub mod IsRun
pub mod NoLog
