pub mod Alignment
pub mod Counter
pub mod Executed
pub mod Inversion
pub mod Loading
pub mod Runs
pub mod StepCases
pub mod Writers
