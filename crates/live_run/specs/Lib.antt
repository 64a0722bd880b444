pub mod Loops
pub mod Reception
pub mod RefusedLine
pub mod Seating
pub mod Sitting
pub mod Teller
pub mod Watched
pub mod WholeRun
