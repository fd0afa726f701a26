-- Lemmas.
mod Samples
pub mod Sameness
pub mod Keeping
pub mod Reading
pub mod Running
pub mod Calling
pub mod Judging
pub mod Staying
pub mod Turning
pub mod Fine
pub mod Walks
pub mod Downs
pub mod Texts
pub mod ShapeEquations
pub mod JudgeEquations
pub mod PlaceEquations
pub mod PieceEquations
pub mod TouchEquations
pub mod LoopEquations
pub mod Opening
pub mod OpenEquations
pub mod WithinEquations
pub mod ScanEquations
pub mod DisciplineEquations
