-- Why who runs finds room at its commit.
pub mod Room
pub mod EachPage
pub mod Fit
pub mod CutFit
pub mod FitSteps
pub mod RoomAtCommit
