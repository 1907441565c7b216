pub mod Even
pub mod Places
pub mod Rests
pub mod Steps
pub mod StepCaches
