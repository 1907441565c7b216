mod OrderLemmas
mod Covered
mod Gathered
mod LaidRows
mod Laying
mod LoneSteps
mod Entries
mod Commits
