-- Why each row lies on the page of its key: the opening layout, a commit, a split, and pages that move.
pub mod Installing
pub mod PageValues
pub mod Opening
pub mod CutPages
pub mod Boundary
pub mod MovedPages
pub mod ValueAtPage
