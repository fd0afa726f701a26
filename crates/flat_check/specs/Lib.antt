-- What the checker of flat protocols answers (Verdict), and what its parts compute (Walk, Table, Search).
pub mod Verdict
pub mod Walk
pub mod Search
pub mod Table
