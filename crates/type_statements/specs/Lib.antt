-- What code gives of statements.
pub mod Stating
pub mod StatementsGiven
pub mod StatementLists
