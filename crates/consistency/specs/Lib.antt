-- Consistency is what a reader has to believe. Rows says the tests of one row over the numbers of the table, as the code makes them;
-- proofs/Rows.antt shows that they are the model's.
pub mod Consistency
pub mod Rows
