-- Read in this order. A reader has to believe the first five: lists, recognitions, the order of rows and the listing, how many rows a table
-- holds, and the reference model. RowSteps and Consistency are what the watch does and checks on rows; Statements says what is proved of both.
pub mod Lists
pub mod Recognitions
pub mod Order
pub mod Capacity
pub mod Reference
pub mod RowSteps
pub mod Consistency
pub mod Statements
