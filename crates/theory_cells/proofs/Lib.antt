-- The theorems: `request_exact` and `filling_exact` of one call, `cell_statement` and `list_answered` of lists of calls.
pub mod OneCall
pub mod CellSteps
pub mod CellStatement
