-- What jobs answer.
-- Cited by `Choice/Candidates`, `Shutdown/Jobs`, `pool_core`.
pub mod Answers
pub mod Numbers
