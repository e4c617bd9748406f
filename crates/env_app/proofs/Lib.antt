pub mod Failures
pub mod LegalLogs
pub mod OpenLogs
pub mod Causes
