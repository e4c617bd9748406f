pub mod Apart
pub mod Lists
