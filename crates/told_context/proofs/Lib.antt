pub mod FirstTakers
pub mod Standing
pub mod Taking
