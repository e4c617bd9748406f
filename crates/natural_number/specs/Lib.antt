pub mod Limbs
pub mod Decimal
