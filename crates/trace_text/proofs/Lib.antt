pub mod Found
pub mod ShortNames
pub mod Ids
pub mod Versions
pub mod Hex
