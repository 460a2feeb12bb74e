pub mod Table
pub mod StaticData
pub mod Sound
