pub mod Laws
pub mod Unique
mod ScanSteps
mod PlacementLoop
mod PreemptionLoop
mod BeatenLoop
mod Leaders
mod First
mod IdleSets
mod Log
mod SettleLoop
mod DecideCong
