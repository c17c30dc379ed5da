pub mod Laws
mod RecordTimes
mod AtItsClock
pub mod LastDomain
