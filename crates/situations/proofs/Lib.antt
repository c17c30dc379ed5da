pub mod AnotherMachine
pub mod BesideDemand3
pub mod Clauses
pub mod Examples
pub mod Extremes
pub mod LargestHost
pub mod LargestPool
pub mod PoolExamples
