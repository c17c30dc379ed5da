pub mod AtItsClock
