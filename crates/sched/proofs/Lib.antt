pub mod Laws
mod About
mod RequestInPlace
mod OfflineAllLoop
mod Stores
mod Legal
mod LegalRequests
mod Cases
mod Runtime
mod Invariants
mod Fresh
mod OfflineEach
