pub mod Laws
mod HeldCounts
