pub mod Laws
mod Tests
mod Each
mod Parts
mod Accepted
mod HasFile
mod Same
mod Slots
