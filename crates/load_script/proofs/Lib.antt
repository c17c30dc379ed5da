pub mod Laws
mod Sizes
mod Stretches
mod Handing
mod Opening
mod Chain
mod Longer
mod Typed
mod Clock
mod FillLoop
mod Reading
