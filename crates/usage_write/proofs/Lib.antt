mod Stores
mod Limbs
mod Sizes
mod FileLoop
mod Fits
