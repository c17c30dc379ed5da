pub mod Laws
mod Opened
mod All
mod FileFigures
