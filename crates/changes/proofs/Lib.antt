pub mod Laws
mod HandsBack
