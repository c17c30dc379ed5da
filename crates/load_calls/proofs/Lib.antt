pub mod Laws
mod Ids
mod CallLaws
mod Clock
mod States
mod Widths
mod Meaning
