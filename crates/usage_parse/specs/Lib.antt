pub mod Domains
pub mod DomainLaws
pub mod Refusals
pub mod FileFigures
