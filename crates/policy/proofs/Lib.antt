pub mod Laws
mod Ids
mod Lifts
mod AccountReads
mod ClearLoop
mod JoinedLoop
mod FloorLoop
mod RenewalLoop
mod AccountPuts
mod SettingLaws
mod DefaultLaws
mod RenewalLaws
pub mod LastSlots
