pub mod Laws
mod SurveyLoop
mod AdvanceResult
mod Enacting
mod Recommendations
mod ByIds
mod Forgetting
mod ServiceSteady
mod ServiceRows
mod EnactLoop
mod SettleLoop
mod RunTimes
pub mod LastSlots
