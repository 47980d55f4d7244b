mod Among
mod Codes
mod Constraints
mod AsAWhole
mod GainedParts
mod Gains
mod Kinded
mod MemberValues
mod Noted
mod Objects
mod OneOrder
mod Ordered
mod Places
mod Reports
mod Sorted
mod ValidReports
mod Walks
pub mod OverFiles
