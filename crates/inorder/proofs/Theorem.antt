-- What the laws of this crate need besides, and no other crate cites.
pub mod LetKept
pub mod DeliveryKept
pub mod FinishKept
pub mod LeaveKept
pub mod SpeculationKept
pub mod WordsKept
pub mod Forbidden
pub mod Speculated
pub mod Delivered
pub mod Waking
pub mod EachAnswered
