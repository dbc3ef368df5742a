pub mod Members
pub mod InOrder
pub mod TicketOrder
pub mod LockOrder
pub mod Picked
pub mod FirstEvents
