pub mod TicketLaws
pub mod TicketTables
pub mod Tickets
