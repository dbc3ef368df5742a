pub mod HandedOver
mod Copies
mod Stops
