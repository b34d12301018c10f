pub mod Seats
pub mod DeskSeats
pub mod Steppers
