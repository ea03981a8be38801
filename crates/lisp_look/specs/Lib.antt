pub mod Look
pub mod Outside
pub mod Answer
pub mod Asking
pub mod Text
pub mod Looking
pub mod Fault
