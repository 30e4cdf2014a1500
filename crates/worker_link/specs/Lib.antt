pub mod Sent
pub mod Link
pub mod Queue
pub mod Script
pub mod Stream
pub mod Ends
pub mod Serving
