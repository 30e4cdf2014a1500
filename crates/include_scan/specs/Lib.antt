pub mod Scanned
pub mod Scanning
pub mod Queue
