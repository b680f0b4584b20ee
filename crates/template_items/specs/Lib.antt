pub mod Scanning
