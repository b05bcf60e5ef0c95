pub mod Failures
