pub mod Tables
pub mod Surveys
