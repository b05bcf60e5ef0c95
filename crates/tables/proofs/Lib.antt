pub mod Surveys
pub mod Firsts
