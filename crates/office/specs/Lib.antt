pub mod Office
pub mod Telling
