-- The laws of the definitions in specs/.
pub mod Classes
pub mod Numbers
pub mod Rooted
