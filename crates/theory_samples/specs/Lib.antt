-- What the definitions answer for a volume; random volumes with the answers listed.
pub mod Answers
pub mod Samples
