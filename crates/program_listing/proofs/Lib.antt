-- What the functions that the program calls give together.
pub mod ProgramLaws
