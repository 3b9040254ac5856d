-- What is shown of the line that the program prints.
pub mod Inputs
pub mod Program
