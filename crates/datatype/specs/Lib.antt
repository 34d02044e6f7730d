pub mod Datatypes
