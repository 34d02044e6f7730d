-- What the engines copy.
mod Engines
