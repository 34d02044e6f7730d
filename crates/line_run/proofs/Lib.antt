-- A line more.
mod Drawn
