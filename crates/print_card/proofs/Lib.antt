-- The room that a card needs.
mod Room
