-- The theorems on the card.
mod Calls
