mod PrintingLemmas
mod Moves
mod Refusals
mod Sides
mod Requests
mod Stores
