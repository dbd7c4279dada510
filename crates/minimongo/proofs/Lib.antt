mod Listing
mod Holding
mod States
mod InPlace
