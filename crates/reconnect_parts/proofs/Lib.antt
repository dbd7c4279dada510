mod Changing
mod Found
mod Ids
