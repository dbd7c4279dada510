mod Legs
mod Retrying
