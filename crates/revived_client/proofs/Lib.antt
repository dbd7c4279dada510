mod Catching
mod Copied
mod Hearing
mod Keeping
mod Seen
