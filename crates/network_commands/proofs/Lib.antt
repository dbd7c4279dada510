mod Causes
mod Lines
