mod Steps
mod Written
