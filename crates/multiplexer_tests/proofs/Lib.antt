mod Sources
mod Known
