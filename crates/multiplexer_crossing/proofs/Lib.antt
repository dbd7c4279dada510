pub mod Multiplexer
