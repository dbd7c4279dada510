mod Few
mod TellLaws
