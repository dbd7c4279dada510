mod Turns
mod EntryLines
mod Printed
mod ReadBack
