mod Hearing
mod Noting
mod Parts
mod Released
mod Left
mod Reviving
