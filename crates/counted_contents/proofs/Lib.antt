mod Setting
mod Changed
