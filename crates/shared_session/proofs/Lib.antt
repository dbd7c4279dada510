mod Still
mod Places
mod Floors
mod Texts
mod Keeping
