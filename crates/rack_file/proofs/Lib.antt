mod Elements
mod Each
mod Folds
mod Accepted
mod Places
mod Rows
