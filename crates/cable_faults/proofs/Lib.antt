pub mod Whole
mod SpoiltTelegrams
mod InOrder
mod FaultlessCables
