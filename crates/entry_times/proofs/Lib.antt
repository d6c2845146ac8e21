pub mod Numbers
pub mod Between
pub mod Around
pub mod InOrder
