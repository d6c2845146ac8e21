-- helper
pub mod Serving
pub mod ServeOutput
