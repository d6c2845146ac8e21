-- helper
pub mod MissingPorts
pub mod ServeFaults
