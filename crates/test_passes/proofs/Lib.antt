pub mod FreePlaces
pub mod Journals
pub mod Pairing
pub mod PoolJournals
