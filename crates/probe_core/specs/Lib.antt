pub mod Events
pub mod Made
pub mod Rule
