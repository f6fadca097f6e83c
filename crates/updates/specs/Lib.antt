pub mod Views
pub mod Updates
