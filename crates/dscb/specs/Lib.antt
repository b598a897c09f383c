pub mod Records
pub mod Tests
pub mod Forms
