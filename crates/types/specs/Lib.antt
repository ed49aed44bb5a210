pub mod Money
pub mod Orders
pub mod Reports
