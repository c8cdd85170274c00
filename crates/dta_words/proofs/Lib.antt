pub mod NumberFacts
pub mod SettingsFacts
pub mod PieceFacts
pub mod RangeFacts
