pub mod Cases
pub mod ColumnLaws
pub mod PlacedLaws
pub mod TextLaws
pub mod LineLaws
pub mod StreamLaws
pub mod WholeLaws
pub mod RoundTrip
