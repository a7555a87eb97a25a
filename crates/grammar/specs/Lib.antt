pub mod Finding
pub mod Grammar
pub mod Lines
pub mod LineParts
