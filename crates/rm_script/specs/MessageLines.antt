-- The definitions of `message_lines`.
pub mod Lines
