-- When looking changes nothing.
pub mod Still
