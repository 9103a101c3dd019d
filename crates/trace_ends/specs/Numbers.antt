-- Numbers from 1.
pub use Rattle.session_rules.specs.Numbers.{numbered, with_numbered}
