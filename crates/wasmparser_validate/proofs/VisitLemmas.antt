-- What a visit keeps, for those who name this crate alone.
pub use Rattle.validate_operators.proofs.Listed.{visit_valid, visit_kept}
