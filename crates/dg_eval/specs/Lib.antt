pub use Rattle.dg_machine.specs.Arriving
pub use Rattle.dg_machine.specs.Evaluating
pub use Rattle.dg_machine.specs.Lost
pub mod Truth
pub mod Advance
