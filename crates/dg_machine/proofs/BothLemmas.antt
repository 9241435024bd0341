-- What two clauses of a call that is returned as it is say together.
use Rattle.std.specs.Prelude.{Result, Ok, Err, IfOk}

module _ {T E : Type 0} where
  pub IfOk-both : (r : Result T E) (P Q R : T → Type 0) → ((x : T) → P x → Q x → R x) → IfOk r P → IfOk r Q → IfOk r R
  IfOk-both (Ok x) P Q R f h g = f x h g
  IfOk-both (Err y) P Q R f h g = tt
