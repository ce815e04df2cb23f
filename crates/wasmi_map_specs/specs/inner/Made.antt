-- What a call returns where the call below it returns this.
use Rattle.std.specs.Prelude.{◌≡◌, Result, Ok, Err}

module _ {There Here Failed Error : Type 0} (inner : Here → There) (out : Error) where
  -- what is made of a value holds that value, as `inner` reads it; what is made of an error is `out`
  abbrev pub IsMadeOf : Result There Failed → Result Here Error → Type 0
  IsMadeOf (Ok there) (Ok here) = inner here ≡ there
  IsMadeOf (Err failed) (Err error) = error ≡ out
  IsMadeOf (Ok there) (Err error) = ⊥
  IsMadeOf (Err failed) (Ok here) = ⊥
