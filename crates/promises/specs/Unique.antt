-- What a contract settles: the relation that a public function's `ensures` names allows one outcome only.
use Rattle.std.specs.Prelude.{◌≡◌}

-- Two outcomes that the relation allows are equal.
abbrev pub Unique : {A : Type 0} → (A → Type 0) → Type 0
Unique {A} R = (x y : A) → R x → R y → x ≡ y
