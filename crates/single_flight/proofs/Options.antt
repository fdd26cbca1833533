-- What is given, where it is.
use Rattle.std.proofs.Common.{◌≡◌, Some}

pub given : {X : Type 0} (x y : X) → Some x ≡ Some y → x ≡ y
given x y same = cc same
