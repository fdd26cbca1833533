-- What a visitor knows.

-- the latest that it saw or learnt of, and the latest snapshot that it was given, than which that is no earlier
pub record Visit (E : Type 0) : Type 0 where
  pub known : E
  pub held : E

-- it knows just what it was given
abbrev pub sees : {E : Type 0} → E → Visit E
sees item = record { known = item; held = item }
