use Rattle.std.specs.Prelude.{◌≡◌, List, ◌∷◌, ◌++◌}

-- the longer list is the shorter one with x in one place more
pub record IsAdded {A : Type 0} (x : A) (shorter longer : List A) : Type 0 where
  pub before : List A
  pub after : List A
  pub was : shorter ≡ before ++ after
  pub is : longer ≡ before ++ (x ∷ after)
