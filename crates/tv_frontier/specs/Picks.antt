-- What is picked from a list by one truth for each place, and what is put into it.
--
-- picks flags xs        == the members at the places that the flags name, in their order
-- put_by flags g a      == a, with the members of g, in their order, at the places that the flags name
use Rattle.std.specs.Prelude.{List, [], ◌∷◌, Bool, cond}

abbrev pub picks : {A : Type 0} → List Bool → List A → List A
picks (b ∷ flags) (x ∷ xs) = cond b (x ∷ picks flags xs) (picks flags xs)
picks _ _ = []

abbrev pub put_by : {A : Type 0} → List Bool → List A → List A → List A
put_by (b ∷ flags) (x ∷ g) (y ∷ a) = cond b (x ∷ put_by flags g a) (y ∷ put_by flags (x ∷ g) a)
put_by _ _ a = a
