-- Worked values of the form of files in JSON: the resolved conifold, and local P^2.
use Rattle.std.proofs.Common.{arith, sym, ◌∙◌}
use Rattle.std.specs.Prelude.{◌≡◌, ℕ, pos, List, [], ◌∷◌, map, codes, true, false, Some, refl}
use Rattle.serde_json.specs.Data.{Data, object, member, no_members}
use Rattle.serde_json.specs.Read.{read}
use Rattle.serde_json.proofs.OnLiterals.{serde_json_on_literals}
use Rattle.tv_spec_plane.specs.Web.{Web}
use Rattle.tv_spec_plane.proofs.Examples.{conifold, local_p2}
use Rattle.tv_spec_json.specs.Files.{whole, heights_member, points_member, triangles_member, file_value, IsRefusedJson, is_json}

conifold_reads : read (codes "{\"tv\":1,\"points\":[[0,0],[1,0],[1,1],[0,1]],\"triangles\":[[0,1,2],[0,2,3]],\"heights\":[0,1,0,0]}") ≡ Some (file_value conifold)
unfolding conifold serde_json_on_literals
conifold_reads = refl

-- with spaces, another order of the keys, and a key that stands twice, of which the last counts
spaced_conifold_reads : read (codes " { \"heights\" : [0,1,0,0], \"tv\" : 7, \"points\" : [[0,0],[1,0],[1,1],[0,1]], \"tv\" : 1, \"triangles\" : [[0,1,2],[0,2,3]] }") ≡ Some (file_value conifold)
unfolding conifold serde_json_on_literals
spaced_conifold_reads = refl

-- with a point below 0
plane_reads : read (codes "{\"tv\":1,\"points\":[[0,0],[1,0],[0,1],[-1,-1]],\"triangles\":[[0,1,2],[0,2,3],[0,3,1]],\"heights\":[0,1,0,0]}") ≡ Some (file_value local_p2)
unfolding local_p2 serde_json_on_literals
plane_reads = refl

first_bytes : map is_json (codes "{" ∷ codes " {" ∷ codes "\t" ∷ codes "\n" ∷ codes "\r" ∷ codes "tv 1" ∷ codes "[" ∷ [] ∷ []) ≡ true ∷ true ∷ true ∷ true ∷ true ∷ false ∷ false ∷ false ∷ []
first_bytes = refl

-- another number of the form is refused
form_two : List ℕ
form_two = codes "{\"heights\":[],\"points\":[],\"triangles\":[],\"tv\":2}"

abbrev empty : Web
empty = record { points = []; triangles = []; heights = [] }

abbrev value_two : Data
value_two = object (heights_member empty (points_member empty (triangles_member empty (member (codes "tv") (whole (pos 2)) no_members))))

form_two_reads : read form_two ≡ Some value_two
unfolding form_two serde_json_on_literals
form_two_reads = refl

two_is_another : (w : Web) → file_value w ≡ value_two → ⊥
two_is_another w e = cc

reads_two : (d : Data) → read form_two ≡ Some d → d ≡ value_two
reads_two d e = let both : Some d ≡ Some value_two = sym e ∙ form_two_reads in cc

form_two_refused : IsRefusedJson form_two
unfolding form_two
form_two_refused = record { short = omega arith; other = λ w f. two_is_another w (sym f.spells.same ∙ reads_two f.value f.reads) }
