-- Objects, one member after another.
use Rattle.std.proofs.Common.{◌≡◌, ℕ, List, Some, sym, ap, ◌∙◌}
use Rattle.serde_json.specs.Data.{Data, object, Members, member}
use Rattle.serde_json.specs.Find.{as_object}
use Rattle.serde_json.specs.View.{members_view}
use Rattle.serde_json.proofs.Views.{Entry}

-- what is left behind two members of an object
pub third-member : (d : Data) (es all left rest : List Entry) (k l m : List ℕ) (a b h p t : Data) (more : Members) → Some (members_view es) ≡ as_object d → all ≡ es → members_view all ≡ member k a (members_view left) → members_view left ≡ member l b (members_view rest) → d ≡ object (member k h (member l p (member m t more))) → members_view rest ≡ member m t more
third-member d es all left rest k l m a b h p t more whole same first second is =
    let seen : Some (members_view es) ≡ Some (member k h (member l p (member m t more))) = whole ∙ ap as_object is in
    let front : member k a (members_view left) ≡ members_view es = sym first ∙ ap members_view same in
    let one : members_view left ≡ member l p (member m t more) = cc in
    cc
