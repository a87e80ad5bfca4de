-- What both exchanges keep, the legs in each of the six orders of the axes have.
--
-- IsKept P == P is kept by an exchange of x and y, and by one of y and z
use Rattle.std.specs.Prelude.{◌≡◌, Contains, ℕ}
use Rattle.std.specs.List.{AllByRecursion}
use Rattle.std.proofs.Common.{refl, ◌∙◌}
use Rattle.tv_lemmas.proofs.Members.{all-contains}
use Rattle.tv_cells.specs.declared.legs.Legs.{Legs}
use Rattle.tv_cells.specs.Extras.{AreDiagrams, count}
use Rattle.tv_cells.specs.Costs.{overlap_cost}
use Rattle.tv_laws_symmetry.specs.Symmetry.{exchanged_xy, exchanged_yz, images}
use Rattle.tv_laws_symmetry.specs.Symmetry.{RotatedCount, ImageCounts, ImageOverlaps, ImagesAreDiagrams}
use Rattle.tv_laws_symmetry.proofs.Exchanges.{diagrams_xy, diagrams_yz, exchanged_count, overlap_xy, overlap_yz}

pub record IsKept (P : Legs → Type 0) : Type 0 where
  pub xy : (legs : Legs) → AreDiagrams legs → P legs → P (exchanged_xy legs)
  pub yz : (legs : Legs) → AreDiagrams legs → P legs → P (exchanged_yz legs)

-- no leg is flipped twice on the way
pub all_images : (P : Legs → Type 0) → IsKept P → (legs : Legs) → AreDiagrams legs → P legs → AllByRecursion P (images legs)
all_images P kept legs d own =
    let dxy = diagrams_xy legs d in
    let dyz = diagrams_yz legs d in
    let xy = kept.xy legs d own in
    let yz = kept.yz legs d own in
    let yz_xy = kept.xy (exchanged_yz legs) dyz yz in
    let xy_yz = kept.yz (exchanged_xy legs) dxy xy in
    let xy_yz_xy = kept.xy (exchanged_yz (exchanged_xy legs)) (diagrams_yz (exchanged_xy legs) dxy) xy_yz in
    (own, (xy, (yz, (xy_yz_xy, (yz_xy, (xy_yz, tt))))))

pub an_image : (P : Legs → Type 0) → IsKept P → (legs image : Legs) → AreDiagrams legs → P legs → Contains (images legs) image →
    P image
an_image P kept legs image d own among = all-contains P (images legs) image (all_images P kept legs d own) among

pub count-kept : (legs : Legs) (i : ℕ) → IsKept (λ image. count image i ≡ count legs i)
count-kept legs i = record {
  xy = λ image d e. exchanged_count.xy image i d ∙ e;
  yz = λ image d e. exchanged_count.yz image i d ∙ e;
}

overlap-kept : (legs : Legs) → IsKept (λ image. overlap_cost image ≡ overlap_cost legs)
overlap-kept legs = record { xy = λ image d e. overlap_xy image d ∙ e; yz = λ image d e. overlap_yz image d ∙ e }

diagrams-kept : IsKept AreDiagrams
diagrams-kept = record { xy = λ image d e. diagrams_xy image d; yz = λ image d e. diagrams_yz image d }

pub rotated_count : RotatedCount
rotated_count legs i d = exchanged_count.xy (exchanged_yz legs) i (diagrams_yz legs d) ∙ exchanged_count.yz legs i d

pub image_counts : ImageCounts
image_counts legs image i d among = an_image (λ other. count other i ≡ count legs i) (count-kept legs i) legs image d refl among

pub image_overlaps : ImageOverlaps
image_overlaps legs image d among =
    an_image (λ other. overlap_cost other ≡ overlap_cost legs) (overlap-kept legs) legs image d refl among

pub images_are_diagrams : ImagesAreDiagrams
images_are_diagrams legs image d among = an_image AreDiagrams diagrams-kept legs image d d among
