use Rattle.tv_words.proofs.WordPlaces.{place_boxes_chi, place_boxes_entry}
use Rattle.tv_words.proofs.command.boxes.Goals as goal

pub returns-in_default : goal.returns-in_default
returns-in_default c = place_boxes_chi _ c.in_default.ensures

pub returns-in-Err-At : goal.returns-in-Err-At
returns-in-Err-At c = place_boxes_entry _ _ _ _ c.in-Some.ensures.0 c.in-Some.ensures.1 (rw c.in-Err-At.field-0-is at c.in-Err-At.ensures)
