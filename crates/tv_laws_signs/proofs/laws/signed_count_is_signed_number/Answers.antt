use Rattle.tv_laws_signs.proofs.Signs.{counted_sign}
use Rattle.tv_laws_signs.proofs.laws.signed_count_is_signed_number.Goals as goal

pub returns : goal.returns
returns c = counted_sign
