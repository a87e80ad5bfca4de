-- A printable number is spelled by a plain word.
use Rattle.std.proofs.Common.{suc, ℤ, pos, negsuc, refl, arith}
use Rattle.std.specs.Fmt.{decimal}
use Rattle.tv_spec_text.specs.Lines.{spelled}
use Rattle.tv_spec_text.specs.Reports.{IsPrintable}
use Rattle.tv_spec_text.proofs.PlainWords.{Above, digits-above}
use Rattle.tv_report_reader.proofs.WideNumbers.{decimal-digits}

pub spelled-above : (z : ℤ) → IsPrintable z → Above 32 (spelled z)
spelled-above (pos n) h = digits-above (decimal n) (decimal-digits n (decimal n) h refl)
spelled-above (negsuc n) h = (omega arith, digits-above (decimal (suc n)) (decimal-digits (suc n) (decimal (suc n)) h refl))
