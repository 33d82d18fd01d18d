-- Digits are text.
use Rattle.std.proofs.lemmas.Str.{IsUtf8-from_ascii, IsAscii-take}
use Rattle.cases.proofs.DigitLaws.{taken_whole}
use Rattle.cases.proofs.shown.write_digits.Goals as goal

pub unwrap-requires : goal.unwrap-requires
unwrap-requires g c =
    taken_whole c.from_utf8.result _ _ c.from_utf8.ensures.cases
    (λ _ no. no.0 (IsUtf8-from_ascii _ (IsAscii-take _ _ c.digits-text.ensures)))
