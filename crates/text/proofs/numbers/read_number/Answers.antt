use Rattle.std.proofs.Common.{arith, rules}
use Rattle.std.proofs.lemmas.Grind.{common_steps}
use Rattle.text.proofs.Decimals.{reading_law}
use Rattle.text.proofs.numbers.read_number.Goals as goal

pub returns-in-45-clause-decimal_text : goal.returns-in-45-clause-decimal_text
returns-in-45-clause-decimal_text c = reading_law _ _ (search rules)

pub returns-in-45-2-clause-decimal_text : goal.returns-in-45-2-clause-decimal_text
returns-in-45-2-clause-decimal_text c = reading_law _ _ (grind (arith, common_steps))

pub returns-in_default-clause-decimal_text : goal.returns-in_default-clause-decimal_text
returns-in_default-clause-decimal_text c = reading_law _ _ (search rules)
