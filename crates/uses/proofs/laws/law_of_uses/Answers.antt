use Rattle.uses.proofs.Law.{law_of_uses}
use Rattle.uses.proofs.laws.law_of_uses.Goals as goal

pub returns : goal.returns
returns g c = law_of_uses g.K.Kind.numbers
