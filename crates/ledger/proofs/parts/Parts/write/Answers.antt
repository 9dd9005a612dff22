use Rattle.std.proofs.Common.{map, set, ap, ◌∙◌}
use Rattle.std.proofs.lemmas.List.{map-set}
use Rattle.ledger.specs.Stored.{meaning}
use Rattle.ledger.proofs.parts.Parts.write.Goals as goal

pub returns : goal.returns
returns c =
    map-set meaning c.args.self.now.all c.args.at _
    ∙ ap (λ f. set (map meaning c.args.self.now.all) c.args.at (record { first = f; second = c.write.new.self.second; word = (meaning c.write.new.self).word })) c.write.ensures.first
    ∙ ap (λ s. set (map meaning c.args.self.now.all) c.args.at (record { first = c.args.first; second = s; word = (meaning c.write.new.self).word })) c.write.ensures.second
    ∙ ap (λ w. set (map meaning c.args.self.now.all) c.args.at (record { first = c.args.first; second = c.args.second; word = w })) c.write.ensures.word
