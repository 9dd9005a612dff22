use Rattle.std.proofs.lemmas.Str.{IsAscii-take, IsUtf8-from_ascii}
use Rattle.lines.proofs.words.WordDisplay.fmt.Goals as goal

-- letters are ASCII, so they are text
pub returns-in-Err-clause-writes : goal.returns-in-Err-clause-writes
returns-in-Err-clause-writes g c = absurd (c.in-Err.ensures.cases.0 (IsUtf8-from_ascii _ (IsAscii-take c.args.self.now.bytes c.args.self.now.count c.args.self.now.ascii)))
