use Rattle.std.proofs.Common.{rules}
use Rattle.words.specs.Lines.{trader_words}
use Rattle.words.proofs.lines.TraderWordsDisplay.fmt.Goals as goal

pub returns-clause-writes : goal.returns-clause-writes
unfolding trader_words
returns-clause-writes g c = search rules
