use Rattle.std.proofs.Common.{rules, tests, ◌∙◌}
use Rattle.std.proofs.lemmas.Iterator.{YieldsList-from_slice}
use Rattle.std.proofs.lemmas.Iterator.Search.{all_from_yields_List}
use Rattle.checks.specs.Values.{is_letter}
use Rattle.checks.proofs.Letters.{are_letters-all}
use Rattle.checks.proofs.are_letters.Goals as goal

pub returns : goal.returns
returns c =
    all_from_yields_List is_letter _ _ c.all.result c.all.ensures.ran (YieldsList-from_slice c.args.letters cc) (λ x b q k. search (rules, tests))
    ∙ are_letters-all c.args.letters cc
