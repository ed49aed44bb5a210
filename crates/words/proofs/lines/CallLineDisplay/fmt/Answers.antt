use Rattle.std.proofs.Common.{◌++◌, codes, rules, append_assoc}
use Rattle.std.specs.Fmt.{HasWritten}
use Rattle.std.proofs.Output.{has_written_append, has_written_of_eq}
use Rattle.words.specs.Lines.{order_words, number_words}
use Rattle.words.proofs.lines.CallLineDisplay.fmt.Goals as goal

pub returns-in_ok-write-in-Enter-clause-writes : goal.returns-in_ok-write-in-Enter-clause-writes
unfolding order_words number_words
returns-in_ok-write-in-Enter-clause-writes g c = rw c.in-Enter.is (λ plain ok.
    let e = c.in-Enter.entry in
    let order : HasWritten g.W.Write.write_str_gives c.args.f.now (codes "enter " ++ order_words e) c.write.new.self = search rules in
    let numbers : HasWritten g.W.Write.write_str_gives c.write.new.self (codes " " ++ number_words e) c.write-in-Enter.new.self = search rules in
    has_written_of_eq _ _ _ _ _ (append_assoc (codes "enter ") (order_words e) (codes " " ++ number_words e)) (has_written_append _ _ _ _ _ _ order numbers))
