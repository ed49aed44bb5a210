use Rattle.std.proofs.Common.{◌≡◌, ◌+◌, ◌-◌, ◌*◌, ◌≤◌, [], ◌∷◌, ◌++◌, length, ap, ◌∙◌, arith, rules}
use Rattle.channel.specs.Frames.{report_in, reports_in}
use Rattle.channel.proofs.Written.{reports_more, length_written}
use Rattle.channel.proofs.bytes.ReportBytesChannel.put.Goals as goal

pub returns-clause-sent : goal.returns-clause-sent
returns-clause-sent c =
    let n = c.args.self.now.frames in
    let b = c.args.self.now.bytes.now in
    let bytes = c.copy_from_slice.new.self in
    let room : n * 21 + 21 ≤ length b = omega arith in
    let long : length bytes ≡ 21 = search rules in
    let back : report_in bytes ≡ c.args.report = ap report_in c.copy_from_slice.ensures.after ∙ c.frame.ensures in
    (omega arith, reports_more n _ b bytes room long ∙ ap (λ r. reports_in n b ++ r ∷ []) back, omega (arith, length_written n (n * 21 + 21 - n * 21) b bytes room long (omega arith)))
