-- Lists that grow by what is sent.
use Rattle.std.proofs.Common.{ℕ, List, [], ◌++◌, Ok, Err, Result, sym, ap, ◌∙◌, append-nil}
use Rattle.std.proofs.lemmas.List.{append_cancel_left}
use Rattle.faults.specs.declared.layers.ChannelFault.{ChannelFault}
use Rattle.types.specs.declared.reports.Report.{Report}
use Rattle.channel.specs.Sending.{Sent, Copied}
use Rattle.channel.specs.Following.{Alike}

-- What a channel got, a list that has grown alike has got.
pub copied : {S T : Type 0} (list : S → List Report) (room : S → ℕ) (copy : T → List Report) (a c : S) (b d : T) (reports : List Report) (r : Result (Unit {0}) ChannelFault)
    → Sent list room a reports r c → Alike (list a) (copy b) (list c) (copy d) → Copied copy b reports r d
copied list room copy a c b d reports (Ok x) s (more, p, q) =
    q ∙ ap (λ rs. copy b ++ rs) (append_cancel_left (list a) more reports (sym p ∙ s.1))
copied list room copy a c b d reports (Err x) s (more, p, q) =
    q ∙ ap (λ rs. copy b ++ rs) (append_cancel_left (list a) more [] (sym p ∙ s.1 ∙ sym (append-nil (list a)))) ∙ append-nil (copy b)
