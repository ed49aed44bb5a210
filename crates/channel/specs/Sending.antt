-- What a channel's list and space are after reports were sent to it.
use Rattle.std.specs.Prelude.{◌≡◌, ℕ, ◌-◌, ◌<◌, ◌≤◌, List, ◌++◌, length, Ok, Err, Result}
use Rattle.faults.specs.declared.layers.ChannelFault.{ChannelFault}
use Rattle.faults.specs.declared.layers.ChannelFault.TheVariants.{Full}
use Rattle.types.specs.declared.reports.Report.{Report}

-- From one channel to the next all of the reports are appended, and the space is less by their number; or none is, exactly where the space is too small for all.
abbrev pub Sent : {S : Type 0} → (S → List Report) → (S → ℕ) → S → List Report → Result (Unit {0}) ChannelFault → S → Type 0
Sent list room c reports (Ok _) d = (length reports ≤ room c) × (list d ≡ list c ++ reports) × (room d ≡ room c - length reports)
Sent list room c reports (Err fault) d = (room c < length reports) × (list d ≡ list c) × (room d ≡ room c) × (fault ≡ Full)

-- What was sent went to this channel's list too.
abbrev pub Copied : {S : Type 0} → (S → List Report) → S → List Report → Result (Unit {0}) ChannelFault → S → Type 0
Copied list c reports (Ok _) d = list d ≡ list c ++ reports
Copied list c reports (Err _) d = list d ≡ list c
