use Rattle.codec.proofs.CallTrips.{reads, accepted}
use Rattle.codec.proofs.calls_round_trip.Goals as goal

pub returns : goal.returns
returns c = record { reads = reads; accepted = accepted }
