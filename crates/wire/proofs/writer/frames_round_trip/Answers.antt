use Rattle.wire.proofs.CallTrips.{call_reads, call_written}
use Rattle.wire.proofs.ReportTrips.{report_reads, report_written}
use Rattle.wire.proofs.writer.frames_round_trip.Goals as goal

pub returns : goal.returns
returns c = record { calls = record { reads = call_reads; written = call_written }; reports = record { reads = report_reads; written = report_written } }
