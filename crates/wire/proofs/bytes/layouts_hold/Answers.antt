use Rattle.wire.proofs.Laws.{laid_again, read_again}
use Rattle.wire.proofs.bytes.layouts_hold.Goals as goal

pub returns : goal.returns
returns c = record { laid_again = laid_again; read_again = read_again }
