use Rattle.channel.proofs.ReadBack.{read_back}
use Rattle.channel.proofs.bytes.frames_read_back.Goals as goal

pub returns : goal.returns
returns c = read_back
