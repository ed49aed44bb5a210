use Rattle.wire.proofs.writer.write_call.Goals as goal

pub returns-in-Enter : goal.returns-in-Enter
returns-in-Enter c = rw (c.in-Enter.is, ← c.enter_bytes.ensures) c.extend_from_slice.ensures.items
