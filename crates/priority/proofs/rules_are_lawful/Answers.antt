use Rattle.priority.specs.Rules.{omega_lawful, lynx_lawful, time_only_lawful}
use Rattle.priority.proofs.rules_are_lawful.Goals as goal

pub returns : goal.returns
returns c = (omega_lawful, lynx_lawful, time_only_lawful)
