use Rattle.adapters.proofs.Rules.{parts_rules}
use Rattle.adapters.proofs.cases.parts_follow_rules.Goals as goal

pub returns : goal.returns
returns c = parts_rules
