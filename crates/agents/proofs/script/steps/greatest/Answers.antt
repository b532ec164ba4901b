use Rattle.std.proofs.Common.{ap, ◌∙◌, unwrap_or}
use Rattle.std.proofs.lemmas.Iterator.{YieldsList-from_slice}
use Rattle.std.proofs.lemmas.Iterator.Consumers.{YieldsList-from_copied, reduce_from_yields_List}
use Rattle.std.specs.Ordering.{nat_cmp, max_by_ordering}
use Rattle.agents.proofs.Greatest.{greatest_max}
use Rattle.agents.proofs.script.steps.greatest.Goals as goal

pub returns : goal.returns
returns c =
    let xs = c.args.values.now in
    let e = reduce_from_yields_List (λ p z. max_by_ordering (nat_cmp p z) p z) _ c.max.result c.max.ensures.ran (YieldsList-from_copied (YieldsList-from_slice xs cc)) in
    c.unwrap_or.ensures ∙ (ap (λ o. unwrap_or o 0) e ∙ greatest_max xs)
