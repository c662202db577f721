use Rattle.std.proofs.Common.{◌∙◌, ap}
use Rattle.checker.proofs.summary.counted.Goals as goal

pub returns : goal.returns
returns c =
    rw (← c.len-instructions.ensures.value, ← c.how_many_labels-labels.ensures, ← c.size-data.ensures.value)
    (ap (λ v. v.items) c.into_bytes.ensures.value ∙ c.in_ok-text.ensures.ok)
