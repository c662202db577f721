-- One byte of what is still to be written.
use Rattle.std.proofs.Common.{◌≡◌, suc, ◌+◌, ◌-◌, ◌/◌, ◌%◌, slice_set, sym, ap, ◌∙◌, arith}
use Rattle.inorder.specs.Machine.{store_bytes}
use Rattle.inorder.proofs.data.store_all.Goals as goal

pub loop-k-preserved : goal.loop-k-preserved
loop-k-preserved c =
    let m = c.loop-k.memory in
    let at = c.args.at + c.loop-k.k in
    let rest = c.loop-k.rest in
    let more : c.args.width - c.loop-k.k ≡ suc (c.args.width - (c.loop-k.k + 1)) = omega arith in
    let next : c.args.at + (c.loop-k.k + 1) ≡ c.args.at + c.loop-k.k + 1 = omega arith in
    ap (λ a. store_bytes (slice_set m at (rest % 256)) a (c.args.width - (c.loop-k.k + 1)) (rest / 256)) next
    ∙ sym (ap (λ n. store_bytes m at n rest) more)
    ∙ c.loop-k.invariant
