use Rattle.std.proofs.Common.{rules}
use Rattle.isa.specs.Listing.{listing}
use Rattle.checker.proofs.Explained.{fault_checked}
use Rattle.checker.proofs.diagnostics.diagnosed.Goals as goal

pub returns-in_ok-text-in-Err-2 : goal.returns-in_ok-text-in-Err-2
returns-in_ok-text-in-Err-2 c =
    fault_checked c.args.file.now c.args.all c.args.bytes.now (listing c.args.bytes.now) c.in-Err.found
    c.in_ok-text-in-Err-2.text.items (c.in-Err.ensures.fault (search rules)) (c.in-Err.ensures.at (search rules)) c.in_ok-text-in-Err-2.ensures
