use Rattle.std.proofs.Common.{◌∙◌, rules}
use Rattle.isa.specs.Listing.{listing}
use Rattle.drive.proofs.Driven.{fault_told}
use Rattle.drive.proofs.interactive.answered.Goals as goal

pub returns-in_ok-write_whole-in-Err-2-clause-ok :
    goal.returns-in_ok-write_whole-in-Err-2-clause-ok
returns-in_ok-write_whole-in-Err-2-clause-ok g c =
    record {
      driven = fault_told c.args.hand.now (listing c.args.bytes.now) c.in-Err.fault.line c.in-Err.fault.kind _ _ _ c.as_bytes.result.now
          (c.in-Err.ensures.fault (search rules)) (c.as_bytes.ensures.value ∙ c.as_str.ensures.value ∙ c.in_ok-text-in-Err-2.ensures)
          c.in_ok-write_whole-in-Err-2.ensures.ok;
      quiet = c.in_ok-write_whole-in-Err-2.ensures.quiet;
    }
