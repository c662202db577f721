use Rattle.std.proofs.Common.{◌≡◌, drop, map}
use Rattle.std.specs.Map.{lookup}
use Rattle.std.specs.Str.{bytes_eq}
use Rattle.isa.proofs.listing.register.named_in.Given as goal

abbrev pub invariant-loop-entry : goal.invariant-loop-entry
invariant-loop-entry l =
    lookup (λ k. bytes_eq k l.text) (map (λ e. (e.0.now, e.1)) (drop l.entry-index l.table))
    ≡ lookup (λ k. bytes_eq k l.text) (map (λ e. (e.0.now, e.1)) l.table)
