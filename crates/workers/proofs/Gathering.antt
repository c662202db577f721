-- What a thread gathers, and adds to the totals.
use Rattle.std.proofs.Common.{◌≡◌, ◌+◌, ◌∙◌, refl, ap, arith}
use Rattle.counts.specs.declared.shares.Shares.{Shares}
use Rattle.counts.specs.declared.tally.Total.{Total}
use Rattle.counts.specs.declared.tally.Total.TheVariants.{Claims, Finishes, Hints, Lets, Loads, Mends, Renewals, Retires, Squashes, Stale}
use Rattle.counts.specs.Shares.{added_to, share_of}
use Rattle.workers.specs.declared.gathered.Gathered.{Gathered}
use Rattle.workers.specs.Gathering.{gathered_of}

-- the shares after the additions of all that was gathered
abbrev behind : Gathered → Shares
behind g =
    added_to Hints g.hints (added_to Mends g.mends (added_to Squashes g.squashes (added_to Stale g.stale
    (added_to Finishes g.finishes (added_to Claims g.claims (added_to Lets g.lets g.seat.shares))))))

-- each total is raised by what was gathered of it
raised : (g : Gathered) (t : Total) → (share_of t (behind g)).added ≡ (share_of t g.seat.shares).added + gathered_of g t
raised g Lets = refl
raised g Claims = refl
raised g Finishes = refl
raised g Stale = refl
raised g Loads = omega arith
raised g Retires = omega arith
raised g Squashes = refl
raised g Mends = refl
raised g Hints = refl
raised g Renewals = omega arith

-- seven additions, one after another, raise each total by what was gathered of it
pub added_each : (g : Gathered) {s1 s2 s3 s4 s5 s6 s7 : Shares} → s1 ≡ added_to Lets g.lets g.seat.shares → s2 ≡ added_to Claims g.claims s1
    → s3 ≡ added_to Finishes g.finishes s2 → s4 ≡ added_to Stale g.stale s3 → s5 ≡ added_to Squashes g.squashes s4
    → s6 ≡ added_to Mends g.mends s5 → s7 ≡ added_to Hints g.hints s6 → (t : Total) → (share_of t s7).added ≡ (share_of t g.seat.shares).added + gathered_of g t
added_each g e1 e2 e3 e4 e5 e6 e7 t =
    ap (λ v. (share_of t v).added) (e7 ∙ ap (added_to Hints g.hints) (e6 ∙ ap (added_to Mends g.mends) (e5 ∙ ap (added_to Squashes g.squashes)
    (e4 ∙ ap (added_to Stale g.stale) (e3 ∙ ap (added_to Finishes g.finishes) (e2 ∙ ap (added_to Claims g.claims) e1)))))) ∙ raised g t
