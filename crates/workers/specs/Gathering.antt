-- The counts of a thread: how much it has added to the totals, and how much it has gathered since.
use Rattle.std.specs.Prelude.{◌≡◌, ℕ, ◌+◌, ◌%◌, ◌^◌, ◌==◌, if◌then◌else◌}
use Rattle.counts.specs.declared.tally.Total.{Total}
use Rattle.counts.specs.declared.tally.Total.TheVariants.{Claims, Finishes, Hints, Lets, Loads, Mends, Renewals, Retires, Squashes, Stale}
use Rattle.counts.specs.Seats.{Counter}
use Rattle.counts.specs.Shares.{share_of}
use Rattle.counts.specs.Totals.{position_of}
use Rattle.workers.specs.declared.gathered.Gathered.{Gathered}
use Rattle.workers.specs.declared.search.Candidate.{Candidate}
use Rattle.workers.specs.declared.search.Candidate.TheVariants.{Hinted, Next}

-- The amount of a total that is gathered
abbrev pub gathered_of : Gathered → Total → ℕ
gathered_of g Lets = g.lets
gathered_of g Claims = g.claims
gathered_of g Finishes = g.finishes
gathered_of g Stale = g.stale
gathered_of g Loads = 0
gathered_of g Retires = 0
gathered_of g Squashes = g.squashes
gathered_of g Mends = g.mends
gathered_of g Hints = g.hints
gathered_of g Renewals = 0

-- The amount of a total that was counted
abbrev pub counted_of : Gathered → Total → ℕ
counted_of g t = ((share_of t g.seat.shares).added + gathered_of g t) % 2 ^ 64

-- n of one total, and none of any other
abbrev pub only_of : (total : Total) (k : ℕ) → Total → ℕ
only_of total k t = if position_of t == position_of total then k else 0

-- So much more of one total was counted, and no more of any other
abbrev pub CountsMore : (total : Total) (k : ℕ) → Gathered → Gathered → Type 0
CountsMore total k old new = (t : Total) → counted_of new t ≡ (counted_of old t + only_of total k t) % 2 ^ 64

-- As much was counted as before
abbrev pub CountsNoMore : Gathered → Gathered → Type 0
CountsNoMore old new = (t : Total) → counted_of new t ≡ counted_of old t

-- All that was counted is added to the totals
abbrev pub HasGatheredNothing : Gathered → Type 0
HasGatheredNothing g = (t : Total) → gathered_of g t ≡ 0

-- This seat has added all that was counted to the totals
abbrev pub IsAllAddedBy : Gathered → Counter → Type 0
IsAllAddedBy g seat = (t : Total) → (share_of t seat.shares).added % 2 ^ 64 ≡ counted_of g t

-- The amount that the claim of a job adds to a total, by how the job was found
abbrev pub claim_amount : Candidate → Total → ℕ
claim_amount (Hinted station) t = only_of Claims 1 t + only_of Hints 1 t
claim_amount (Next station) t = only_of Claims 1 t

-- The claim of a job was counted, and the hint where its station came as one
abbrev pub CountsClaim : Candidate → Gathered → Gathered → Type 0
CountsClaim candidate old new = (t : Total) → counted_of new t ≡ (counted_of old t + claim_amount candidate t) % 2 ^ 64
