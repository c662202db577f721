use Rattle.std.proofs.Common.{◌≡◌, ◌%◌, ◌^◌, sym, ap, ◌∙◌}
use Rattle.counts.specs.declared.shares.Share.{Share}
use Rattle.counts.specs.declared.shares.Shares.{Shares}
use Rattle.counts.specs.declared.tally.Total.TheVariants.{Lets}
use Rattle.counts.specs.Seats.{Counter}
use Rattle.counts.specs.Shares.{all_parts, first_half, joined_of, plus, second_half, share_of}
use Rattle.proved_tests.proofs.totals.in_four.Goals as goal

abbrev quarter : Share
quarter = record { added = 0; parts = 1; halvings = 2 }

-- what two threads with a quarter each have together
from_two : (s t : Share) → s ≡ quarter → t ≡ quarter → joined_of (plus 10000 s) (plus 10000 t) ≡ record { added = 20000; parts = 2; halvings = 2 }
from_two s t a b = λ i. joined_of (plus 10000 (a i)) (plus 10000 (b i))

pub returns : goal.returns
returns g c =
    let shares : Counter → Shares = λ s. s.shares in
    let left : shares c.split-left.result.0 ≡ first_half all_parts = ap shares c.split-left.ensures.first ∙ ap (λ (s : Counter). first_half s.shares) c.requires in
    let right : shares c.split-left.result.1 ≡ second_half all_parts = ap shares c.split-left.ensures.second ∙ ap (λ (s : Counter). second_half s.shares) c.requires in
    let one : share_of Lets (shares c.split-a.result.0) ≡ quarter = ap (λ s. share_of Lets (shares s)) c.split-a.ensures.first ∙ ap (λ v. share_of Lets (first_half v)) left in
    let two : share_of Lets (shares c.split-a.result.1) ≡ quarter = ap (λ s. share_of Lets (shares s)) c.split-a.ensures.second ∙ ap (λ v. share_of Lets (second_half v)) left in
    let three : share_of Lets (shares c.split-c.result.0) ≡ quarter = ap (λ s. share_of Lets (shares s)) c.split-c.ensures.first ∙ ap (λ v. share_of Lets (first_half v)) right in
    let four : share_of Lets (shares c.split-c.result.1) ≡ quarter = ap (λ s. share_of Lets (shares s)) c.split-c.ensures.second ∙ ap (λ v. share_of Lets (second_half v)) right in
    let ab = c.join-left.ensures.first.1 ∙ from_two _ _ one two in
    let cd = c.join-left.ensures.second.1 ∙ from_two _ _ three four in
    let all : share_of Lets c.join-all.result.shares ≡ record { added = 40000; parts = 4; halvings = 2 } = ap (λ s. share_of Lets (shares s)) c.join-all.ensures ∙ (λ i. joined_of (ab i) (cd i)) in
    c.read.ensures.exact Lets (ap (λ (s : Share). s.parts) all ∙ ap (λ (s : Share). 2 ^ s.halvings) (sym all)) ∙ ap (λ (s : Share). s.added % 2 ^ 64) all
