use Rattle.std.proofs.Common.{◌≡◌, ℕ, ◌%◌, ◌^◌, List}
use Rattle.counts.specs.declared.shares.Addition.{Addition}
use Rattle.counts.specs.declared.tally.Tally.{Tally}
use Rattle.counts.specs.declared.tally.Total.{Total}
use Rattle.counts.specs.declared.tally.Total.TheVariants.{Claims, Finishes, Hints, Lets, Loads, Mends, Renewals, Retires, Squashes, Stale}
use Rattle.counts.specs.Known.{total_at}
use Rattle.instructions.specs.Histories.{StartsWith}
use Rattle.counts.specs.Reads.{WasTotal}
use Rattle.counts.specs.Totals.{position_of, tallied}
use Rattle.instructions.proofs.Histories.{starts_same}
use Rattle.counts.proofs.Histories.{further}
use Rattle.counts.proofs.totals.Counts.all.Goals as goal

was : {old moment new : List Addition} (total : Total) (n : ℕ) → StartsWith moment old → StartsWith new moment → n ≡ total_at (position_of total) moment % 2 ^ 64 → WasTotal old new total n
was {old} {moment} {new} total n behind before sum = record { moment = moment; within = record { before_return = before; behind_call = behind }; sum = sum }

pub returns-clause-totals : goal.returns-clause-totals
returns-clause-totals c total =
    let to_2 = further c.total-2.ensures.seen c.total.ensures.seen in
    let to_3 = further c.total-3.ensures.seen to_2 in
    let to_4 = further c.total-4.ensures.seen to_3 in
    let to_5 = further c.total-5.ensures.seen to_4 in
    let to_6 = further c.total-6.ensures.seen to_5 in
    let to_7 = further c.total-7.ensures.seen to_6 in
    let to_8 = further c.total-8.ensures.seen to_7 in
    let to_9 = further c.total-9.ensures.seen to_8 in
    let to_10 = further c.total-10.ensures.seen to_9 in
    let from_8 = further c.total-10.ensures.seen c.total-9.ensures.seen in
    let from_7 = further from_8 c.total-8.ensures.seen in
    let from_6 = further from_7 c.total-7.ensures.seen in
    let from_5 = further from_6 c.total-6.ensures.seen in
    let from_4 = further from_5 c.total-5.ensures.seen in
    let from_3 = further from_4 c.total-4.ensures.seen in
    let from_2 = further from_3 c.total-3.ensures.seen in
    let from_1 = further from_2 c.total-2.ensures.seen in
    let tally : Tally = record {
      lets = c.total.result;
      claims = c.total-2.result;
      finishes = c.total-3.result;
      stale = c.total-4.result;
      loads = c.total-5.result;
      retires = c.total-6.result;
      squashes = c.total-7.result;
      mends = c.total-8.result;
      hints = c.total-9.result;
      renewals = c.total-10.result;
    } in
    elim total as (λ k. WasTotal c.args.seat.now.me.0.seen c.total-10.new.seat.me.0.seen k (tallied tally k)) [
      | Lets ↦ was Lets _ c.total.ensures.seen from_1 c.total.ensures.total
      | Claims ↦ was Claims _ to_2 from_2 c.total-2.ensures.total
      | Finishes ↦ was Finishes _ to_3 from_3 c.total-3.ensures.total
      | Stale ↦ was Stale _ to_4 from_4 c.total-4.ensures.total
      | Loads ↦ was Loads _ to_5 from_5 c.total-5.ensures.total
      | Retires ↦ was Retires _ to_6 from_6 c.total-6.ensures.total
      | Squashes ↦ was Squashes _ to_7 from_7 c.total-7.ensures.total
      | Mends ↦ was Mends _ to_8 from_8 c.total-8.ensures.total
      | Hints ↦ was Hints _ to_9 c.total-10.ensures.seen c.total-9.ensures.total
      | Renewals ↦ was Renewals _ to_10 (starts_same _) c.total-10.ensures.total
    ]
