-- The deeds of the front, by the answers of its calls.
use Rattle.std.proofs.Common.{◌≡◌, ℕ, ◌+◌, ◌<◌, ◌≤◌, ◌%◌, suc, Bool, true, false, List, [], ◌∷◌, ◌++◌}
use Rattle.std.proofs.Common.{map, length, Some, ◌==◌, if◌then◌else◌, ◌∙◌, ⊎_elim, refl, ap, arith}
use Rattle.std.proofs.lemmas.List.Sums.{sum_by-append, sum_by-cons}
use Rattle.counts.specs.declared.tally.Total.{Total}
use Rattle.counts.specs.declared.tally.Total.TheVariants.{Lets, Mends, Squashes}
use Rattle.counts.specs.Totals.{position_of}
use Rattle.front.specs.Recoveries.{MissIsMended, squash_event}
use Rattle.front.specs.Turns.{IsAskedFor, LetsOut}
use Rattle.inorder.specs.declared.history.Act.TheVariants.{Mend}
use Rattle.inorder.specs.declared.history.Entry.{Entry}
use Rattle.inorder.specs.declared.history.Event.{Event}
use Rattle.inorder.specs.declared.history.Event.TheVariants.{Does}
use Rattle.inorder.specs.declared.history.Source.{Source}
use Rattle.inorder.specs.declared.history.Step.TheVariants.{Let, On}
use Rattle.inorder.specs.declared.history.Supply.{Supply}
use Rattle.inorder.specs.declared.history.Supply.TheVariants.{From, Known}
use Rattle.inorder.specs.History.{front}
use Rattle.inorder.specs.Unit.{Sizes}
use Rattle.instructions.specs.Programs.{Program}
use Rattle.workers.specs.Deeds.{HasDone, deeds, done_in}
use Rattle.workers.specs.Gathering.{only_of}
use Rattle.workers.proofs.Deeds.{deeds_more, ones}

-- a station of a ring
pub in_ring : (n count ring : ℕ) → n ≡ count % ring → 2 ≤ ring → n < ring
in_ring n count ring is some = grind arith

asked_done : (total : Total) (r : ℕ) (k : Source) (supply : Supply) (events : List Event) → IsAskedFor r k supply events → done_in total events ≡ 0
asked_done total r k (Known v) events is = ap (done_in total) is
asked_done total r k From events question = ⊎_elim (λ is. ap (done_in total) is) (λ is. ap (done_in total) is) question

-- a let
pub let_done : (P : Program) (C : Sizes) (old new : List Entry) (station tag pc predicted : ℕ) → LetsOut P C old new station tag pc predicted → HasDone front old new (Some Lets)
let_done P C old new station tag pc predicted w total =
    let more = deeds_more w.adds total in
    let event = Does (Let w.index predicted w.first w.second) in
    let all = sum_by-append (ones total) w.second_asked (w.first_asked ++ event ∷ []) in
    let first = sum_by-append (ones total) w.first_asked (event ∷ []) in
    let one = sum_by-cons (ones total) event [] in
    let none = asked_done total _ _ w.second w.second_asked w.asks_second in
    let no_first = asked_done total _ _ w.first w.first_asked w.asks_first in
    omega (arith, more, all, first, one, none, no_first)

-- one more of them
one_and : (b : Bool) (k : ℕ) → (if b then 1 else 0) + (if b then k else 0) ≡ (if b then suc k else 0)
one_and true k = omega arith
one_and false k = refl

squashes_done : (total : Total) (squashes : List ℕ) → done_in total (map squash_event squashes) ≡ only_of Squashes (length squashes) total
squashes_done total [] = none (position_of total == position_of Squashes)
  where
    none : (b : Bool) → ◌≡◌ {A = ℕ} 0 (if b then 0 else 0)
    none true = refl
    none false = refl
squashes_done total (p ∷ ps) =
    let all = sum_by-cons (ones total) (squash_event p) (map squash_event ps) in
    let rest = squashes_done total ps in
    let one = one_and (position_of total == position_of Squashes) (length ps) in
    omega (arith, all, rest, one)

-- a recovery
pub mended_done : (P : Program) (C : Sizes) (old new : List Entry) (station squashed : ℕ) → MissIsMended P C old new station squashed →
    (total : Total) → deeds total front new ≡ only_of Mends 1 total + only_of Squashes squashed total + deeds total front old
mended_done P C old new station squashed w total =
    let more = deeds_more w.adds total in
    let all = sum_by-cons (ones total) (Does (On w.p Mend)) (map squash_event w.squashes) in
    let so_many = squashes_done total w.squashes ∙ ap (λ n. only_of Squashes n total) w.count in
    omega (arith, more, all, so_many)
