-- The measure falls.
use Rattle.std.proofs.lemmas.Grind.{common_steps}
use Rattle.std.proofs.Common.{◌≡◌, ℕ, zero, suc, ◌*◌, ◌^◌, ◌<◌, ◌≤◌, List, [], ◌∷◌, ◌++◌, length, take, Option, Some, sym, ap, ◌∙◌, subst, arith, append-nil}
use Rattle.std.proofs.Common.{mul-le-mul_right, suc-mul, length-append}
use Rattle.std.specs.Prelude.{slice_get, slice_set}
use Rattle.std.proofs.Math.Nat.{pow-succ'}
use Rattle.instructions.specs.Instruction.{kind}
use Rattle.instructions.specs.Operations.{outcome_of}
use Rattle.instructions.specs.declared.op.Kind.{Kind}
use Rattle.instructions.specs.declared.stop.Outcome.{Outcome}
use Rattle.one_thread.specs.declared.execute.Operands.{Operands}
use Rattle.one_thread.specs.declared.station.Station.{Station}
use Rattle.one_thread.specs.declared.station.Stage.{Stage}
use Rattle.one_thread.specs.declared.station.Stage.TheVariants.{Done}
use Rattle.one_thread.specs.Loads.{load_in, waits_by}
use Rattle.one_thread.specs.Notes.{miss_in}
use Rattle.one_thread.specs.Producers.{gives}
use Rattle.one_thread.specs.Stages.{RecoversTo}
use Rattle.one_thread.specs.Turns.{digit, rank}
use Rattle.one_thread.specs.Window.{miss_of, operands_in, station_after, station_mended, where_open}
use Rattle.one_thread.proofs.Entries.{answered_waits}
use Rattle.one_thread.proofs.Noted.{given_station}
use Rattle.one_thread.proofs.Scan.{Place, place_at, set_middle, take_middle}

digit_most : (s : Stage) → digit s ≤ 5
digit_most s = grind (arith, common_steps)

pow_next : (k : ℕ) → 7 ^ suc k ≡ 7 * 7 ^ k
pow_next k = pow-succ' 7 k

pub rank_bound : (k : ℕ) (ws : List Station) → rank k ws < 7 ^ k
rank_bound zero ws = omega arith
rank_bound (suc k) [] = omega (arith, rank_bound k [], pow_next k)
rank_bound (suc k) (w ∷ ws) = let m = mul-le-mul_right (7 ^ k) (digit_most w.stage) in omega (arith, rank_bound k ws, pow_next k, m)

-- a list whose first digit is at least d
abbrev Leads : List Station → ℕ → Type 0
Leads [] d = d ≤ 6
Leads (w ∷ ws) d = d ≤ digit w.stage

rank_less : (k : ℕ) (xs : List Station) (w : Station) (zs us : List Station) → length xs < k → Leads us (suc (digit w.stage)) → rank k (xs ++ w ∷ zs) < rank k (xs ++ us)
rank_less zero xs w zs us h l = absurd (omega (arith, h))
rank_less (suc k) [] w zs [] h l = let m = mul-le-mul_right (7 ^ k) l in omega (arith, m, rank_bound k zs, suc-mul (digit w.stage) (7 ^ k))
rank_less (suc k) [] w zs (u ∷ us) h l = let m = mul-le-mul_right (7 ^ k) l in omega (arith, m, rank_bound k zs, suc-mul (digit w.stage) (7 ^ k))
rank_less (suc k) (x ∷ xs) w zs us h l = let less : length xs < k = omega arith in let more = rank_less k xs w zs us less l in omega (arith, more)

-- one station gets a lower digit, whatever stands after it
lower : (W W' zs : List Station) (i : ℕ) (w v : Station) → length W ≤ 32 → (p : Place W i w) → W' ≡ p.xs ++ v ∷ zs → suc (digit v.stage) ≤ digit w.stage → rank 32 W' < rank 32 W
lower W W' zs i w v room p new less =
    let few : length p.xs < 32 = omega (arith, room, ap length p.is, length-append p.xs (w ∷ p.zs)) in
    subst (λ l. rank 32 l < rank 32 W) (sym new) (subst (λ l. rank 32 (p.xs ++ v ∷ zs) < rank 32 l) (sym p.is) (rank_less 32 p.xs v zs (w ∷ p.zs) few less))

set_place : (W : List Station) (i : ℕ) (w v : Station) (p : Place W i w) → slice_set W i v ≡ p.xs ++ v ∷ p.zs
set_place W i w v p = ap (λ l. slice_set l i v) p.is ∙ ap (λ k. slice_set (p.xs ++ w ∷ p.zs) k v) p.place ∙ set_middle p.xs p.zs w v

miss_digit : (s : Stage) (x : ℕ) → miss_of s ≡ Some x → digit s ≡ 2
miss_digit s x e = grind (arith, common_steps)

pub recover_falls : (W W' : List Station) → length W ≤ 32 → RecoversTo W W' → rank 32 W' < rank 32 W
recover_falls W W' room r =
    let p = place_at W r.i r.w r.is in
    let taken : take r.i W ≡ p.xs = ap (λ k. take k W) p.place ∙ ap (take (length p.xs)) p.is ∙ take_middle p.xs (r.w ∷ p.zs) in
    let two : digit r.w.stage ≡ 2 = miss_digit r.w.stage r.x (given_station miss_in W r.i r.w r.x r.is r.first.here) in
    lower W W' [] r.i r.w (station_mended r.w r.x) room p (r.new ∙ ap (λ l. l ++ station_mended r.w r.x ∷ []) taken) (omega (arith, two))

pub let_falls : (W : List Station) (w : Station) → length W < 32 → digit w.stage ≤ 5 → rank 32 (W ++ w ∷ []) < rank 32 W
let_falls W w room most = subst (λ l. rank 32 (W ++ w ∷ []) < rank 32 l) (append-nil W) (rank_less 32 W w [] [] room (omega (arith, most)))

after_digit : (w : Station) (o : Outcome) → digit (station_after w o).stage ≤ 3
after_digit w o = grind (arith, common_steps)

open_digit : (s : Stage) (o : Option Operands) (x : Operands) → where_open s o ≡ Some x → digit s ≡ 5
open_digit s o x e = grind (arith, common_steps)

pub run_falls : (g : List ℕ) (size : ℕ) (W W' : List Station) (i : ℕ) (w : Station) (o : Operands) → length W ≤ 32 → gives (operands_in g) W i ≡ Some o →
    slice_get W i ≡ Some w → W' ≡ slice_set W i (station_after w (outcome_of w.instr w.half w.pc o.a o.b size)) → rank 32 W' < rank 32 W
run_falls g size W W' i w o room here is new =
    let p = place_at W i w is in
    let v = station_after w (outcome_of w.instr w.half w.pc o.a o.b size) in
    let five : digit w.stage ≡ 5 = open_digit w.stage _ o (given_station (operands_in g) W i w o is here) in
    let low = after_digit w (outcome_of w.instr w.half w.pc o.a o.b size) in
    lower W W' p.zs i w v room p (new ∙ set_place W i w v p) (omega (arith, five, low))

waits_digit : (k : Kind) (s : Stage) (a : ℕ) → waits_by k s ≡ Some a → digit s ≡ 3
waits_digit k s a e = grind (arith, common_steps)

pub load_falls : (g m : List ℕ) (W W' : List Station) (i : ℕ) (w : Station) (value : ℕ) → length W ≤ 32 → gives (load_in g m) W i ≡ Some value →
    slice_get W i ≡ Some w → W' ≡ slice_set W i (record w { stage = Done; made = Some value }) → rank 32 W' < rank 32 W
load_falls g m W W' i w value room here is new =
    let p = place_at W i w is in
    let v = record w { stage = Done; made = Some value } in
    let a = answered_waits g m (take i W) w value (given_station (load_in g m) W i w value is here) in
    let three : digit w.stage ≡ 3 = waits_digit (kind w.instr.op) w.stage a.0 a.1 in
    lower W W' p.zs i w v room p (new ∙ set_place W i w v p) (omega (arith, three))
