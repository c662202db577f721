-- A let.
use Rattle.std.proofs.Common.{◌≡◌, ◌+◌, ◌%◌, ◌++◌, ◌∷◌, [], length, None, refl, sym, ap, ◌∙◌}
use Rattle.std.specs.Prelude.{slice_get, slice_set}
use Rattle.one_thread.specs.Turns.{fields}
use Rattle.one_thread.specs.Window.{let_at}
use Rattle.one_thread.specs.declared.bench.Turn.TheVariants.{Let}
use Rattle.one_thread.specs.declared.pipeline.Pipeline.{Pipeline}
use Rattle.one_thread.proofs.BenchTurns.{guess_fixed, let_bench, let_shows}
use Rattle.one_thread.proofs.Start.{Comes}
use Rattle.one_thread.proofs.pipeline.Pipeline.enters.Given.{Over}
use Rattle.one_thread.proofs.pipeline.Pipeline.enters.Goals.{After-join}
use Rattle.one_thread.proofs.pipeline.Pipeline.enters.Goals as goal

-- the station of the new tenant
place : (g : Over) (c : After-join g) → c.station_at-station.result ≡ (c.args.self.now.oldest + length c.args.self.now.window) % c.args.self.now.ring
place g c = c.station_at-station.ensures.value ∙ ap (λ n. (c.args.self.now.oldest + n) % c.args.self.now.ring) c.len.ensures.value

window : (g : Over) (c : After-join g) → c.join.new.self ≡ c.args.self.now.window ++ let_at c.args.next.instr c.args.next.half c.args.next.pc c.guess-predicted.result ∷ []
window g c = c.join.ensures ∙ ap (λ w. c.args.self.now.window ++ w ∷ []) c.let_at.ensures

leavers : (g : Over) (c : After-join g) → c.take_leaver-left.new.leavers ≡
    slice_set c.args.self.now.leavers ((c.args.self.now.oldest + length c.args.self.now.window) % c.args.self.now.ring) None
leavers g c = c.take_leaver-left.ensures.none ∙ ap (λ k. slice_set c.args.self.now.leavers k None) (place g c)

pub returns-clause-turn : goal.returns-clause-turn
returns-clause-turn g c =
    let b = c.args.self.now in
    let later : Pipeline = record b { window = c.join.new.self; leavers = c.take_leaver-left.new.leavers } in
    let_bench g.P.Predictor.Predicts g.P.Predictor.Learns (fields b c.args.predictor.now) (fields later c.guess-predicted.new.predictor) c.args.next c.guess-predicted.result
    c.take_leaver-left.result c.requires.unit c.requires.open c.requires.can c.guess-predicted.type_inv
    (ap (slice_get b.leavers) (sym (place g c)) ∙ c.take_leaver-left.ensures.is) c.guess-predicted.ensures (window g c) (leavers g c) refl

comes : (g : Over) (c : After-join g) → Comes c.args.self.now Let (record c.args.self.now { window = c.join.new.self; leavers = c.take_leaver-left.new.leavers })
comes g c =
    let b = c.args.self.now in
    let next = c.args.next in
    let later : Pipeline = record b { window = c.join.new.self; leavers = c.take_leaver-left.new.leavers } in
    let guess = c.guess-predicted.ensures in
    let fixed = guess_fixed g.P.Predictor.Predicts g.P.Predictor.Learns _ next.pc next.instr c.guess-predicted.result guess.middle c.guess-predicted.new.predictor guess.asked in
    let_shows b later next c.guess-predicted.result c.requires.unit c.requires.open c.requires.can c.guess-predicted.type_inv fixed (window g c) (leavers g c) refl

pub returns-clause-falls : goal.returns-clause-falls
returns-clause-falls g c = (comes g c).falls

pub returns-clause-unit : goal.returns-clause-unit
returns-clause-unit g c = (comes g c).unit
