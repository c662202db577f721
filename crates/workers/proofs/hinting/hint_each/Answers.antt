use Rattle.std.proofs.Common.{◌≡◌, ◌+◌, ◌∙◌, refl, subst, sym}
use Rattle.hints.specs.Hinted.{TheHinter}
use Rattle.workers.specs.Hinting.{HasHinted}
use Rattle.workers.proofs.HintsPut.{none_hinted, passed, put_or_dropped}
use Rattle.workers.proofs.hinting.hint_each.Goals as goal
use Rattle.workers.proofs.hinting.hint_each.Goals.{then-is_one_of, else-is_one_of}

pub loop-station-init : goal.loop-station-init
loop-station-init g c = (c.requires.of, none_hinted _ _)

pub loop-station-preserved : goal.loop-station-preserved
loop-station-preserved g c =
    let was = c.loop-station.invariant in
    elim c.if-is_one_of.branch [
      | then-is_one_of w ↦
          let push = w.push-is_put.ensures in
          subst (λ (h : TheHinter). (h.of ≡ c.args.hints.now.id) × HasHinted c.args.stations (c.loop-station.station + 1) c.args.hinter.now h) (sym w.hinter-is)
          (push.of, put_or_dropped _ _ _ _ _ w.push-is_put.result (w.if-is_one_of.ensures.set refl) (push.of ∙ sym was.0) push.put push.dropped push.offered was.1)
      | else-is_one_of w ↦
          subst (λ (h : TheHinter). (h.of ≡ c.args.hints.now.id) × HasHinted c.args.stations (c.loop-station.station + 1) c.args.hinter.now h) (sym w.hinter-is)
          (was.0, passed _ _ _ _ (w.if-is_one_of.ensures.clear refl) was.1)
    ]
