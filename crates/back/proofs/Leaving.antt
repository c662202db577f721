-- A back that leaves its core, and one that enters another.
use Rattle.std.proofs.Common.{◌≡◌, ℕ, [], Option, None, refl, sym, ap, ◌∙◌, subst}
use Rattle.instructions.specs.Programs.{Program}
use Rattle.inorder.specs.Callers.{GoesOn as HasNoStop}
use Rattle.inorder.specs.Committed.{ahead, committed}
use Rattle.inorder.specs.History.{IsLegal, back, unit_of}
use Rattle.inorder.specs.OneHistory.{Adds}
use Rattle.inorder.specs.Machine.{State}
use Rattle.inorder.specs.Unit.{at}
use Rattle.snapshots.specs.declared.snap.Snap.{Snap}
use Rattle.station.specs.Seats.{Caller}
use Rattle.back.specs.Backs.{committed_in, unit_in}
use Rattle.back.specs.Kept.{BackIsKept, KeepsUnit}
use Rattle.back.specs.Stills.{GoesOnForBack, head_at}
use Rattle.back.proofs.SeatKept.{plain, state_is}
use Rattle.back.proofs.UnitKept.{adds_keeps}

module _ (P : Program) (state : State) (low : Option ℕ) (head : ℕ) (shown : Snap) where
  -- where it left it may enter again
  pub goes_on_here : (v : Caller) → BackIsKept P v state low head None shown → GoesOnForBack v.core v.seen v
  goes_on_here v k = record {
    by_is = k.by_is;
    program = refl;
    sizes = refl;
    last = v.seen;
    adds = record { begins = record { more = []; is = refl }; legal = subst (λ Q. IsLegal Q v.core.sizes v.seen) (sym k.program) k.legal; one_table = refl; mine = refl };
    tenants = refl;
  }

  -- one that has not ended has retired no stop
  pub no_stop : (v : Caller) → BackIsKept P v state low head None shown → HasNoStop (unit_in v.core v.seen)
  no_stop v k = k.unit.end_is

  -- what it keeps is that of the seat with which it enters
  pub entered : (v w : Caller) (station : ℕ) → BackIsKept P v state low head None shown →
      GoesOnForBack v.core v.seen w → IsLegal w.core.program w.core.sizes w.seen →
      head_at w.core w.seen ≡ station → BackIsKept P w state low station None shown
  entered v w station k g legal is =
      let C = v.core.sizes in
      let adds : Adds P C back v.seen g.last [] = subst (λ Q. Adds Q C back v.seen g.last []) k.program g.adds in
      let unit : KeepsUnit P C (unit_of P C g.last) state low head None = adds_keeps P C state low head None v.seen g.last [] adds tt (plain P state low head None shown v k) in
      let program : w.core.program ≡ P = g.program ∙ k.program in
      let tenants : (unit_in w.core w.seen).tenants ≡ (unit_of P C g.last).tenants = g.tenants ∙ ap (λ Q. (unit_of Q C g.last).tenants) k.program in
      record {
        program = program;
        by_is = g.by_is;
        legal = subst (λ Q. IsLegal Q w.core.sizes w.seen) program legal;
        unit = record {
          state_is = unit.state_is ∙ ap (committed P) (sym tenants);
          low_is = unit.low_is ∙ ap (ahead P) (sym tenants);
          head_is = sym is;
          end_is = λ p t there. unit.end_is p t (ap (λ z. at z p) (sym tenants) ∙ there);
        };
        later = k.later;
      }

  -- and so is the state that it has committed
  pub same_committed : (v w : Caller) (station : ℕ) → BackIsKept P v state low head None shown →
      BackIsKept P w state low station None shown →
      committed_in w.core w.seen ≡ committed_in v.core v.seen
  same_committed v w station k k' = sym (state_is P state low station None shown w k') ∙ state_is P state low head None shown v k
