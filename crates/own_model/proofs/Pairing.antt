-- A second tenant is let after the oldest, and executed before it.
use Rattle.std.proofs.Common.{◌≡◌, ℕ, suc, ◌<◌, true, false, Bool, cond, length, Some, refl, sym, ap, ◌∙◌, subst, arith}
use Rattle.std.specs.Prelude.{IfSome}
use Rattle.instructions.specs.Instruction.{destination, first_of, fixed_next, is_access, is_first_half, second_of}
use Rattle.instructions.specs.Operations.{outcome_of}
use Rattle.instructions.specs.Programs.{Program}
use Rattle.instructions.specs.declared.instr.Instr.{Instr}
use Rattle.instructions.specs.declared.stop.Outcome.{Outcome}
use Rattle.inorder.specs.declared.history.Step.{Step}
use Rattle.inorder.specs.declared.history.Step.TheVariants.{Let}
use Rattle.inorder.specs.declared.history.Supply.TheVariants.{Known}
use Rattle.inorder.specs.Moves.{IsReached, with_let}
use Rattle.inorder.specs.Plain.{IsPlain}
use Rattle.inorder.specs.Steps.{MayClaim, MayLet}
use Rattle.inorder.specs.Tenants.{Tenant, computed, instr, kind_of}
use Rattle.inorder.specs.Unit.{Sizes, UpdateUnit, creator, front_half, half_after, value_of}
use Rattle.inorder.proofs.OneCaller.Sequences.{sound_of}
use Rattle.inorder.proofs.Sound.{IsSound}
use Rattle.own_model.specs.Flight.{IsSecond, TwoFly, let_in, second_goes, second_half, two_in_flight, with_oldest}
use Rattle.own_model.specs.Settled.{Settled}
use Rattle.own_model.specs.State.{IsAt, half_in, value_in}
use Rattle.own_model.specs.Transitions.{MovesTo, Reaches}
use Rattle.own_model.specs.declared.state.ArchitecturalState.{ArchitecturalState}
use Rattle.own_model.proofs.Issuing.{enters, found, next_small, no_access_lives, nobody_lives, source_is}
use Rattle.own_model.proofs.Predicted.{computed_fits}
use Rattle.own_model.proofs.Sequences.{loosened, once, then_on}
use Rattle.own_model.proofs.Sources.{source_after}

-- Both are let

module _ (P : Program) (C : Sizes) (ring : 1 < C.ring) (queue : 1 < C.queue) (U : UpdateUnit) (reached : IsReached P C U) (a : ArchitecturalState) (s : Settled P a U.tenants) (i : Instr) (pc : ℕ) (j : Instr) (o : Outcome) (second : IsSecond P a i pc j o) where
  sound : IsSound P U.tenants
  sound = sound_of P C U reached

  abbrev k : (k : ℕ) × IsAt P a.committed.pc k i
  k = found P a.committed.pc i second.is_next

  abbrev n : (n : ℕ) × IsAt P pc n j
  n = found P pc j second.is_after

  abbrev x : ℕ
  x = value_in a (first_of j)

  abbrev y : ℕ
  y = value_in a (second_of j)

  abbrev goes : ℕ
  goes = second_goes a i pc j o

  abbrev oldest : Tenant
  oldest = let_in a P C U i k.0 pc

  abbrev V : UpdateUnit
  V = with_oldest a P C U i k.0 pc

  -- the second as it is let
  abbrev fresh : Tenant
  fresh = let_in a P C V j n.0 goes

  half_is : second_half a i ≡ front_half P V.tenants
  half_is = λ z. half_after (is_first_half (sym k.1.is z).op (s.half z))

  -- a source that the oldest does not write
  given : (r : ℕ) → (destination i (half_in a) ≡ r → r ≡ 0) → value_of V.tenants (creator P V.tenants r) ≡ Some (value_in a r)
  given r other = source_after P oldest U.tenants r (λ q. other ((λ z. destination (sym k.1.is z) (s.half z)) ∙ q)) ∙ source_is P a U.tenants sound s r

  few : (test : Bool) (m : ℕ) (most : ℕ) → 1 < most → m ≡ 0 → cond test (suc m) m < most
  few true m most more none = omega (arith, none, more)
  few false m most more none = omega (arith, none, more)

  fits : IfSome (fixed_next j (second_half a i) pc) (λ z. goes ≡ z)
  fits = subst (λ q. IfSome (fixed_next j (second_half a i) pc) (λ z. second_goes a i pc j q ≡ z)) second.outcome (computed_fits pc x y (length P.bytes) j (second_half a i))

  then_enters : MayLet P C V n.0 goes (Known x) (Known y)
  then_enters = record {
    room = few true _ C.ring ring (nobody_lives U.tenants s.nobody);
    queue = λ q. few (is_access (kind_of P oldest)) _ C.queue queue (no_access_lives P U.tenants s.nobody);
    is_there = n.1.inside;
    pc = n.1.place;
    small = next_small (is_first_half j.op (second_half a i)) pc o second.small second.word;
    predicts = subst (λ f. IfSome f (λ z. goes ≡ z)) (λ z. fixed_next (sym n.1.is z) (half_is z) pc) fits;
    first_is = ap (λ q. value_of V.tenants (creator P V.tenants (first_of q))) n.1.is ∙ given (first_of j) second.first;
    second_is = ap (λ q. value_of V.tenants (creator P V.tenants (second_of q))) n.1.is ∙ given (second_of j) second.second;
  }

  lets : Reaches IsPlain P C U (with_let V fresh)
  lets =
      then_on (once U V (Let k.0 pc (Known _) (Known _)) tt (enters P C U sound a s i k.0 k.1 (omega (arith, ring)) (omega (arith, queue)) pc second.small second.fixed) refl)
      (once V (with_let V fresh) (Let n.0 goes (Known x) (Known y)) tt then_enters refl)

  comes : computed P fresh ≡ o
  comes = (λ z. outcome_of (n.1.is z) (sym half_is z) pc x y (length P.bytes)) ∙ second.outcome

  -- then the second is executed, as the model does it
  pub two_fly : {IsOne : Step → Type 0} → ((s : Step) → IsPlain s → IsOne s) → (since : Tenant → Tenant) →
      ((W : UpdateUnit) (t : Tenant) → MayClaim P t → instr P t ≡ j → computed P t ≡ o → Reaches IsOne P C (with_let W t) (with_let W (since t))) →
      MovesTo IsOne P C U (TwoFly P C a i pc j o since)
  two_fly weaker since runs = record {
    unit = two_in_flight a P C U i k.0 pc j n.0 o since;
    reaches = then_on (loosened weaker lets) (runs V fresh (record { live = refl; fate = refl; needs = refl }) n.1.is comes);
    stands = record { below = U; settled = s; second = second; k = k.0; oldest_at = k.1; n = n.0; second_at = n.1; is = refl };
  }
