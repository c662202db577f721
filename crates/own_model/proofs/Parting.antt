-- The oldest of two in flight retires; the second, which was executed before it, stays or is squashed.
use Rattle.std.proofs.Common.{◌≡◌, ℕ, ◌&&◌, not, false, cond, eqb, List, [], ◌∷◌, ◌++◌, length, Some, refl, sym, ap, ◌∙◌, subst, eq-eqb}
use Rattle.instructions.specs.Instruction.{destination, first_of, is_first_half, kind, second_of}
use Rattle.instructions.specs.Operations.{outcome_of}
use Rattle.instructions.specs.Programs.{Program, instr_of}
use Rattle.instructions.specs.declared.instr.Instr.{Instr}
use Rattle.instructions.specs.declared.stop.Outcome.{Outcome}
use Rattle.instructions.specs.declared.stop.Outcome.TheVariants.{Stop as Stops}
use Rattle.instructions.specs.declared.stop.Stop.{Stop}
use Rattle.inorder.specs.Committed.{ahead, commits_by, committed, with_tenant}
use Rattle.inorder.specs.Moves.{IsReached, with_let, with_tenants}
use Rattle.inorder.specs.Plain.{IsPlain}
use Rattle.inorder.specs.Tenants.{Live, Tenant, computed, is_first}
use Rattle.inorder.specs.Unit.{Sizes, UpdateUnit, half_after}
use Rattle.inorder.proofs.OneCaller.Middle.{sound_from}
use Rattle.inorder.proofs.OneCaller.Recovery.{gone}
use Rattle.inorder.proofs.OneCaller.Sequences.{sound_of}
use Rattle.inorder.proofs.Sound.{IsSound}
use Rattle.own_model.specs.Flight.{TwoFly, let_in, let_known, second_goes, two_in_flight, with_oldest}
use Rattle.own_model.specs.Settled.{Settled}
use Rattle.own_model.specs.State.{Executes, IsNoStop, half_in, left, left_at, loaded_at, value_in}
use Rattle.own_model.specs.Transitions.{HasStopped, MovesTo, Reaches}
use Rattle.own_model.specs.declared.state.ArchitecturalState.{ArchitecturalState}
use Rattle.own_model.proofs.Executing.{executed, hit_stays, miss_squashes, next_as, stay}
use Rattle.own_model.proofs.Issuing.{left_oldest, oldest_reaches, oldest_settles, oldest_stops, pc_is, source_is}
use Rattle.own_model.proofs.Retiring.{gone_as, leads_out, leaves, squashed_settles}
use Rattle.own_model.proofs.Sequences.{sound_after}
use Rattle.own_model.proofs.Sources.{source_after}

same_some : {A : Type 0} → {x y : A} → Some x ≡ Some y → x ≡ y
same_some e = cc

-- The oldest of two retires

module _ (P : Program) (C : Sizes) (a : ArchitecturalState) (i : Instr) (pc : ℕ) (j : Instr) (o : Outcome) (since : Tenant → Tenant) (live : (t : Tenant) → t.standing ≡ Live → (since t).standing ≡ Live)
    (U : UpdateUnit) (reached : IsReached P C U) (f : TwoFly P C a i pc j o since U) where
  abbrev ts : List Tenant
  ts = f.below.tenants

  abbrev x : ℕ
  x = value_in a (first_of j)

  abbrev y : ℕ
  y = value_in a (second_of j)

  abbrev goes : ℕ
  goes = second_goes a i pc j o

  abbrev young : Tenant
  young = since (let_in a P C (with_oldest a P C f.below i f.k pc) j f.n goes)

  abbrev S : UpdateUnit
  S = two_in_flight a P C f.below i f.k pc j f.n o since

  abbrev sound_in : IsSound P S.tenants
  sound_in = subst (λ X. IsSound P X.tenants) f.is (sound_of P C U reached)

  abbrev sound_below : IsSound P ts
  sound_below = sound_from P (young ∷ let_in a P C f.below i f.k pc ∷ []) ts sound_in

  pub oldest_is : (q : Instr) (r : Outcome) → Executes P a q r → q ≡ i
  oldest_is q r e = same_some (sym e.is_next ∙ f.second.is_next)

  quiet : (us : List Tenant) → committed P (young ∷ us) ≡ committed P us
  quiet us = ap (λ st. cond (commits_by st young.fate && not (is_first P young)) (with_tenant P young (ahead P us)) (committed P us)) (live _ refl)

  pub two_stop : (c : Stop) → Executes P a i (Stops c) → MovesTo IsPlain P C U (HasStopped P a.committed c)
  two_stop c e =
      subst (λ X. MovesTo IsPlain P C X (HasStopped P a.committed c)) (sym f.is)
      (oldest_stops P C f.below sound_below a f.settled i f.k f.oldest_at c e pc S (young ∷ []) (quiet (left_oldest P C f.below sound_below a f.settled i f.k f.oldest_at (Stops c) e pc ∷ ts)))

  module _ (r : Outcome) (e : Executes P a i r) (no_stop : IsNoStop r) where
    abbrev late : ArchitecturalState
    late = left a i r

    abbrev old : Tenant
    old = left_oldest P C f.below sound_below a f.settled i f.k f.oldest_at r e pc

    -- the unit below with the oldest as it has retired
    abbrev pub with_old : UpdateUnit
    with_old = with_let f.below old

    reaches : Reaches IsPlain P C S (with_tenants S (stay pc r (young ∷ []) ++ with_old.tenants))
    reaches = oldest_reaches P C f.below sound_below a f.settled i f.k f.oldest_at r e pc S (young ∷ [])

    pub settles : Settled P late with_old.tenants
    settles = oldest_settles P C f.below sound_below a f.settled i f.k f.oldest_at r e pc no_stop

    pub sound_old : IsSound P with_old.tenants
    sound_old = sound_from P (stay pc r (young ∷ [])) with_old.tenants (sound_after reaches sound_in)

    pc_on : next_as pc r ≡ late.committed.pc
    pc_on = pc_is P late with_old.tenants sound_old settles

    -- what the oldest does not write is as it was
    same : (q : ℕ) → (destination i (half_in a) ≡ q → q ≡ 0) → value_in a q ≡ value_in late q
    same q other =
        same_some (sym (source_after P old ts q (λ d. other ((λ z. destination (sym f.oldest_at.is z) (f.settled.half z)) ∙ d)) ∙ source_is P a ts sound_below f.settled q)
        ∙ source_is P late with_old.tenants sound_old settles q)

    -- the second as it is let after the oldest has retired
    abbrev pub late_second : Tenant
    late_second = let_known P C with_old f.n goes x y

    module _ (hit : late.committed.pc ≡ pc) where
      hits : next_as pc r ≡ pc
      hits = pc_on ∙ hit

      alike : young ≡ since late_second
      alike = ap (λ q. since (let_in a P C (with_let f.below (record (let_in a P C f.below i f.k pc) { next = q })) j f.n goes)) (sym hits)

      -- it goes on to the second, which stays
      pub two_hit : Reaches IsPlain P C U (with_let with_old (since late_second))
      two_hit =
          subst (λ X. Reaches IsPlain P C X (with_let with_old (since late_second))) (sym f.is)
          (subst (λ ys. Reaches IsPlain P C S (with_tenants S (ys ++ with_old.tenants))) (hit_stays pc r (young ∷ []) (eq-eqb (next_as pc r) pc hits) ∙ ap (λ t. t ∷ []) alike) reaches)

      pub late_computes : computed P late_second ≡ o
      late_computes =
          (λ z. outcome_of (f.second_at.is z) (half_after (is_first_half (f.oldest_at.is z).op (sym f.settled.half z))) (hits z) x y (length P.bytes))
          ∙ f.second.outcome

      -- the second, once it was executed, retires
      pub two_leave : IsNoStop o →
          MovesTo IsPlain P C (with_let with_old (executed P (loaded_at late (instr_of P f.n)) late_second o)) (λ X. Settled P (left late j o) X.tenants)
      two_leave goes_on =
          let out = leaves P C late with_old settles f.n goes x y o late_computes (λ q. same (second_of j) f.second.second ∙ ap (λ z. value_in late (second_of z)) (sym f.second_at.is)) goes_on in
          let gone_second = gone_as P C late with_old settles f.n goes x y (kind (instr_of P f.n).op) o in
          record {
            unit = with_tenants S (gone_second ∷ with_old.tenants);
            reaches = leads_out P C late with_old settles f.n goes x y S [] o late_computes;
            stands = subst (λ z. Settled P z (gone_second ∷ with_old.tenants)) (λ z. left_at late (f.second_at.is z) (sym settles.half z) (pc_is P late with_old.tenants sound_old settles z) o) out;
          }

    -- it goes on elsewhere, and the second is squashed
    pub two_miss : eqb late.committed.pc pc ≡ false → MovesTo IsPlain P C U (λ X. Settled P late X.tenants)
    two_miss off = record {
      unit = with_tenants S (gone (young ∷ []) ++ with_old.tenants);
      reaches = subst (λ X. Reaches IsPlain P C X (with_tenants S (gone (young ∷ []) ++ with_old.tenants))) (sym f.is)
          (subst (λ ys. Reaches IsPlain P C S (with_tenants S (ys ++ with_old.tenants))) (miss_squashes pc r (young ∷ []) (ap (λ z. eqb z pc) pc_on ∙ off)) reaches);
      stands = squashed_settles P late (young ∷ []) with_old.tenants (live _ refl, tt) settles;
    }
