-- A load reads ahead and guesses; when the oldest has retired it is confirmed and retires, or is squashed or flushed.
use Rattle.std.proofs.Common.{◌≡◌, ◌+◌, ◌^◌, ◌<◌, ◌≤◌, ◌&&◌, true, false, Bool, cond, eqb, [], ◌∷◌, length, refl, sym, ap, ◌∙◌, subst, eqb-true, lit<}
use Rattle.std.specs.Prelude.{slice_index}
use Rattle.instructions.specs.Instruction.{kind, pc_plus_4, width}
use Rattle.instructions.specs.Programs.{Program, instr_of}
use Rattle.instructions.specs.declared.instr.Instr.{Instr}
use Rattle.instructions.specs.declared.op.Kind.TheVariants.{Loads}
use Rattle.instructions.specs.declared.stop.Outcome.{Outcome}
use Rattle.instructions.specs.declared.stop.Outcome.TheVariants.{Address, Stop as Stops}
use Rattle.instructions.specs.declared.stop.Stop.{Stop}
use Rattle.inorder.specs.declared.history.Act.TheVariants.{Speculate}
use Rattle.inorder.specs.declared.history.Speculation.TheVariants.{Confirm, Flush, Guess}
use Rattle.inorder.specs.Moves.{IsReached, with_let}
use Rattle.inorder.specs.Plain.{IsPlain}
use Rattle.inorder.specs.Speculation.{CanGuess, guessed}
use Rattle.inorder.specs.Steps.{MayClaim, squashed}
use Rattle.inorder.specs.Tenants.{Tenant, computed, instr}
use Rattle.inorder.specs.Unit.{UpdateUnit}
use Rattle.inorder.proofs.Grows.{sure_raw}
use Rattle.inorder.proofs.Sound.{IsSound}
use Rattle.lsq.specs.Bytes.{little_endian}
use Rattle.own_model.specs.Flight.{done_with}
use Rattle.own_model.specs.Settled.{Settled}
use Rattle.own_model.specs.State.{Executes, IsNoStop, accessed, advanced, half_in, left, loaded_at}
use Rattle.own_model.specs.Transitions.{HasStopped, IsAny, MovesTo, Reaches}
use Rattle.own_model.specs.declared.state.ArchitecturalState.{ArchitecturalState}
use Rattle.own_model.proofs.Executing.{executed_as, no_addresses}
use Rattle.own_model.proofs.Issuing.{reads_is}
use Rattle.own_model.proofs.Pairing.{two_fly}
use Rattle.own_model.proofs.Parting.{late_computes, late_second, oldest_is, settles, sound_old, two_hit, two_leave, two_miss, two_stop, with_old}
use Rattle.own_model.proofs.Retiring.{squashed_settles}
use Rattle.own_model.proofs.Sequences.{act_on, loosened, loosened_moves, then_moves, then_on}
use Rattle.load_ahead.specs.Ahead.{IsAhead, rest}
use Rattle.load_ahead.specs.StandsFor.{Flies, two}
use Rattle.load_ahead.specs.declared.station.Ahead.{Ahead}

-- a load guesses as soon as it is let
guesses : (P : Program) (l : Ahead) → kind l.instr.op ≡ Loads → l.guess < 2 ^ 32 → (W : UpdateUnit) (t : Tenant) → MayClaim P t → instr P t ≡ l.instr → computed P t ≡ Address l.address →
    Reaches IsAny P two (with_let W t) (with_let W (guessed t l.guess))
guesses P l loads word W t may same is =
    act_on (with_let W t) [] t W.tenants (Speculate (Guess l.guess)) tt (record { small = word; live = may.live; kind = ap (λ i. kind i.op) same ∙ loads; fate = subst CanGuess (sym may.fate) tt })

module _ (P : Program) (a : ArchitecturalState) (U : UpdateUnit) (reached : IsReached P two U) (l : Ahead) where
  -- the oldest is let, and the load after it is let and guesses
  pub looks : Settled P a U.tenants → IsAhead P a l → MovesTo IsAny P two U (Flies P a l)
  looks s ahead =
      let m = two_fly P two (lit< tt) (lit< tt) U reached a s ahead.oldest l.pc l.instr (Address l.address) ahead.second (λ s p. tt) (λ t. guessed t l.guess) (guesses P l ahead.loads ahead.word) in
      record { unit = m.unit; reaches = m.reaches; stands = record { oldest = ahead.oldest; fly = m.stands; ahead = ahead } }

  module _ (f : Flies P a l U) (o : Outcome) (x : Executes P a f.oldest o) (no_stop : IsNoStop o) where
    abbrev late : ArchitecturalState
    late = left a f.oldest o

    abbrev right_as : ArchitecturalState
    right_as = advanced late l.instr (half_in late) late.committed.memory l.guess (pc_plus_4 late.committed.pc)

    abbrev V : UpdateUnit
    V = with_old P two a f.oldest l.pc l.instr (Address l.address) (λ t. guessed t l.guess) (λ t q. q) U reached f.fly o x no_stop

    abbrev load : Tenant
    load = late_second P two a f.oldest l.pc l.instr (Address l.address) (λ t. guessed t l.guess) (λ t q. q) U reached f.fly o x no_stop

    settled : Settled P late V.tenants
    settled = settles P two a f.oldest l.pc l.instr (Address l.address) (λ t. guessed t l.guess) (λ t q. q) U reached f.fly o x no_stop

    sound : IsSound P V.tenants
    sound = sound_old P two a f.oldest l.pc l.instr (Address l.address) (λ t. guessed t l.guess) (λ t q. q) U reached f.fly o x no_stop

    abbrev i : Instr
    i = instr_of P f.fly.n

    abbrev To : ArchitecturalState → Type 0
    To z = MovesTo IsAny P two U (λ X. Settled P z X.tenants)

    module _ (to : late.committed.pc ≡ l.pc) where
      hits : Reaches IsAny P two U (with_let V (guessed load l.guess))
      hits = loosened (λ s p. tt) (two_hit P two a f.oldest l.pc l.instr (Address l.address) (λ t. guessed t l.guess) (λ t q. q) U reached f.fly o x no_stop to)

      -- it has read right: it is confirmed, and retires
      retires : loaded_at late l.instr l.address ≡ l.guess → To right_as
      retires right =
          subst To same (then_moves (then_on hits confirms) (loosened_moves (λ s p. tt) (subst (λ t. MovesTo IsPlain P two (with_let V t) (λ X. Settled P (left late l.instr (Address l.address)) X.tenants)) (sym executed_is)
          (two_leave P two a f.oldest l.pc l.instr (Address l.address) (λ t. guessed t l.guess) (λ t q. q) U reached f.fly o x no_stop to (λ c q. cc q)))))
        where
          right_in : l.guess ≡ loaded_at late i l.address
          right_in = sym right ∙ ap (λ q. loaded_at late q l.address) (sym f.fly.second_at.is)

          confirms : Reaches IsAny P two (with_let V (guessed load l.guess)) (with_let V (done_with l.guess load))
          confirms =
              act_on (with_let V (guessed load l.guess)) [] (guessed load l.guess) V.tenants (Speculate Confirm) tt
              (record {
                live = refl;
                v = l.guess;
                fate = refl;
                needs = refl;
                a = l.address;
                computes = late_computes P two a f.oldest l.pc l.instr (Address l.address) (λ t. guessed t l.guess) (λ t q. q) U reached f.fly o x no_stop to;
                bytes = little_endian (slice_index late.committed.memory) l.address (width i.op);
                read = sure_raw P V.tenants i l.address _ (no_addresses P V.tenants settled.nobody)
                    (reads_is P late V.tenants sound settled i l.address (subst (λ q. l.address + width q.op ≤ length P.bytes) (sym f.fly.second_at.is) f.ahead.inside));
                right = right_in;
              })

          executed_is : done_with l.guess load ≡ executed_as (kind i.op) (loaded_at late i) load (Address l.address)
          executed_is = ap (λ v. done_with v load) right_in ∙ (λ j. executed_as (sym (ap (λ q. kind q.op) f.fly.second_at.is ∙ f.ahead.loads) j) (loaded_at late i) load (Address l.address))

          same : left late l.instr (Address l.address) ≡ right_as
          same = (λ j. accessed (f.ahead.loads j) late l.instr (half_in late) (pc_plus_4 late.committed.pc) l.address)
              ∙ ap (λ v. advanced late l.instr (half_in late) late.committed.memory v (pc_plus_4 late.committed.pc)) right

      -- it has read wrong, and is flushed
      flushes : To late
      flushes = record {
        unit = with_let V (squashed (guessed load l.guess));
        reaches = then_on hits (act_on (with_let V (guessed load l.guess)) [] (guessed load l.guess) V.tenants (Speculate Flush) tt (record { live = refl; youngest = tt }));
        stands = squashed_settles P late (guessed load l.guess ∷ []) V.tenants (refl, tt) settled;
      }

      by_value : (right : Bool) → eqb (loaded_at late l.instr l.address) l.guess ≡ right → To (cond right right_as late)
      by_value true h = retires (eqb-true _ _ h)
      by_value false h = flushes

    by_pc : (hit : Bool) → eqb late.committed.pc l.pc ≡ hit → To (cond (hit && eqb (loaded_at late l.instr l.address) l.guess) right_as late)
    by_pc true h = by_value (eqb-true _ _ h) (eqb (loaded_at late l.instr l.address) l.guess) refl
    by_pc false h = loosened_moves (λ s p. tt) (two_miss P two a f.oldest l.pc l.instr (Address l.address) (λ t. guessed t l.guess) (λ t q. q) U reached f.fly o x no_stop h)

  module _ (f : Flies P a l U) (i : Instr) (o : Outcome) (x : Executes P a i o) where
    same : i ≡ f.oldest
    same = oldest_is P two a f.oldest l.pc l.instr (Address l.address) (λ t. guessed t l.guess) (λ t q. q) U reached f.fly i o x

    pub flies_moves : IsNoStop o → MovesTo IsAny P two U (λ X. Settled P (rest l (left a i o)) X.tenants)
    flies_moves no_stop =
        subst (λ q. MovesTo IsAny P two U (λ X. Settled P (rest l (left a q o)) X.tenants)) (sym same)
        (by_pc f o (subst (λ q. Executes P a q o) same x) no_stop (eqb (left a f.oldest o).committed.pc l.pc) refl)

  pub flies_stops : Flies P a l U → (i : Instr) (c : Stop) → Executes P a i (Stops c) → MovesTo IsAny P two U (HasStopped P a.committed c)
  flies_stops f i c x =
      loosened_moves (λ s p. tt) (two_stop P two a f.oldest l.pc l.instr (Address l.address) (λ t. guessed t l.guess) (λ t q. q) U reached f.fly c (subst (λ q. Executes P a q (Stops c)) (same f i (Stops c) x) x))
