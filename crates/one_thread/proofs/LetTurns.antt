-- The turn Let is steps of the unit.
use Rattle.std.proofs.lemmas.Grind.{common_steps}
use Rattle.std.proofs.Common.{◌≡◌, ℕ, ◌+◌, ◌%◌, ◌^◌, ◌<◌, ◌≤◌, cond, eqb, List, [], ◌∷◌, ◌++◌, length, Some, None, refl, sym, ap, ◌∙◌, subst, arith}
use Rattle.std.specs.Prelude.{IfSome, slice_get, slice_set}
use Rattle.std.specs.List.{AllByRecursion}
use Rattle.instructions.specs.Instruction.{fixed_next, is_access, kind}
use Rattle.instructions.specs.Programs.{Program, instr_of}
use Rattle.inorder.specs.declared.history.Step.{Step}
use Rattle.inorder.specs.declared.history.Step.TheVariants.{Let as LetStep}
use Rattle.inorder.specs.Callers.{is_retired}
use Rattle.inorder.specs.Committed.{committed}
use Rattle.inorder.specs.Laws.{IsNoRetire}
use Rattle.inorder.specs.Steps.{IsNoRetiredStop, new_tenant}
use Rattle.inorder.specs.Tenants.{Live, Retired, Tenant, instr}
use Rattle.inorder.specs.Unit.{Sizes, UpdateUnit, front_half, front_pc, how_many, next_station, recent}
use Rattle.inorder.proofs.Sound.{IsSound}
use Rattle.inorder.specs.Moves.{IsLink, IsReached, with_let}
use Rattle.inorder.specs.Quiescent.{AreQuiescent}
use Rattle.inorder.proofs.OneCaller.Creators.{IsAt, found_at}
use Rattle.inorder.proofs.OneCaller.Dispatch.{LetRun, MayEnter, let_run}
use Rattle.inorder.proofs.OneCaller.Sequences.{all_more, all_recent, all_weaker, committed_on, link_quiet, reach_on, sound_of, stands_of}
use Rattle.one_thread.specs.declared.dispatch.Fetched.{Fetched}
use Rattle.one_thread.specs.declared.pipeline.Pipeline.{Pipeline}
use Rattle.one_thread.specs.Leavers.{leaver, told_of}
use Rattle.one_thread.specs.Stages.{CanLet}
use Rattle.one_thread.specs.StandsFor.{OverIs, StandsFor, sizes}
use Rattle.one_thread.specs.Turns.{Lets}
use Rattle.one_thread.specs.Window.{half_in, let_at, next_in, station_of, window}
use Rattle.one_thread.proofs.Waiting.{same_live}
use Rattle.one_thread.proofs.Found.{station_alike}
use Rattle.one_thread.proofs.Leavers.{leavers_set, told_live}
use Rattle.one_thread.proofs.Ring.{mod_first}
use Rattle.one_thread.proofs.Windows.{front_worth, half_worth, path_length, window_accesses, window_length, window_live}

-- A let, and what it says to the predictor
pub record LetTurned (b : Pipeline) (U : UpdateUnit) (f : Fetched) (guess : ℕ) (later : Pipeline) : Type 0 where
  pub unit : UpdateUnit
  pub reached : IsReached b.program.now (sizes b) unit
  pub stands : StandsFor later unit
  pub does : Lets b.program.now (sizes b) U unit
  pub tenant : Tenant
  pub joins : unit.tenants ≡ tenant ∷ U.tenants
  pub instr : instr b.program.now tenant ≡ f.instr
  pub half : tenant.half ≡ f.half
  pub pc : tenant.pc ≡ f.pc
  pub predicted : tenant.predicted ≡ guess
  pub leaver : slice_get b.leavers ((b.oldest + length b.window) % b.ring) ≡ Some (leaver b.program.now U.tenants tenant.station)

pub let_turn : (b later : Pipeline) (f : Fetched) (guess : ℕ) (place : ℕ) → b.over ≡ None → 0 < b.ring → b.ring ≤ 32 →
    length b.leavers ≡ 32 → CanLet b.program.now b.ring b.queue b.committed.pc b.low b.window f → guess < 2 ^ 32 →
    IfSome (fixed_next f.instr f.half f.pc) (λ x. guess ≡ x) → place ≡ (b.oldest + length b.window) % b.ring →
    place < b.ring → later.window ≡ b.window ++ let_at f.instr f.half f.pc guess ∷ [] →
    later.leavers ≡ slice_set b.leavers place None →
    later ≡ record b { window = later.window; leavers = later.leavers } → (U : UpdateUnit) →
    IsReached b.program.now (sizes b) U → StandsFor b U → LetTurned b U f guess later
let_turn b later f pr place none room most long to small predicts pe pl wl ll rest U r s = subst (LetTurned b U f pr) (sym rest) (go (found_at P f.pc f.instr to.is))
  where
    P : Program
    P = b.program.now

    C : Sizes
    C = sizes b

    ts : List Tenant
    ts = U.tenants

    over : AllByRecursion IsNoRetiredStop ts × AreQuiescent ts
    over = subst (OverIs ts) none s.over

    sound' : IsSound P ts
    sound' = sound_of P C U r

    now : Pipeline
    now = record b { window = later.window; leavers = later.leavers }

    front : front_pc ts ≡ f.pc
    front = grind (arith, common_steps, front_worth, ts, sound')

    half : front_half P ts ≡ f.half
    half = grind (arith, common_steps, half_worth, ts, sound')

    station : next_station C (recent U) ≡ place
    station =
        ap (next_station C) (all_recent P C U r)
        ∙ ap (λ n. n % b.ring) (path_length P ts)
        ∙ sym (mod_first (how_many is_retired ts) (length (window P ts)) b.ring)
        ∙ ap (λ n. (n + length (window P ts)) % b.ring) (sym s.oldest)
        ∙ ap (λ l. (b.oldest + length l) % b.ring) (sym s.window)
        ∙ sym pe

    go : IsAt P f.pc f.instr → LetTurned b U f pr now
    go a = with (let_run P C 0 U a.index pr sound' (stands_of P C U r) r.never over.0 enter)
      where
        enter : MayEnter P C U a.index pr
        enter =
            record {
              room = omega (arith, to.room, window_length P ts, ap length s.window);
              queue = λ q. let few = to.free (sym (ap (λ i. is_access (kind i.op)) a.is) ∙ q) in
                  let same = ap (λ l. Rattle.one_thread.specs.Window.accesses l (length l)) s.window in omega (arith, few, same, window_accesses P ts);
              is_there = a.inside;
              pc = front ∙ a.pc;
              small = small;
              predicts = subst (λ i. IfSome (fixed_next i (front_half P ts) (front_pc ts)) (λ x. pr ≡ x)) (sym a.is)
                  (subst (λ h. IfSome (fixed_next f.instr h (front_pc ts)) (λ x. pr ≡ x)) (sym half) (subst (λ p. IfSome (fixed_next f.instr f.half p) (λ x. pr ≡ x)) (sym front) predicts));
            }

        with : LetRun P C 0 U a.index pr → LetTurned b U f pr now
        with k =
            record {
              unit = V;
              reached = reach_on P C 0 U steps V r k.leads;
              stands = record {
                window = shown;
                committed = s.committed ∙ sym same;
                leavers = subst (λ l. (n : ℕ) → n < b.ring → slice_get l n ≡ Some (leaver P V.tenants n)) (sym ll)
                    (leavers_set b.leavers P ts V.tenants place b.ring None (omega (arith, pl, most, long)) s.leavers tells);
                over = subst (OverIs V.tenants) (sym none) ((no_stop, over.0), ((k.first_still, k.second_still, free), over.1));
                low = s.low ∙ sym (same_live P k.tenant ts live).low;
                oldest = s.oldest ∙ ap (λ n. n % b.ring) (sym (same_live P k.tenant ts live).retired);
              };
              does = record {
                goes_on = over.0;
                index = a.index;
                predicted = pr;
                first = k.first;
                second = k.second;
                links = k.links;
                are = k.are;
                leads = k.leads;
              };
              tenant = k.tenant;
              joins = refl;
              instr = ap (instr_of P) k.alike.index ∙ a.is;
              half = k.alike.half ∙ half;
              pc = k.alike.pc ∙ front;
              predicted = k.alike.predicted;
              leaver = ap (slice_get b.leavers) (sym pe) ∙ s.leavers place pl ∙ ap (λ n. Some (leaver P ts n)) (sym (k.alike.station ∙ station));
            }
          where
            V : UpdateUnit
            V = with_let U k.tenant

            steps : List Step
            steps = k.links ++ LetStep a.index pr k.first k.second ∷ []

            live : k.tenant.standing ≡ Live
            live = k.alike.standing

            no_stop : IsNoRetiredStop k.tenant
            no_stop = λ q. let no : Live ≡ Retired = sym live ∙ q in absurd (cc)

            free : Rattle.inorder.specs.Quiescent.IsNotBusy k.tenant.fate
            free = subst Rattle.inorder.specs.Quiescent.IsNotBusy (sym k.alike.fate) tt

            same : committed P V.tenants ≡ committed P ts
            same = committed_on P C 0 U steps V k.leads sound' (all_more IsNoRetire k.links (LetStep a.index pr k.first k.second ∷ []) (all_weaker IsLink IsNoRetire link_quiet k.links k.are) (tt, tt))

            tells : (n : ℕ) → leaver P V.tenants n ≡ cond (eqb place n) None (leaver P ts n)
            tells n = ap (λ x. cond (eqb x n) (told_of P k.tenant) (leaver P ts n)) (k.alike.station ∙ station) ∙ ap (λ o. cond (eqb place n) o (leaver P ts n)) (told_live P k.tenant live)

            letted : station_of P k.tenant ≡ let_at f.instr f.half f.pc pr
            letted =
                station_alike P (new_tenant P C U a.index pr k.first k.second) k.tenant k.alike
                ∙ ap (λ i. let_at i (front_half P ts) (front_pc ts) pr) a.is
                ∙ ap (λ h. let_at f.instr h (front_pc ts) pr) half
                ∙ ap (λ p. let_at f.instr f.half p pr) front

            shown : later.window ≡ window P V.tenants
            shown = wl ∙ ap (λ l. l ++ let_at f.instr f.half f.pc pr ∷ []) s.window ∙ ap (λ w. window P ts ++ w ∷ []) (sym letted) ∙ sym (window_live P k.tenant ts live)
