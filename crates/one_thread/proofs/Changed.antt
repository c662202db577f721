-- One live tenant has come further, and all that is due was delivered.
use Rattle.std.proofs.Common.{arith}
use Rattle.std.proofs.lemmas.Grind.{common_steps}
use Rattle.std.proofs.Common.{◌≡◌, ℕ, List, ◌∷◌, ◌++◌, None, sym, ap, ◌∙◌, subst}
use Rattle.std.specs.Prelude.{slice_set}
use Rattle.std.specs.List.{AllByRecursion}
use Rattle.instructions.specs.Programs.{Program}
use Rattle.inorder.specs.declared.history.Step.{Step}
use Rattle.inorder.specs.Laws.{IsNoRetire}
use Rattle.inorder.specs.Tenants.{Live, Tenant}
use Rattle.inorder.specs.Unit.{UpdateUnit, how_many}
use Rattle.inorder.specs.Tenants.{is_live}
use Rattle.one_thread.proofs.Windows.{window_length}
use Rattle.inorder.specs.Moves.{IsDeliver, IsReached, Leads, with_tenants}
use Rattle.inorder.proofs.OneCaller.Execution.{ActRun}
use Rattle.inorder.proofs.OneCaller.Sequences.{all_more, all_weaker, committed_on, deliver_quiet, sound_of}
use Rattle.one_thread.specs.declared.pipeline.Pipeline.{Pipeline}
use Rattle.one_thread.specs.declared.station.Station.{Station}
use Rattle.one_thread.specs.Leavers.{leaver}
use Rattle.one_thread.specs.StandsFor.{StandsFor, sizes}
use Rattle.one_thread.specs.Window.{station_of, window}
use Rattle.one_thread.proofs.Waiting.{LeavesSame, same_alike, same_both, same_put}
use Rattle.one_thread.proofs.Found.{window_alike, window_middle}
use Rattle.one_thread.proofs.Leavers.{leaver_alike, leaver_put, told_live}
use Rattle.one_thread.proofs.Scan.{set_middle}
use Rattle.one_thread.proofs.Turns.{FoundIn, stand_on}

-- One tenant is changed in place, and all that is due delivered
pub changed_stands : (b later : Pipeline) (U : UpdateUnit) (ys : List Tenant) (t u : Tenant) (ts : List Tenant) (steps : List Step) (w : Station) → b.over ≡ None →
    IsReached b.program.now (sizes b) U →
    StandsFor b U → U.tenants ≡ ys ++ t ∷ ts → t.standing ≡ Live → u.standing ≡ Live → u.station ≡ t.station → AllByRecursion IsNoRetire steps →
    (k : ActRun b.program.now (sizes b) 0 U ys t u ts steps) → Leads b.program.now (sizes b) 0 U (k.delivers ++ steps) (with_tenants U k.later) → station_of b.program.now u ≡ w →
    later.window ≡ window b.program.now ts ++ w ∷ window b.program.now ys → StandsFor (record b { window = later.window }) (with_tenants U k.later)
changed_stands b later U ys t u ts steps w none r s split lt lu st quiet k leads sw wl =
    stand_on b later.window U (with_tenants U k.later) none s
    (committed_on P (sizes b) 0 U (k.delivers ++ steps) (with_tenants U k.later) leads (sound_of P (sizes b) U r)
    (all_more IsNoRetire k.delivers steps (all_weaker IsDeliver IsNoRetire deliver_quiet k.delivers k.are) quiet))
    (λ n. leaver_alike P n (ys ++ u ∷ ts) k.later k.alike ∙ leaver_put P n ys t u ts st (told_live P u lu ∙ sym (told_live P t lt)) ∙ ap (λ X. leaver P X n) (sym split))
    (subst (λ X. LeavesSame P X k.later) (sym split) (same_both P (ys ++ t ∷ ts) (ys ++ u ∷ ts) k.later (same_put P ys t u ts lt lu) (same_alike P (ys ++ u ∷ ts) k.later k.alike)))
    (wl ∙ ap (λ x. window P ts ++ x ∷ window P ys) (sym sw) ∙ sym (window_middle P ys u ts lu) ∙ sym (window_alike P (ys ++ u ∷ ts) k.later k.alike))
    k.stops k.still
  where
    P : Program
    P = b.program.now

pub set_shown : (P : Program) (W : List Station) (U : List Tenant) (i : ℕ) (w v : Station) → (f : FoundIn P W U i w) → slice_set W i v ≡ window P f.found.ts ++ v ∷ window P f.found.ys
set_shown P W U i w v f = grind (arith, common_steps, set_middle)

-- the age of the tenant that was found
pub age_is : (b : Pipeline) (U : UpdateUnit) (i : ℕ) (w : Station) (f : FoundIn b.program.now b.window U.tenants i w) → how_many is_live f.found.ts ≡ i
age_is b U i w f = sym (window_length b.program.now f.found.ts) ∙ sym f.found.place
