-- No predictor is told of the station of the oldest tenant before that leaves it.
use Rattle.std.proofs.Common.{◌≡◌, ◌≢◌, suc, ◌%◌, cond, List, [], ◌∷◌, ◌++◌, length, Some, None, refl, sym, ap, ◌∙◌, subst, eq-eqb, ne_eqb, arith}
use Rattle.std.specs.Prelude.{slice_get}
use Rattle.std.specs.List.{AllByRecursion}
use Rattle.instructions.specs.Programs.{Program}
use Rattle.inorder.specs.Callers.{is_retired, stands_retired}
use Rattle.inorder.specs.Moves.{IsReached}
use Rattle.inorder.specs.Tenants.{Tenant, on_path, stands_on_path}
use Rattle.inorder.specs.Unit.{Sizes, UpdateUnit, how_many}
use Rattle.inorder.proofs.Sound.{IsSound}
use Rattle.inorder.proofs.Stations.{ArePlaced, Stands, last_at}
use Rattle.inorder.proofs.OneCaller.Middle.{at_middle, younger_middle}
use Rattle.inorder.proofs.OneCaller.Sequences.{sound_of, stands_of}
use Rattle.one_thread.specs.declared.pipeline.Pipeline.{Pipeline}
use Rattle.one_thread.specs.declared.station.Station.{Station}
use Rattle.one_thread.specs.Leavers.{leaver, told_of}
use Rattle.one_thread.specs.StandsFor.{StandsFor, StandsForSome, sizes}
use Rattle.one_thread.proofs.Found.{Found, found}
use Rattle.one_thread.proofs.Leavers.{told_live}
use Rattle.one_thread.proofs.Waiting.{retired_over}
use Rattle.one_thread.proofs.Windows.{path_length}

-- the younger ones stand elsewhere
pub oldest_apart : (P : Program) (C : Sizes) (U : UpdateUnit) (w : Station) (d : Found P U.tenants 0 w) → IsReached P C U → AllByRecursion (λ y. y.station ≢ d.t.station) d.ys
oldest_apart P C U w d r =
    let st : Stands C (d.ys ++ d.t ∷ d.ts) = subst (Stands C) d.split (stands_of P C U r) in
    subst (AllByRecursion (λ y. y.station ≢ d.t.station)) (younger_middle d.ys d.t d.ts) (last_at (d.ys ++ d.t ∷ d.ts) (length d.ts) d.t st.apart (at_middle d.ys d.t d.ts) d.live)

-- as many have retired as stand before it
pub oldest_retired : (P : Program) (C : Sizes) (U : UpdateUnit) (w : Station) (d : Found P U.tenants 0 w) → IsReached P C U → how_many is_retired U.tenants ≡ how_many is_retired d.ts
oldest_retired P C U w d r =
    ap (how_many is_retired) d.split
    ∙ retired_over P d.t d.t d.ts d.ys d.live (subst (IsSound P) d.split (sound_of P C U r))
    ∙ ap (λ x. cond (stands_retired x) (suc (how_many is_retired d.ts)) (how_many is_retired d.ts)) d.live

-- it stands where the fields say
pub oldest_place : (b : Pipeline) (U : UpdateUnit) (w : Station) (d : Found b.program.now U.tenants 0 w) → IsReached b.program.now (sizes b) U → StandsFor b U → d.t.station ≡ b.oldest
oldest_place b U w d r s =
    (placed_from d.ys (d.t ∷ d.ts) st.placed).0 (ap stands_on_path d.live)
    ∙ ap (λ n. n % b.ring) (path ∙ sym (oldest_retired b.program.now (sizes b) U w d r))
    ∙ sym s.oldest
  where
    st : Stands (sizes b) (d.ys ++ d.t ∷ d.ts)
    st = subst (Stands (sizes b)) d.split (stands_of b.program.now (sizes b) U r)

    path : how_many on_path d.ts ≡ how_many is_retired d.ts
    path = omega (arith, path_length b.program.now d.ts, sym d.place)

    placed_from : (xs us : List Tenant) → ArePlaced (sizes b) (xs ++ us) → ArePlaced (sizes b) us
    placed_from [] us p = p
    placed_from (x ∷ xs) us p = placed_from xs us p.1

-- the youngest tenant of a station says what is told of it
leaver_there : (P : Program) (ys : List Tenant) (t : Tenant) (ts : List Tenant) → AllByRecursion (λ y. y.station ≢ t.station) ys → leaver P (ys ++ t ∷ ts) t.station ≡ told_of P t
leaver_there P [] t ts a = ap (λ x. cond x (told_of P t) (leaver P ts t.station)) (eq-eqb t.station t.station refl)
leaver_there P (y ∷ ys) t ts a = ap (λ x. cond x (told_of P y) (leaver P (ys ++ t ∷ ts) t.station)) (ne_eqb y.station t.station a.0) ∙ leaver_there P ys t ts a.1

pub oldest_untold : (b : Pipeline) (w : Station) → StandsForSome b → slice_get b.window 0 ≡ Some w → slice_get b.leavers b.oldest ≡ Some None
oldest_untold b w h e =
    h.stands.leavers b.oldest h.oldest
    ∙ ap Some (ap (λ X. leaver b.program.now X b.oldest) d.split
    ∙ ap (leaver b.program.now (d.ys ++ d.t ∷ d.ts)) (sym (oldest_place b h.unit w d h.reached h.stands))
    ∙ leaver_there b.program.now d.ys d.t d.ts (oldest_apart b.program.now (sizes b) h.unit w d h.reached)
    ∙ told_live b.program.now d.t d.live)
  where
    d : Found b.program.now h.unit.tenants 0 w
    d = found b.program.now h.unit.tenants 0 w (ap (λ W. slice_get W 0) (sym h.stands.window) ∙ e)
