-- Which fields some unit stands behind.
use Rattle.std.proofs.lemmas.Grind.{common_steps}
use Rattle.std.proofs.Common.{◌≡◌, ℕ, ◌-◌, ◌<◌, ◌≤◌, zero, suc, Bool, true, false, List, [], ◌∷◌, length, drop, Option, Some, None, refl, sym, ap, ◌∙◌, subst, arith, true≢false}
use Rattle.std.proofs.Math.Nat.{mod-lt, zero-mod}
use Rattle.std.specs.Prelude.{slice_get, slice_set, replicate}
use Rattle.inorder.specs.Machine.{start}
use Rattle.inorder.specs.Callers.{is_retired}
use Rattle.inorder.specs.Unit.{UpdateUnit, how_many}
use Rattle.inorder.specs.Plain.{IsPlainlyReached}
use Rattle.one_thread.specs.declared.bench.Turn.{Turn}
use Rattle.instructions.specs.declared.guessing.Leaver.{Leaver}
use Rattle.one_thread.specs.declared.pipeline.Pipeline.{Pipeline}
use Rattle.one_thread.specs.declared.station.Station.{Station}
use Rattle.one_thread.specs.Decoding.{IsDecoded}
use Rattle.one_thread.specs.Leaves.{RetiresTo}
use Rattle.one_thread.specs.StandsFor.{OverIs, StandsFor, StandsForSome, sizes}
use Rattle.one_thread.specs.Turns.{Falls, Moves, SizesStay}
use Rattle.one_thread.proofs.PlainTurns.{does_plain}

-- each of n options is none
abbrev nobody : Option Leaver
nobody = None

nones : (n s : ℕ) → s < n → slice_get (replicate n nobody) s ≡ Some nobody
nones zero s h = absurd (omega (arith, h))
nones (suc n) zero h = refl
nones (suc n) (suc s) h = let less : s < n = omega arith in nones n s less

pub start_stands : (b : Pipeline) → b.window ≡ [] → b.committed ≡ start b.program.now → b.over ≡ None →
    b.leavers ≡ replicate 32 nobody → b.low ≡ None → b.oldest ≡ 0 → b.ring ≤ 32 →
    StandsFor b Rattle.inorder.specs.Unit.empty_unit
start_stands b w c o l n z most =
    record {
      window = w;
      committed = c;
      leavers = λ s h. let less : s < 32 = omega (arith, h, most) in ap (λ x. slice_get x s) l ∙ nones 32 s less;
      over = subst (OverIs []) (sym o) (tt, tt);
      low = n;
      oldest = z ∙ sym (zero-mod b.ring);
    }

pub start_unit : (b : Pipeline) → b.window ≡ [] → b.committed ≡ start b.program.now → b.over ≡ None →
    b.leavers ≡ replicate 32 nobody → b.low ≡ None → b.oldest ≡ 0 → 0 < b.ring → b.ring ≤ 32 →
    2 ≤ b.queue → IsDecoded b.code.items b.program.now → StandsForSome b
start_unit b w c o l n f room most least code =
    record {
      unit = Rattle.inorder.specs.Unit.empty_unit;
      reached = record { history = []; allowed = tt; is = refl; never = refl };
      plain = tt;
      stands = start_stands b w c o l n f most;
      room = room;
      ring = most;
      least = least;
      leavers = ap length l;
      oldest = omega (arith, f, room);
      code = code;
    }

sizes_same : (b later : Pipeline) → SizesStay b later → sizes later ≡ sizes b
sizes_same b later e = λ i. record { ring = e.ring i; queue = e.queue i; first_tag = e.first_tag i }

code_same : (b later : Pipeline) → StandsForSome b → SizesStay b later → IsDecoded later.code.items later.program.now
code_same b later h e = subst (λ v. IsDecoded v.items later.program.now) (sym e.code) (subst (λ p. IsDecoded b.code.items p.now) (sym e.program) h.code)

-- the unit that steps have led to stands behind the later fields
pub unit_on : (b later : Pipeline) (V : UpdateUnit) → StandsForSome b → IsPlainlyReached b.program.now (sizes b) V → StandsFor later V → SizesStay b later →
    length later.leavers ≡ 32 → StandsForSome later
unit_on b later V h r stands e l =
    let s = sizes_same b later e in
    let r' : IsPlainlyReached later.program.now (sizes later) V = subst (λ C. IsPlainlyReached later.program.now C V) (sym s) (subst (λ p. IsPlainlyReached p.now (sizes b) V) (sym e.program) r) in
    record {
      unit = V;
      reached = r'.reached;
      plain = r'.plain;
      stands = stands;
      room = subst (λ n. 0 < n) (sym e.ring) h.room;
      ring = subst (λ n. n ≤ 32) (sym e.ring) h.ring;
      least = subst (λ n. 2 ≤ n) (sym e.queue) h.least;
      leavers = l;
      oldest = subst (λ n. n < later.ring) (sym stands.oldest) (mod-lt (how_many is_retired V.tenants) (subst (λ n. 0 < n) (sym e.ring) h.room));
      code = code_same b later h e;
    }

pub unit_next : (b later : Pipeline) (answer : Turn) → StandsForSome b → Moves b answer later → SizesStay b later →
    length later.leavers ≡ 32 → StandsForSome later
unit_next b later answer h t e l =
    let x = t h.unit h.reached h.stands in
    unit_on b later x.unit h (does_plain b.program.now (sizes b) h.unit x.unit answer x.does (record { reached = h.reached; plain = h.plain })) x.stands e l

-- what a retirement keeps
pub record IsKept (b later : Pipeline) : Type 0 where
  pub same : SizesStay b later
  pub leavers : length later.leavers ≡ length b.leavers

set_long : (xs : List (Option Leaver)) (k : ℕ) (v : Option Leaver) → length (slice_set xs k v) ≡ length xs
set_long xs k v = Rattle.std.proofs.Common.length-set xs k v

pub retires_keeps : (b later : Pipeline) (answer : Turn) → RetiresTo b (slice_get b.window 0) answer later → IsKept b later
retires_keeps b later answer to = grind (arith, common_steps, set_long)

-- the result of any turn
pub record Comes (b : Pipeline) (answer : Turn) (later : Pipeline) : Type 0 where
  pub falls : Falls answer b later
  pub unit : StandsForSome later
  pub same : SizesStay b later

pub same_rest : (b later : Pipeline) (W : List Station) → later ≡ record b { window = W } → SizesStay b later
same_rest b later W e = record { program = ap (λ x. x.program) e; code = ap (λ x. x.code) e; ring = ap (λ x. x.ring) e; queue = ap (λ x. x.queue) e; first_tag = ap (λ x. x.first_tag) e }
