-- What a register is worth, by its youngest writer.
use Rattle.std.proofs.lemmas.Grind.{common_steps}
use Rattle.std.proofs.Common.{◌≡◌, ◌≢◌, ◌<◌, ◌-◌, ℕ, ◌+◌, true, cond, List, [], ◌∷◌, ◌++◌, take, Option, Some, refl, sym, ap, ◌∙◌, arith, eq-eqb, ne_eqb}
use Rattle.std.specs.Prelude.{slice_get, slice_index}
use Rattle.std.proofs.lemmas.Bool.{le-leb}
use Rattle.inorder.specs.Unit.{can_be_written}
use Rattle.one_thread.specs.declared.station.Station.{Station}
use Rattle.one_thread.specs.Window.{register_after, register_in, source_in}
use Rattle.one_thread.proofs.Scan.{register_step}

written : (r : ℕ) → r ≢ 0 → r < 34 → can_be_written r ≡ true
written r n l = grind (arith, common_steps, le-leb)

pub source_by : (registers : List ℕ) (W : List Station) (r : ℕ) → r ≢ 0 → r < 34 → source_in registers W r ≡ register_in r (Some (slice_index registers r)) W
source_by registers W r n l = ap (λ b. cond b (register_in r (Some (slice_index registers r)) W) (Some 0)) (written r n l)

one_back : (r : ℕ) (v : Option ℕ) (W : List Station) (j : ℕ) → 0 < j → register_in r v (take j W) ≡ register_after r (register_in r v (take (j - 1) W)) (slice_get W (j - 1))
one_back r v W j h = let same : j - 1 + 1 ≡ j = omega arith in sym (ap (λ k. register_in r v (take k W)) same) ∙ register_step r v W (j - 1)

-- the youngest writer is found
pub source_found : (r : ℕ) (v : Option ℕ) (W : List Station) (j : ℕ) (w : Station) → 0 < j → slice_get W (j - 1) ≡ Some w → w.destination ≡ r →
    register_in r v (take j W) ≡ register_after r v (Some w)
source_found r v W j w h e same = grind (arith, common_steps, one_back, eq-eqb)

-- another tenant is passed over
pub source_passed : (r : ℕ) (v : Option ℕ) (W : List Station) (j : ℕ) (w : Station) → 0 < j → slice_get W (j - 1) ≡ Some w → w.destination ≢ r →
    register_in r v (take j W) ≡ register_in r v (take (j - 1) W)
source_passed r v W j w h e apart = grind (arith, common_steps, one_back, ne_eqb)

-- what a tenant with this register as its destination has made is read after it
pub source_made : (r : ℕ) (v : Option ℕ) (w : Station) → w.destination ≡ r → register_after r v (Some w) ≡ w.made
source_made r v w same = grind (arith, common_steps, eq-eqb)

behind : (r : ℕ) (v : Option ℕ) (older younger : List Station) → register_in r v (older ++ younger) ≡ register_in r (register_in r v older) younger
behind r v [] younger = refl
behind r v (w ∷ ws) younger = behind r (register_after r v (Some w)) ws younger

-- older tenants, and those after them
pub source_behind : (registers : List ℕ) (W older younger : List Station) (r : ℕ) → r ≢ 0 → r < 34 → older ++ younger ≡ W →
    source_in registers W r ≡ register_in r (register_in r (Some (slice_index registers r)) older) younger
source_behind registers W older younger r n l whole = source_by registers W r n l ∙ sym (ap (register_in r (Some (slice_index registers r))) whole) ∙ behind r (Some (slice_index registers r)) older younger
