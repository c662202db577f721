-- A front enters after a renewal, and where one was refused.
use Rattle.std.proofs.Common.{◌≡◌, ℕ, [], refl, ap, ◌∙◌, subst}
use Rattle.std.proofs.Math.Nat.{zero-mod}
use Rattle.instructions.specs.Programs.{Program}
use Rattle.inorder.specs.History.{front, unit_of}
use Rattle.inorder.specs.OneHistory.{Adds}
use Rattle.inorder.specs.Unit.{Sizes, next_station, recent}
use Rattle.station.specs.Seats.{Caller, TheCore}
use Rattle.front.specs.Stills.{RefusedFrontsEnter, RenewedFrontsEnter, next_at}
use Rattle.front.proofs.Splitting.{IsStable, stays}
use Rattle.front.proofs.Stays.{place_stays, quiet_of}

-- others leave where the next tenant goes
next_stable : (P : Program) (C : Sizes) (n : ℕ) → IsStable P C (λ U. next_station C (recent U) ≡ n)
next_stable P C n U by s b a ok e = place_stays P C U by s (quiet_of s b) a ok ∙ e

pub renewed_are_entered : RenewedFrontsEnter
renewed_are_entered core now old new r =
    let one = r.first.front_is in
    record {
      goes_on = record {
        by_is = ap (λ (z : Caller). z.by) one;
        program = ap (λ (z : Caller). z.core.program) one ∙ r.program;
        sizes = ap (λ (z : Caller). z.core.sizes) one ∙ r.sizes;
        last = r.last;
        adds = r.met.of_front;
        tenants = ap (λ (z : Caller). (unit_of z.core.program z.core.sizes z.seen).tenants) one ∙ (λ i. (unit_of (r.program i) (r.sizes i) (r.opening i)).tenants);
      };
      first = ap (λ (z : Caller). next_at z.core z.seen) one ∙ (ap (next_at now) r.opening ∙ zero-mod now.sizes.ring);
    }

pub refused_are_entered : RefusedFrontsEnter
refused_are_entered core now old new here by_is r =
    let later = r.met.front in
    let place : new.front.core ≡ core = later.same.core ∙ here in
    let mine : Adds core.program core.sizes front old.front.seen new.front.seen [] = subst (λ i. Adds core.program core.sizes i old.front.seen new.front.seen []) by_is later.adds in
    record {
      goes_on = record {
        by_is = later.same.by ∙ by_is;
        program = ap (λ (z : TheCore). z.program) place;
        sizes = ap (λ (z : TheCore). z.sizes) place;
        last = new.front.seen;
        adds = mine;
        tenants = ap (λ (z : TheCore). (unit_of z.program z.sizes new.front.seen).tenants) place;
      };
      next =
          ap (λ (z : TheCore). next_at z new.front.seen) place
          ∙ stays core.program core.sizes (λ U. next_station core.sizes (recent U) ≡ next_at core old.front.seen) (next_stable core.program core.sizes (next_at core old.front.seen)) old.front.seen
          new.front.seen mine refl;
    }
