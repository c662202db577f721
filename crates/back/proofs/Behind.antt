-- A back enters after a renewal, and where one was refused.
use Rattle.std.proofs.Common.{◌≡◌, [], ap, ◌∙◌, subst}
use Rattle.std.proofs.Math.Nat.{zero-mod}
use Rattle.inorder.specs.History.{back, unit_of}
use Rattle.inorder.specs.OneHistory.{Adds}
use Rattle.station.specs.Seats.{Caller, TheCore}
use Rattle.back.specs.Backs.{unit_in}
use Rattle.back.specs.Stills.{RefusedBacksEnter, RenewedBacksEnter, head_at}
use Rattle.back.proofs.Answering.{head_same}

pub renewed_are_entered : RenewedBacksEnter
renewed_are_entered core now old new r =
    let one = r.first.back_is in
    record {
      goes_on = record {
        by_is = ap (λ (z : Caller). z.by) one;
        program = ap (λ (z : Caller). z.core.program) one ∙ r.program;
        sizes = ap (λ (z : Caller). z.core.sizes) one ∙ r.sizes;
        last = r.last;
        adds = r.met.of_back;
        tenants = ap (λ (z : Caller). (unit_in z.core z.seen).tenants) one ∙ (λ i. (unit_of (r.program i) (r.sizes i) (r.opening i)).tenants);
      };
      first = ap (λ (z : Caller). head_at z.core z.seen) one ∙ (ap (head_at now) r.opening ∙ zero-mod now.sizes.ring);
    }

pub refused_are_entered : RefusedBacksEnter
refused_are_entered core now old new here by_is r =
    let later = r.met.back in
    let place : new.back.core ≡ core = later.same.core ∙ here in
    let mine : Adds core.program core.sizes back old.back.seen new.back.seen [] = subst (λ i. Adds core.program core.sizes i old.back.seen new.back.seen []) by_is later.adds in
    record {
      goes_on = record {
        by_is = later.same.by ∙ by_is;
        program = ap (λ (z : TheCore). z.program) place;
        sizes = ap (λ (z : TheCore). z.sizes) place;
        last = new.back.seen;
        adds = mine;
        tenants = ap (λ (z : TheCore). (unit_in z new.back.seen).tenants) place;
      };
      head = ap (λ (z : TheCore). head_at z new.back.seen) place ∙ head_same core.program core.sizes old.back.seen new.back.seen mine;
    }
