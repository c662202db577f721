-- After a tenant that writes another register a source is what it was before.
use Rattle.std.proofs.Common.{◌≡◌, ℕ, true, false, Bool, cond, ◌&&◌, eqb, List, ◌∷◌, length, Some, None, refl, sym, ap, ◌∙◌, subst, eqb-true}
use Rattle.instructions.specs.Programs.{Program}
use Rattle.inorder.specs.Tenants.{Tenant, destination_of, on_path}
use Rattle.inorder.specs.Unit.{can_be_written, creator, last_writer, value_of}
use Rattle.inorder.proofs.Basics.{Below, last_writer_below, value_of_more}

below_creator : (P : Program) (ts : List Tenant) (r : ℕ) → Below (creator P ts r) (length ts)
below_creator P ts r = go (can_be_written r)
  where
    go : (c : Bool) → Below (cond c (last_writer P ts r) None) (length ts)
    go true = last_writer_below P ts r
    go false = tt

pub source_after : (P : Program) (t : Tenant) (ts : List Tenant) (r : ℕ) → (destination_of P t ≡ r → r ≡ 0) → value_of (t ∷ ts) (creator P (t ∷ ts) r) ≡ value_of ts (creator P ts r)
source_after P t ts r other = ap (value_of (t ∷ ts)) (go (on_path t) (eqb (destination_of P t) r) refl refl) ∙ value_of_more t ts (creator P ts r) (below_creator P ts r)
  where
    go : (on equal : Bool) → on_path t ≡ on → eqb (destination_of P t) r ≡ equal → creator P (t ∷ ts) r ≡ creator P ts r
    go on true o e = subst (λ z. creator P (t ∷ ts) z ≡ creator P ts z) (sym (other (eqb-true (destination_of P t) r e))) refl
    go true false o e = λ j. cond (can_be_written r) (cond (o j && e j) (Some (length ts)) (last_writer P ts r)) None
    go false false o e = λ j. cond (can_be_written r) (cond (o j && e j) (Some (length ts)) (last_writer P ts r)) None
