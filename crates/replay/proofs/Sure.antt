-- Bytes that no store can still change.
use Rattle.std.proofs.Common.{◌≡◌, ℕ, ◌≤◌, Bool, true, false, cond, ◌&&◌, List, [], ◌∷◌, take, Option, Some, None, refl, sym, ap, ◌∙◌}
use Rattle.std.specs.Prelude.{slice_index}
use Rattle.instructions.specs.Programs.{Program}
use Rattle.instructions.specs.declared.op.Kind.{Kind}
use Rattle.inorder.specs.Memory.{byte_after, byte_at, lacks_address_by, stored, sure_byte_at}
use Rattle.inorder.specs.Tenants.{Fate, Live, Retired, Squashed, Standing, Tenant, kind_of, stands_live}
use Rattle.inorder.specs.Unit.{at}
use Rattle.inorder.proofs.Positions.{at_more, at_new}
use Rattle.replay.specs.declared.settled.Settled.{Settled}
use Rattle.replay.specs.declared.tenant.Tenant.{Tenant as Held}
use Rattle.replay.specs.Bytes.{byte_by, byte_more}
use Rattle.replay.specs.Settlement.{IsSettled}
use Rattle.replay.specs.Shown.{shown}
use Rattle.replay.proofs.Settlement.{none_live}

-- one tenant more
pub by_more : (b : Bool) (P : Program) (t : Tenant) (ts : List Tenant) (x : ℕ) → byte_more b P t x (byte_by b P ts x) ≡ byte_by b P (t ∷ ts) x
by_more false P t ts x = refl
by_more true P t ts x = refl

not_live : (st : Standing) (k : Kind) (f : Fate) → stands_live st ≡ false → lacks_address_by st k f ≡ false
not_live Live k f e = absurd (Rattle.std.proofs.Common.true≢false e)
not_live Retired k f e = refl
not_live Squashed k f e = refl

-- where nobody is in flight
none_changes : (P : Program) (ts : List Tenant) (x : ℕ) → ((q : ℕ) (t : Tenant) → at ts q ≡ Some t → stands_live t.standing ≡ false) →
    sure_byte_at P ts x ≡ byte_at P ts x
none_changes P [] x never = refl
none_changes P (t ∷ ts) x never =
    ap (λ b. cond b None (byte_after (stored P t) x (sure_byte_at P ts x)))
    (not_live t.standing (kind_of P t) t.fate (never (Rattle.std.proofs.Common.length ts) t (at_new t ts)))
    ∙ ap (byte_after (stored P t) x) (none_changes P ts x (λ q u e. never q u (at_more t ts q u e)))

pub by_settled : (b : Bool) (P : Program) (hs : List Held) (s : Settled) (x : ℕ) → IsSettled P hs s →
    Some (slice_index s.memory.items x) ≡ byte_by b P (shown (take s.upto hs)) x
by_settled false P hs s x is = sym (is.bytes x)
by_settled true P hs s x is =
    sym (is.bytes x) ∙ sym (none_changes P (shown (take s.upto hs)) x (λ q t e. none_live P hs s q t is e))
