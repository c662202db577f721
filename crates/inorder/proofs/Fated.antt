-- What the fate of a tenant of a sound unit says.
use Rattle.std.proofs.Common.{◌≡◌, ◌≢◌, ℕ, List, Option, Some, None, refl, subst}
use Rattle.instructions.specs.Programs.{Program}
use Rattle.instructions.specs.declared.op.Kind.{Kind}
use Rattle.instructions.specs.declared.op.Kind.TheVariants.{Computes, Jumps, Links, Loads, Stores}
use Rattle.inorder.specs.Fates.{DoneSays, FateSays, FatesFollow, FollowsFrom, WasClaimed}
use Rattle.inorder.specs.Legal.{Taken, reached}
use Rattle.inorder.specs.Tenants.{Addr, Busy, Done, Fate, Guessed, Miss, Open, Stopped, Tenant, kind_of, missing_of}
use Rattle.inorder.specs.Unit.{Sizes, older, younger}
use Rattle.inorder.proofs.Basics.{split_at}
use Rattle.inorder.proofs.Theorem.DeliveryKept.{no_first, no_second}
use Rattle.inorder.proofs.Grows.{sound_mid}
use Rattle.inorder.proofs.Kept.{sound}
use Rattle.inorder.proofs.SettledRegisters.{next_done}
use Rattle.inorder.proofs.Sound.{DoneIs, FateIs, IsOwn, IsSound, Needs}

done_says : (P : Program) (t : Tenant) (v : ℕ) (k : Kind) → DoneIs P t v k → DoneSays P t v k
done_says P t v Computes d = d
done_says P t v Jumps d = d.0
done_says P t v Links d = (d.0, d.2)
done_says P t v Loads d = d
done_says P t v Stores d = d

-- one that has what it needs misses nothing
none_missing : (k : Kind) (a b : Option ℕ) → Needs k a b → missing_of k a b ≡ None
none_missing k None b n = absurd (no_first k b n)
none_missing Stores (Some a) None n = refl
none_missing Stores (Some a) (Some b) n = refl
none_missing Computes (Some a) (Some b) n = refl
none_missing Jumps (Some a) (Some b) n = refl
none_missing Links (Some a) (Some b) n = refl
none_missing Loads (Some a) (Some b) n = refl
none_missing Computes (Some a) None n = absurd (no_second Computes (Some a) (λ e. absurd (cc)) n)
none_missing Jumps (Some a) None n = absurd (no_second Jumps (Some a) (λ e. absurd (cc)) n)
none_missing Links (Some a) None n = absurd (no_second Links (Some a) (λ e. absurd (cc)) n)
none_missing Loads (Some a) None n = absurd (no_second Loads (Some a) (λ e. absurd (cc)) n)

claimed_needs : (P : Program) (t : Tenant) (f : Fate) → WasClaimed f → FateIs P t f →
    Needs (kind_of P t) t.first.value t.second.value
claimed_needs P t Open n h = absurd n
claimed_needs P t (Busy by) n h = h.2
claimed_needs P t (Addr a) n h = h.2
claimed_needs P t (Done v) n h = h.1
claimed_needs P t (Guessed x) n h = absurd n
claimed_needs P t (Miss x) n h = h.2
claimed_needs P t (Stopped c) n h = h.2

fate_says : (P : Program) (ts : List Tenant) (t : Tenant) → IsOwn P ts t → FateSays P t
fate_says P ts t own =
    record {
      address = λ a e. (subst (FateIs P t) e own.fate).1;
      done = λ v e. done_says P t v (kind_of P t) (subst (FateIs P t) e own.fate).0;
      goes_on = λ v e. next_done P t v (kind_of P t) refl own.goes_on (subst (FateIs P t) e own.fate).0;
      miss = λ x e. (subst (FateIs P t) e own.fate).1;
      stop = λ c e. (subst (FateIs P t) e own.fate).1;
      claimed =
          λ n. none_missing (kind_of P t) t.first.value t.second.value (claimed_needs P t t.fate n own.fate);
    }

pub follows_from : (P : Program) (ts : List Tenant) (t : Tenant) → IsOwn P ts t → FollowsFrom P ts t
follows_from P ts t own =
    record {
      fate = fate_says P ts t own;
      first = own.first;
      second = own.second;
      pc = own.place;
      inside = own.inside;
    }

pub fates_follow : (P : Program) (C : Sizes) (history : List Taken) → FatesFollow P C history
fates_follow P C history p t a e =
    let ts = (reached P C history).tenants in
    follows_from P (older ts p) t (sound_mid P t (older ts p) (younger ts p)
    (subst (IsSound P) (split_at ts p t e) (sound P C history a))).own
