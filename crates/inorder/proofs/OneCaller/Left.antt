-- Who has left, in a unit that has not ended.
use Rattle.std.proofs.Common.{◌≡◌, true, false, List, ◌∷◌, ◌++◌, refl, sym, ap, ◌∙◌, subst}
use Rattle.std.specs.List.{AllByRecursion}
use Rattle.instructions.specs.Programs.{Program}
use Rattle.inorder.specs.Committed.{ahead, commits, commits_by, committed}
use Rattle.inorder.specs.Steps.{IsNoRetiredStop}
use Rattle.inorder.specs.Tenants.{Addr, Busy, Done, Fate, Guessed, Live, Miss, Open, Retired, Stopped, Tenant, stands_on_path}
use Rattle.inorder.proofs.Commits.{live_not, not_complete, over, over_ahead}
use Rattle.inorder.proofs.SettledRegisters.{ahead_if, committed_if}
use Rattle.inorder.proofs.Sound.{IsSettled, IsSound, SettledBy}

-- a retired tenant that is no stop, and all before it, have left
pub retired_all : (P : Program) (t : Tenant) (ts : List Tenant) → IsSound P (t ∷ ts) → t.standing ≡ Retired → IsNoRetiredStop t → AllByRecursion IsSettled (t ∷ ts)
retired_all P t ts s e n = (here t.fate refl, (s.0.placed (ap stands_on_path e)).settled e)
  where
    go : (f : Fate) → t.fate ≡ f → SettledBy Retired f
    go Open q = tt
    go (Busy x) q = tt
    go (Addr x) q = tt
    go (Done x) q = tt
    go (Guessed x) q = tt
    go (Miss x) q = tt
    go (Stopped x) q = absurd (n e x q)

    here : (f : Fate) → t.fate ≡ f → SettledBy t.standing t.fate
    here f q = subst (λ x. SettledBy x t.fate) (sym e) (subst (SettledBy Retired) (sym q) (go f q))

pub retired_commits : (t : Tenant) → t.standing ≡ Retired → IsNoRetiredStop t → commits t ≡ true
retired_commits t e n = ap (λ s. commits_by s t.fate) e ∙ go t.fate refl
  where
    go : (f : Fate) → t.fate ≡ f → commits_by Retired f ≡ true
    go Open q = refl
    go (Busy x) q = refl
    go (Addr x) q = refl
    go (Done x) q = refl
    go (Guessed x) q = refl
    go (Miss x) q = refl
    go (Stopped x) q = absurd (n e x q)

-- nobody after a live tenant has committed
pub committed_middle : (P : Program) (ys : List Tenant) (t : Tenant) (ts : List Tenant) → t.standing ≡ Live → IsSound P (ys ++ t ∷ ts) → committed P (ys ++ t ∷ ts) ≡ committed P ts
committed_middle P ys t ts e s = over P t t ts ys e s ∙ committed_if P t ts false (not_complete P t (live_not t e))

-- nor left anything for a new tenant
pub ahead_middle : (P : Program) (ys : List Tenant) (t : Tenant) (ts : List Tenant) → t.standing ≡ Live → IsSound P (ys ++ t ∷ ts) → ahead P (ys ++ t ∷ ts) ≡ ahead P ts
ahead_middle P ys t ts e s = over_ahead P t t ts ys e s ∙ ahead_if P t ts false (live_not t e)
