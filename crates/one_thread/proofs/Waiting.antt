-- Between two halves: what waits for LO is all that a new tenant finds besides what is committed.
use Rattle.std.proofs.Common.{arith}
use Rattle.std.proofs.lemmas.Grind.{common_steps}
use Rattle.std.proofs.Common.{rules, ◌≡◌, ℕ, suc, Bool, true, false, cond, List, [], ◌∷◌, ◌++◌, Option, None, refl, sym, ap, ◌∙◌, subst}
use Rattle.instructions.specs.Programs.{Program}
use Rattle.instructions.specs.Registers.{lo}
use Rattle.instructions.specs.declared.op.Half.TheVariants.{Low}
use Rattle.inorder.specs.Callers.{is_retired, stands_retired}
use Rattle.inorder.specs.Committed.{ahead, ahead_by, commits, commits_by, committed}
use Rattle.inorder.specs.Tenants.{Live, Retired, Standing, Tenant, destination_of, is_first}
use Rattle.inorder.specs.Unit.{how_many}
use Rattle.inorder.proofs.Commits.{live_not, not_complete}
use Rattle.inorder.proofs.Follows.{commits_retired}
use Rattle.inorder.proofs.Grows.{all_mid}
use Rattle.inorder.proofs.Halves.{completes_if, first_low, none_waits}
use Rattle.inorder.proofs.SettledRegisters.{ahead_if, committed_if, retired_on}
use Rattle.inorder.proofs.Sound.{IsSettled, IsSound, IsSoundAt, SettledBy}
use Rattle.one_thread.specs.Ahead.{low_after, low_of, waiting_half}
use Rattle.inorder.proofs.OneCaller.Alike.{AreAlike, IsAlike}
use Rattle.inorder.proofs.OneCaller.Recovery.{gone, gone_by, mended_to}

-- a first half writes LO
pub first_writes : (P : Program) (t : Tenant) → is_first P t ≡ true → destination_of P t ≡ lo
first_writes P t e = search rules

-- One tenant more

pub low_if : (P : Program) (t : Tenant) (ts : List Tenant) (b : Bool) → commits t ≡ b → low_of P (t ∷ ts) ≡ low_after b (is_first P t) t.made (low_of P ts)
low_if P t ts b e = ap (λ x. low_after x (is_first P t) t.made (low_of P ts)) e

pub low_first : (P : Program) (t : Tenant) (ts : List Tenant) (f : Bool) → commits t ≡ true → is_first P t ≡ f → low_of P (t ∷ ts) ≡ low_after true f t.made (low_of P ts)
low_first P t ts f e g = low_if P t ts true e ∙ ap (λ x. low_after true x t.made (low_of P ts)) g

-- a first half that has retired finds all before it committed
pub level : (P : Program) (t : Tenant) (ts : List Tenant) → IsSoundAt P ts t → t.standing ≡ Retired → is_first P t ≡ true → ahead P ts ≡ committed P ts
level P t ts s r f = search (rules, retired_on, none_waits, first_low)

-- what a new tenant finds
pub ahead_low : (P : Program) (ts : List Tenant) → IsSound P ts → ahead P ts ≡ ahead_by (low_of P ts) (committed P ts)
ahead_low P [] s = refl
ahead_low P (t ∷ ts) s = go (commits t) (is_first P t) refl refl (ahead_low P ts s.1)
  where
    Goal : Type 0
    Goal = ahead P (t ∷ ts) ≡ ahead_by (low_of P (t ∷ ts)) (committed P (t ∷ ts))

    go : (c f : Bool) → commits t ≡ c → is_first P t ≡ f → ahead P ts ≡ ahead_by (low_of P ts) (committed P ts) → Goal
    go false f e g more = grind (arith, common_steps, ahead_if, low_if, committed_if, not_complete)
    go true false e g more = grind (arith, common_steps, ahead_if, committed_if, completes_if, low_first)
    go true true e g more = grind (arith, common_steps, committed_if, completes_if, ahead_if, level, commits_retired, first_writes, low_first)

-- nothing waits where a first half comes next
pub none_low : (low : Option ℕ) → waiting_half low ≡ Low → low ≡ None
none_low low e = grind (arith, common_steps)

-- Two lists of tenants of which those that have retired are the same

pub record LeavesSame (P : Program) (us vs : List Tenant) : Type 0 where
  pub low : low_of P vs ≡ low_of P us
  pub retired : how_many is_retired vs ≡ how_many is_retired us

pub same_both : (P : Program) (us vs ws : List Tenant) → LeavesSame P us vs → LeavesSame P vs ws → LeavesSame P us ws
same_both P us vs ws a b = record { low = b.low ∙ a.low; retired = b.retired ∙ a.retired }

same_more : (P : Program) (y : Tenant) (us vs : List Tenant) → LeavesSame P us vs → LeavesSame P (y ∷ us) (y ∷ vs)
same_more P y us vs k = search rules

-- another tenant, and neither has retired
same_other : (P : Program) (t u : Tenant) (us : List Tenant) → commits t ≡ false → commits u ≡ false → is_retired t ≡ false → is_retired u ≡ false → LeavesSame P (t ∷ us) (u ∷ us)
same_other P t u us a b c d = search rules

-- a live tenant more
pub same_live : (P : Program) (t : Tenant) (ts : List Tenant) → t.standing ≡ Live → LeavesSame P ts (t ∷ ts)
same_live P t ts e = search rules

-- a live tenant changes, and stays live
pub same_put : (P : Program) (ys : List Tenant) (t u : Tenant) (ts : List Tenant) → t.standing ≡ Live → u.standing ≡ Live → LeavesSame P (ys ++ t ∷ ts) (ys ++ u ∷ ts)
same_put P [] t u ts a b = same_other P t u ts (live_not t a) (live_not u b) (ap stands_retired a) (ap stands_retired b)
same_put P (y ∷ ys) t u ts a b = same_more P y (ys ++ t ∷ ts) (ys ++ u ∷ ts) (same_put P ys t u ts a b)

-- those that are live are squashed
same_gone : (P : Program) (ys us : List Tenant) → LeavesSame P (ys ++ us) (gone ys ++ us)
same_gone P [] us = record { low = refl; retired = refl }
same_gone P (y ∷ ys) us = same_both P (y ∷ (ys ++ us)) (y ∷ (gone ys ++ us)) (gone_by y.standing y ∷ (gone ys ++ us))
    (same_more P y (ys ++ us) (gone ys ++ us) (same_gone P ys us)) (go y.standing refl)
  where
    rest : List Tenant
    rest = gone ys ++ us

    stay : gone_by y.standing y ≡ y → LeavesSame P (y ∷ rest) (gone_by y.standing y ∷ rest)
    stay e = subst (λ v. LeavesSame P (y ∷ rest) (v ∷ rest)) (sym e) (record { low = refl; retired = refl })

    go : (st : Standing) → y.standing ≡ st → LeavesSame P (y ∷ rest) (gone_by y.standing y ∷ rest)
    go st e = grind (arith, common_steps, stay, gone_by, rest, same_other, live_not)

-- a recovery
pub same_recover : (P : Program) (ys : List Tenant) (t : Tenant) (ts : List Tenant) (x : ℕ) → t.standing ≡ Live → LeavesSame P (ys ++ t ∷ ts) (gone ys ++ mended_to x t ∷ ts)
same_recover P ys t ts x e =
    same_both P (ys ++ t ∷ ts) (ys ++ mended_to x t ∷ ts) (gone ys ++ mended_to x t ∷ ts) (same_put P ys t (mended_to x t) ts e e) (same_gone P ys (mended_to x t ∷ ts))

-- tenants that differ in what was delivered
pub same_alike : (P : Program) (ts us : List Tenant) → AreAlike ts us → LeavesSame P ts us
same_alike P [] [] a = record { low = refl; retired = refl }
same_alike P [] (u ∷ us) a = absurd a
same_alike P (t ∷ ts) [] a = absurd a
same_alike P (t ∷ ts) (u ∷ us) a = go (same_alike P ts us a.1)
  where
    go : LeavesSame P ts us → LeavesSame P (t ∷ ts) (u ∷ us)
    go k =
        record {
          low =
              ap (λ s. low_after (commits_by s u.fate) (is_first P u) u.made (low_of P us)) a.0.standing
              ∙ ap (λ f. low_after (commits_by t.standing f) (is_first P u) u.made (low_of P us)) a.0.fate
              ∙ ap (λ f. low_after (commits t) f u.made (low_of P us)) (first_alike P t u a.0)
              ∙ ap (λ m. low_after (commits t) (is_first P t) m (low_of P us)) a.0.made
              ∙ ap (low_after (commits t) (is_first P t) t.made) k.low;
          retired =
              ap (λ s. cond (stands_retired s) (suc (how_many is_retired us)) (how_many is_retired us)) a.0.standing
              ∙ ap (λ n. cond (is_retired t) (suc n) n) k.retired;
        }
      where
        first_alike : (P : Program) (t u : Tenant) → IsAlike t u → is_first P u ≡ is_first P t
        first_alike P t u a = grind (arith, common_steps)

-- Nobody after a live tenant has retired

young : (P : Program) (t : Tenant) (ts ys : List Tenant) (y : Tenant) → t.standing ≡ Live → IsSoundAt P (ys ++ t ∷ ts) y → y.standing ≡ Retired → ⊥
young P t ts ys y live s r =
    subst (λ x. SettledBy x t.fate) live (all_mid IsSettled t ts ys ((s.placed (retired_on y r)).settled r))

pub low_over : (P : Program) (t u : Tenant) (ts ys : List Tenant) → t.standing ≡ Live → IsSound P (ys ++ t ∷ ts) → low_of P (ys ++ u ∷ ts) ≡ low_of P (u ∷ ts)
low_over P t u ts [] live s = refl
low_over P t u ts (y ∷ ys) live s = go (commits y) refl (low_over P t u ts ys live s.1)
  where
    go : (b : Bool) → commits y ≡ b → low_of P (ys ++ u ∷ ts) ≡ low_of P (u ∷ ts) → low_of P (y ∷ (ys ++ u ∷ ts)) ≡ low_of P (u ∷ ts)
    go b e more = grind (arith, common_steps, low_if, young, commits_retired)

pub retired_over : (P : Program) (t u : Tenant) (ts ys : List Tenant) → t.standing ≡ Live → IsSound P (ys ++ t ∷ ts) → how_many is_retired (ys ++ u ∷ ts) ≡ how_many is_retired (u ∷ ts)
retired_over P t u ts [] live s = refl
retired_over P t u ts (y ∷ ys) live s = go y.standing refl (retired_over P t u ts ys live s.1)
  where
    rest : ℕ
    rest = how_many is_retired (ys ++ u ∷ ts)

    off : (st : Standing) → y.standing ≡ st → stands_retired st ≡ false → rest ≡ how_many is_retired (u ∷ ts) → how_many is_retired (y ∷ (ys ++ u ∷ ts)) ≡ how_many is_retired (u ∷ ts)
    off st e n more = ap (λ s. cond (stands_retired s) (suc rest) rest) e ∙ ap (λ b. cond b (suc rest) rest) n ∙ more

    go : (st : Standing) → y.standing ≡ st → rest ≡ how_many is_retired (u ∷ ts) → how_many is_retired (y ∷ (ys ++ u ∷ ts)) ≡ how_many is_retired (u ∷ ts)
    go st e more = grind (arith, common_steps, off, young)
