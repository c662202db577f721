-- Where nothing has retired, nothing is committed.
use Rattle.std.proofs.Common.{◌≡◌, suc, ◌%◌, ◌&&◌, not, Bool, true, false, cond, List, [], ◌∷◌, None, refl, sym, ap, ◌∙◌, arith}
use Rattle.std.proofs.Math.Nat.{zero-mod}
use Rattle.instructions.specs.Programs.{Program}
use Rattle.inorder.specs.Callers.{is_retired, stands_retired}
use Rattle.inorder.specs.Committed.{ahead, commits, commits_by, committed}
use Rattle.inorder.specs.Machine.{start}
use Rattle.inorder.specs.Steps.{IsNoRetiredStop}
use Rattle.inorder.specs.Tenants.{Fate, Live, Retired, Squashed, Standing, Tenant, is_first}
use Rattle.inorder.specs.Unit.{how_many, recent, Sizes, UpdateUnit}
use Rattle.inorder.proofs.Positions.{all_at}
use Rattle.inorder.proofs.SettledRegisters.{ahead_if, committed_if}
use Rattle.std.specs.List.{AllByRecursion}
use Rattle.back.specs.Kept.{KeepsUnit}
use Rattle.inorder.proofs.Stations.{fewer_newest}

abbrev Not_retired : Tenant → Type 0
Not_retired t = is_retired t ≡ false

none_of : (ts : List Tenant) → how_many is_retired ts ≡ 0 → AllByRecursion Not_retired ts
none_of [] e = tt
none_of (t ∷ ts) e = go (is_retired t) refl e (none_of ts)
  where
    go : (b : Bool) → is_retired t ≡ b → cond b (suc (how_many is_retired ts)) (how_many is_retired ts) ≡ 0 → (how_many is_retired ts ≡ 0 → AllByRecursion Not_retired ts) →
        AllByRecursion Not_retired (t ∷ ts)
    go true q e more = absurd (omega arith)
    go false q e more = (q, more e)

commits_not : (st : Standing) (f : Fate) → stands_retired st ≡ false → commits_by st f ≡ false
commits_not Live f e = refl
commits_not Squashed f e = refl
commits_not Retired f e = absurd (cc e)

commits_none : (t : Tenant) → Not_retired t → commits t ≡ false
commits_none t h = commits_not t.standing t.fate h

committed_start : (P : Program) (ts : List Tenant) → AllByRecursion Not_retired ts → committed P ts ≡ start P
committed_start P [] h = refl
committed_start P (t ∷ ts) h = committed_if P t ts false (ap (λ b. b && not (is_first P t)) (commits_none t h.0)) ∙ committed_start P ts h.1

-- no first half waits either
ahead_start : (P : Program) (ts : List Tenant) → AllByRecursion Not_retired ts → ahead P ts ≡ start P
ahead_start P [] h = refl
ahead_start P (t ∷ ts) h = ahead_if P t ts false (commits_none t h.0) ∙ ahead_start P ts h.1

no_stop : (t : Tenant) → is_retired t ≡ false → IsNoRetiredStop t
no_stop t e gone c f = let x = sym (ap stands_retired gone) ∙ e in absurd (cc x)

pub starts : (P : Program) (C : Sizes) (U : UpdateUnit) → how_many is_retired U.tenants ≡ 0 → KeepsUnit P C U (start P) None 0 None
starts P C U e =
    let none = none_of U.tenants e in
    record {
      state_is = sym (committed_start P U.tenants none);
      low_is = sym (ahead_start P U.tenants none);
      head_is = let few = fewer_newest is_retired U.fresh U.tenants in let same : how_many is_retired (recent U) ≡ 0 = omega (arith, few, e) in sym (ap (λ n. n % C.ring) same ∙ zero-mod C.ring);
      end_is = λ p t is. no_stop t (all_at Not_retired U.tenants none p t is);
    }
