-- What a claim knows of its tenant, which no step ends.
use Rattle.std.proofs.Common.{◌≡◌, ℕ, Bool, true, false, Option, Some, None, refl, sym, ap, ◌∙◌}
use Rattle.instructions.specs.declared.op.Half.{Half}
use Rattle.instructions.specs.declared.op.Kind.{Kind}
use Rattle.instructions.specs.declared.op.Kind.TheVariants.{Computes, Jumps, Links, Loads, Stores}
use Rattle.inorder.specs.declared.history.Source.{Source}
use Rattle.inorder.specs.declared.history.Source.TheVariants.{First, Second}
use Rattle.inorder.specs.declared.history.Step.{Step}
use Rattle.inorder.specs.Replies.{IsOpen}
use Rattle.inorder.specs.Tenants.{Tenant, missing_of, needs, operand_value}
use Rattle.inorder.proofs.Moves.{Goes}
use Rattle.ruu_words.specs.Content.{IsInfoOf}
use Rattle.ruu_words.specs.Kinds.{IsAny}
use Rattle.station.specs.Claiming.{SourceIs}

abbrev pub Stable : (Tenant → Type 0) → Type 0
Stable Fact = (by : ℕ) (step : Step) (t t' : Tenant) → Goes by step t t' → Fact t → Fact t'

-- an info word, of a tenant that is open
abbrev pub HasInfo : ℕ → Tenant → Type 0
HasInfo n t = IsOpen t → IsInfoOf t n

pub info_stable : (n : ℕ) → Stable (HasInfo n)
info_stable n by step t t' m i o =
    let x = i (m.opens o) in record { half = x.half ∙ sym m.half; index = x.index ∙ sym m.index; predicted = x.predicted ∙ sym m.predicted }

pub any_stable : Stable IsAny
any_stable by step t t' m i = tt

source_stable : (b : Bool) (k : Source) (v : ℕ) → Stable (SourceIs b k v)
source_stable true k v by step t t' m e = m.value k v e
source_stable false k v by step t t' m e = e

-- the instruction and the sources of a claimed tenant
pub record IsClaimable (d : Half) (i x : ℕ) (t : Tenant) : Type 0 where
  pub half_is : t.half ≡ d
  pub index_is : t.index ≡ i
  pub predicted_is : t.predicted ≡ x

pub claimable_stable : (d : Half) (i x : ℕ) → Stable (IsClaimable d i x)
claimable_stable d i x by step t t' m f = record { half_is = m.half ∙ f.half_is; index_is = m.index ∙ f.index_is; predicted_is = m.predicted ∙ f.predicted_is }

pub record HasFirst (d : Half) (i x a : ℕ) (t : Tenant) : Type 0 where
  pub its : IsClaimable d i x t
  pub first : t.first.value ≡ Some a

pub first_stable : (d : Half) (i x a : ℕ) → Stable (HasFirst d i x a)
first_stable d i x a by step t t' m f = record { its = claimable_stable d i x by step t t' m f.its; first = m.value First a f.first }

pub record HasBoth (d : Half) (i x a : ℕ) (both : Bool) (b : ℕ) (t : Tenant) : Type 0 where
  pub its : HasFirst d i x a t
  pub second : SourceIs both Second b t

pub both_stable : (d : Half) (i x a : ℕ) (both : Bool) (b : ℕ) → Stable (HasBoth d i x a both b)
both_stable d i x a both b by step t t' m f = record { its = first_stable d i x a by step t t' m f.its; second = source_stable both Second b by step t t' m f.second }

pub needs_first : (k : Kind) → needs k First ≡ true
needs_first Computes = refl
needs_first Jumps = refl
needs_first Links = refl
needs_first Loads = refl
needs_first Stores = refl

pub none_missing : (k : Kind) (a b : ℕ) (second : Option ℕ) (both : Bool) → needs k Second ≡ both → (both ≡ true → second ≡ Some b) → missing_of k (Some a) second ≡ None
none_missing k a b (Some w) both e f = refl
none_missing Computes a b None both e f = let x : None ≡ Some b = f (sym e) in absurd (cc x)
none_missing Jumps a b None both e f = let x : None ≡ Some b = f (sym e) in absurd (cc x)
none_missing Links a b None both e f = let x : None ≡ Some b = f (sym e) in absurd (cc x)
none_missing Loads a b None both e f = let x : None ≡ Some b = f (sym e) in absurd (cc x)
none_missing Stores a b None both e f = refl

pub second_there : (both : Bool) (b : ℕ) (t : Tenant) → SourceIs both Second b t → both ≡ true → t.second.value ≡ Some b
second_there true b t s e = s
second_there false b t s e = absurd (cc e)

pub second_needed : (both : Bool) (b : ℕ) (t : Tenant) → SourceIs both Second b t → Rattle.std.proofs.Common.cond both (operand_value t.second) 0 ≡ b
second_needed true b t s = ap (λ z. Rattle.std.specs.Prelude.unwrap_or z 0) s
second_needed false b t s = sym s
