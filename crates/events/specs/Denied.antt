-- What an event says itself, and the reasons that deny it.
use Rattle.std.specs.Prelude.{⊤, ◌≡◌, ◌≢◌, ℕ, List, Option, Some, None, IsSome, IsSomeAnd}
use Rattle.instructions.specs.Programs.{Program, instr_at}
use Rattle.replay.specs.declared.dispatch.NoLet.{NoLet as Reason}
use Rattle.replay.specs.declared.dispatch.NoLet.TheVariants.{OtherNext, OtherPc}
use Rattle.replay.specs.declared.tenant.Tenant.{Tenant}
use Rattle.replay.specs.declared.unit.Unit.{Unit as Held}
use Rattle.events.specs.declared.event.Event.{Event}
use Rattle.events.specs.declared.event.Event.TheVariants.{Let as ToldLet, From as ToldFrom, Begin as ToldBegin, End as ToldEnd, Execute as ToldExecute, Read as ToldRead, Load as ToldLoad, Complete as ToldComplete, Retire as ToldRetire, Squash as ToldSquash, Mend as ToldMend, Recover as ToldRecover}
use Rattle.events.specs.declared.why.Why.{Why}
use Rattle.events.specs.declared.why.Why.TheVariants.{Let as NoLet, NoInstruction, Act as NoAct, Gone, NotLet, OtherProducer, OtherValue, NoValue, Nobody}
use Rattle.events.specs.Told.{CanRead, LeftIs, OutcomeIs, RetiresAt}

-- The reason is that an act is not allowed
abbrev pub IsOfAct : Why → Type 0
IsOfAct (NoAct p deed reason) = ⊤
IsOfAct _ = ⊥

-- The reason is that nothing is known of this position
abbrev pub IsUnknown : ℕ → Why → Type 0
IsUnknown p (NotLet q) = q ≡ p
IsUnknown p (Gone q) = q ≡ p
IsUnknown p _ = ⊥

-- A pc, a predicted next pc or a value is said, and is another one than this
abbrev pub IsOther : Option ℕ → ℕ → Type 0
IsOther said is = IsSomeAnd said (λ x. x ≢ is)

-- The reason denies the pc or the predicted next pc of a let, where it speaks of one
abbrev pub DeniesPath : (pc next : Option ℕ) → Reason → Type 0
DeniesPath pc next (OtherPc front) = IsOther pc front
DeniesPath pc next (OtherNext after) = IsOther next after
DeniesPath pc next _ = ⊤

-- The reason denies a let
abbrev pub DeniesLet : Program → (pc next : Option ℕ) → Why → Type 0
DeniesLet P pc next (NoLet reason) = DeniesPath pc next reason
DeniesLet P pc next (NoInstruction front) = instr_at P front ≡ None
DeniesLet P pc next _ = ⊥

-- The sources of the tenant at position p have these producers, of which none is q
pub record AreOthers (p q r : ℕ) (a b : Option ℕ) : Type 0 where
  pub named : r ≡ p
  pub first : a ≢ Some q
  pub second : b ≢ Some q

-- The reason denies that a source of the tenant at position p comes from q
abbrev pub DeniesProducer : (p q : ℕ) → Why → Type 0
DeniesProducer p q (OtherProducer r a b) = AreOthers p q r a b
DeniesProducer p q why = IsUnknown p why

-- The tenant at position p, which an event names, has the value v, and another one is said
pub record HasOther (Names : ℕ → Type 0) (Has : ℕ → Option ℕ → Type 0) (said : Option ℕ) (p v : ℕ) : Type 0 where
  pub named : Names p
  pub has : Has p (Some v)
  pub other : IsOther said v

-- The tenant at position p has no value, and one is said
pub record HasNone (Names : ℕ → Type 0) (Has : ℕ → Option ℕ → Type 0) (said : Option ℕ) (p : ℕ) : Type 0 where
  pub named : Names p
  pub has : Has p None
  pub stated : IsSome said

-- The reason denies a value of the tenant that an event names
abbrev pub DeniesValue : (Names : ℕ → Type 0) (Has : ℕ → Option ℕ → Type 0) (said : Option ℕ) → Why → Type 0
DeniesValue Names Has said (NoAct p deed reason) = ⊤
DeniesValue Names Has said (OtherValue p v) = HasOther Names Has said p v
DeniesValue Names Has said (NoValue p) = HasNone Names Has said p
DeniesValue Names Has said (NotLet p) = Names p
DeniesValue Names Has said (Gone p) = Names p
DeniesValue Names Has said _ = ⊥

-- The reason denies the outcome that is said of the tenant at position p
abbrev pub DeniesOutcome : List Tenant → (p : ℕ) (said : Option ℕ) → Why → Type 0
DeniesOutcome hs p said why = DeniesValue (λ q. q ≡ p) (OutcomeIs hs) said why

-- The reason denies the value that is said of the load at position p, which can have another one now
abbrev pub DeniesRead : Held → (p : ℕ) (said : Option ℕ) → Why → Type 0
DeniesRead u p said why = DeniesValue (λ q. q ≡ p) (λ q there. IsSomeAnd there (CanRead u q)) said why

-- The reason denies what is said to be left by the tenant that retires as u becomes v
abbrev pub DeniesRetire : Held → (who said : Option ℕ) → Held → Why → Type 0
DeniesRetire u who said v Nobody = who ≡ None
DeniesRetire u who said v why = DeniesValue (λ p. RetiresAt u who p v) (LeftIs v) said why

-- The reason denies that the youngest, or the tenant that is named, is squashed
abbrev pub DeniesSquash : (who : Option ℕ) → Why → Type 0
DeniesSquash who Nobody = who ≡ None
DeniesSquash who why = IsOfAct why

-- The reason denies what an event says of its tenant, or of the path, as it makes the steps from u to v
abbrev pub Denies : Held → Event → Held → Why → Type 0
Denies u (ToldLet pc next) v why = DeniesLet v.program.now pc next why
Denies u (ToldFrom p q) v why = DeniesProducer p q why
Denies u (ToldBegin p) v why = IsOfAct why
Denies u (ToldEnd p x) v why = DeniesOutcome v.tenants.items p x why
Denies u (ToldExecute p x) v why = DeniesOutcome v.tenants.items p x why
Denies u (ToldRead p x) v why = DeniesRead v p x why
Denies u (ToldLoad p x) v why = DeniesOutcome v.tenants.items p x why
Denies u (ToldComplete p x) v why = DeniesOutcome v.tenants.items p x why
Denies u (ToldRetire who x) v why = DeniesRetire u who x v why
Denies u (ToldSquash who) v why = DeniesSquash who why
Denies u (ToldMend p) v why = IsOfAct why
Denies u (ToldRecover p) v why = IsOfAct why
