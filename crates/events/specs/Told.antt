-- Which steps of the unit an event tells, and why one is refused.
use Rattle.std.specs.Prelude.{⊤, ◌≡◌, ◌≢◌, ◌⊎◌, ℕ, ◌<◌, List, [], ◌∷◌, Option, Some, None, IfSome, slice_get}
use Rattle.std.specs.List.{AllByRecursion}
use Rattle.instructions.specs.Programs.{address}
use Rattle.instructions.specs.declared.op.Kind.{Kind}
use Rattle.instructions.specs.declared.op.Kind.TheVariants.{Stores}
use Rattle.inorder.specs.Legal.{MayAct}
use Rattle.inorder.specs.Tenants.{Live, kind_of}
use Rattle.inorder.specs.Unit.{front_pc}
use Rattle.replay.specs.declared.acting.Deed.{Deed}
use Rattle.replay.specs.declared.acting.Deed.TheVariants.{Claim, Confirm, Finish, Flush, Guess, Load, Mend, Retire, Squash}
use Rattle.replay.specs.declared.step.Step.{Step}
use Rattle.replay.specs.declared.step.Step.TheVariants.{Let, On}
use Rattle.replay.specs.declared.tenant.Fate.{Fate}
use Rattle.replay.specs.declared.tenant.Fate.TheVariants.{Addr, Done, Guessed, Miss}
use Rattle.replay.specs.declared.tenant.Tenant.{Tenant}
use Rattle.replay.specs.declared.unit.Unit.{Unit as Held}
use Rattle.replay.specs.Lets.{IsNoLet}
use Rattle.replay.specs.Reasons.{Is, IsHeldLive, IsLoadValue, Reason as ActReason, act_of, held}
use Rattle.replay.specs.declared.dispatch.NoLet.{NoLet as Reason}
use Rattle.replay.specs.declared.dispatch.NoLet.TheVariants.{OtherPc}
use Rattle.replay.specs.Shown.{shown, tenant_of}
use Rattle.events.specs.declared.event.Event.{Event}
use Rattle.events.specs.declared.event.Event.TheVariants.{Let as ToldLet, From as ToldFrom, Begin as ToldBegin, End as ToldEnd, Execute as ToldExecute, Read as ToldRead, Load as ToldLoad, Complete as ToldComplete, Retire as ToldRetire, Squash as ToldSquash, Mend as ToldMend, Recover as ToldRecover}
use Rattle.events.specs.declared.why.Why.{Why}
use Rattle.events.specs.declared.why.Why.TheVariants.{Let as NoLet, NoInstruction, Act as NoAct, Gone, NotLet, OtherProducer, OtherValue, NoValue, Nobody}
use Rattle.events.specs.Following.{Follows}

-- A step of the execution of the tenant at position p
abbrev pub IsExecution : ℕ → Step → Type 0
IsExecution p (On q Claim) = q ≡ p
IsExecution p (On q Finish) = q ≡ p
IsExecution p (On q Load) = q ≡ p
IsExecution p (On q (Guess v)) = q ≡ p
IsExecution p _ = ⊥

-- Steps of its execution
abbrev pub AreExecution : ℕ → List Step → Type 0
AreExecution p ss = AllByRecursion (IsExecution p) ss

-- A tenant after position p is squashed
abbrev pub IsSquashAfter : ℕ → Step → Type 0
IsSquashAfter p (On q Squash) = p < q
IsSquashAfter p _ = ⊥

-- The instruction that is let has the pc and the predicted next pc that are stated
pub record IsLet (pc next : Option ℕ) (ss : List Step) : Type 0 where
  pub index : ℕ
  pub predicted : ℕ
  pub is : ss ≡ Let index predicted ∷ []
  pub at : IfSome pc (λ x. x ≡ address index)
  pub goes : IfSome next (λ x. x ≡ predicted)

-- A tenant retires, with its guess confirmed before if it has one
pub record IsRetire (who : Option ℕ) (ss : List Step) : Type 0 where
  pub p : ℕ
  pub named : IfSome who (λ q. q ≡ p)
  pub is : (ss ≡ On p Retire ∷ []) ⊎ (ss ≡ On p Retire ∷ On p Confirm ∷ [])

-- A tenant is squashed, or flushed
pub record IsSquash (who : Option ℕ) (ss : List Step) : Type 0 where
  pub p : ℕ
  pub named : IfSome who (λ q. q ≡ p)
  pub is : (ss ≡ On p Squash ∷ []) ⊎ (ss ≡ On p Flush ∷ [])

-- Younger tenants are squashed, and then the misprediction is mended
pub record IsRecover (p : ℕ) (ss : List Step) : Type 0 where
  pub squashes : List Step
  pub is : ss ≡ On p Mend ∷ squashes
  pub are : AllByRecursion (IsSquashAfter p) squashes

-- The steps that an event says, the last one first
abbrev pub Says : Event → List Step → Type 0
Says (ToldLet pc next) ss = IsLet pc next ss
Says (ToldFrom p q) ss = ss ≡ []
Says (ToldBegin p) ss = ss ≡ On p Claim ∷ []
Says (ToldEnd p x) ss = ss ≡ On p Finish ∷ []
Says (ToldExecute p x) ss = AreExecution p ss
Says (ToldRead p x) ss = ss ≡ []
Says (ToldLoad p x) ss = AreExecution p ss
Says (ToldComplete p x) ss = AreExecution p ss
Says (ToldRetire who x) ss = IsRetire who ss
Says (ToldSquash who) ss = IsSquash who ss
Says (ToldMend p) ss = ss ≡ On p Mend ∷ []
Says (ToldRecover p) ss = IsRecover p ss

-- The value with which execution has ended
abbrev pub outcome_of : Fate → Option ℕ
outcome_of (Done v) = Some v
outcome_of (Miss v) = Some v
outcome_of (Addr v) = Some v
outcome_of (Guessed v) = Some v
outcome_of _ = None

-- The outcome of the tenant at a position is this value, or there is none
pub record OutcomeIs (hs : List Tenant) (p : ℕ) (there : Option ℕ) : Type 0 where
  pub tenant : Tenant
  pub is : slice_get hs p ≡ Some tenant
  pub value : outcome_of tenant.fate ≡ there

-- The execution of the tenant at a position has ended with this value
abbrev pub HasOutcome : List Tenant → ℕ → ℕ → Type 0
HasOutcome hs p v = OutcomeIs hs p (Some v)

-- What a tenant leaves as it retires: the data of a store, or what it has made
abbrev pub left_by : Kind → (second made : Option ℕ) → Option ℕ
left_by Stores second made = second
left_by _ second made = made

-- The tenant at a position has left this value, or none
pub record LeftIs (u : Held) (p : ℕ) (there : Option ℕ) : Type 0 where
  pub tenant : Tenant
  pub is : slice_get u.tenants.items p ≡ Some tenant
  pub value : left_by (kind_of u.program.now (tenant_of tenant)) tenant.second.value tenant.made ≡ there

-- The tenant at a position has left this value
abbrev pub HasLeft : Held → ℕ → ℕ → Type 0
HasLeft u p v = LeftIs u p (Some v)

-- The load at a position can have this value now
pub record CanRead (u : Held) (p v : ℕ) : Type 0 where
  pub may : MayAct u.program.now (shown u.tenants.items) 0 p (act_of Load)
  pub value : IsLoadValue u.program.now (shown u.tenants.items) p v

-- The load at a position can have its value now, which is the one that is said
pub record Reads (u : Held) (p : ℕ) (said : Option ℕ) : Type 0 where
  pub value : ℕ
  pub can : CanRead u p value
  pub is : IfSome said (λ x. x ≡ value)

-- A tenant is squashed so
abbrev pub IsSquashing : Deed → Type 0
IsSquashing deed = (deed ≡ Squash) ⊎ (deed ≡ Flush)

-- One of the sources of the tenant at a position comes from q
pub record ComesFrom (hs : List Tenant) (p q : ℕ) : Type 0 where
  pub tenant : Tenant
  pub is : slice_get hs p ≡ Some tenant
  pub creates : (tenant.first.creator ≡ Some q) ⊎ (tenant.second.creator ≡ Some q)

-- Legal steps of the execution of the tenant at position p lead from a unit to a later one
pub record Executes (u : Held) (p : ℕ) (v : Held) : Type 0 where
  pub told : List Step
  pub follows : Follows u told v
  pub are : AreExecution p told

-- An instruction is let
pub record Lets (u : Held) (pc next : Option ℕ) (v : Held) : Type 0 where
  pub told : List Step
  pub follows : Follows u told v
  pub is : IsLet pc next told

-- The guess of the tenant at position p is confirmed, if it has one
abbrev pub IsConfirm : ℕ → List Step → Type 0
IsConfirm p ss = (ss ≡ []) ⊎ (ss ≡ On p Confirm ∷ [])

pub record Confirms (u : Held) (p : ℕ) (v : Held) : Type 0 where
  pub told : List Step
  pub follows : Follows u told v
  pub is : IsConfirm p told

-- A tenant retires
pub record Retires (u : Held) (who : Option ℕ) (v : Held) : Type 0 where
  pub told : List Step
  pub follows : Follows u told v
  pub is : IsRetire who told

-- The tenant at position p retires: the one that is named, or the oldest
pub record RetiresAt (u : Held) (who : Option ℕ) (p : ℕ) (v : Held) : Type 0 where
  pub named : IfSome who (λ q. q ≡ p)
  pub retires : Retires u (Some p) v

-- A tenant retires, and has left this value
pub record Leaves (u : Held) (who : Option ℕ) (v : Held) (x : ℕ) : Type 0 where
  pub p : ℕ
  pub retires : RetiresAt u who p v
  pub left : HasLeft v p x

-- A tenant is squashed
pub record Squashes (u : Held) (who : Option ℕ) (v : Held) : Type 0 where
  pub told : List Step
  pub follows : Follows u told v
  pub is : IsSquash who told

-- Tenants after position p are squashed
pub record SquashesOne (u : Held) (p : ℕ) (v : Held) : Type 0 where
  pub told : List Step
  pub follows : Follows u told v
  pub are : AllByRecursion (IsSquashAfter p) told

-- A recovery
pub record Recovers (u : Held) (p : ℕ) (v : Held) : Type 0 where
  pub told : List Step
  pub follows : Follows u told v
  pub is : IsRecover p told

-- What an event states of the unit after it, v: producers, and values
abbrev pub States : Held → Event → Held → Type 0
States u (ToldFrom p q) v = ComesFrom v.tenants.items p q
States u (ToldEnd p x) v = IfSome x (HasOutcome v.tenants.items p)
States u (ToldExecute p x) v = IfSome x (HasOutcome v.tenants.items p)
States u (ToldRead p x) v = Reads v p x
States u (ToldLoad p x) v = IfSome x (HasOutcome v.tenants.items p)
States u (ToldComplete p x) v = IfSome x (HasOutcome v.tenants.items p)
States u (ToldRetire who x) v = IfSome x (Leaves u who v)
States u _ v = ⊤

-- Legal steps that an event says lead from a unit to a later one, of which what it states is true
pub record Tells (u : Held) (event : Event) (v : Held) : Type 0 where
  pub told : List Step
  pub follows : Follows u told v
  pub says : Says event told
  pub states : States u event v

-- One step
abbrev pub Only : Step → List Step → Type 0
Only s ss = ss ≡ s ∷ []

-- A tenant retires, or nothing of that is done, or its guess is confirmed
pub record IsConfirming (who : Option ℕ) (ss : List Step) : Type 0 where
  pub p : ℕ
  pub named : IfSome who (λ q. q ≡ p)
  pub is : ss ≡ On p Confirm ∷ []

abbrev pub IsRetiring : Option ℕ → List Step → Type 0
IsRetiring who ss = (ss ≡ []) ⊎ (IsConfirming who ss ⊎ IsRetire who ss)

-- The steps that an event makes, the last one first: all that it says, or the first ones of them
abbrev pub Begins : Event → List Step → Type 0
Begins (ToldLet pc next) ss = (ss ≡ []) ⊎ IsLet pc next ss
Begins (ToldFrom p q) ss = ss ≡ []
Begins (ToldBegin p) ss = Only (On p Claim) ss
Begins (ToldEnd p x) ss = Only (On p Finish) ss
Begins (ToldExecute p x) ss = AreExecution p ss
Begins (ToldRead p x) ss = (ss ≡ []) ⊎ Only (On p Load) ss
Begins (ToldLoad p x) ss = AreExecution p ss
Begins (ToldComplete p x) ss = AreExecution p ss
Begins (ToldRetire who x) ss = IsRetiring who ss
Begins (ToldSquash who) ss = (ss ≡ []) ⊎ IsSquash who ss
Begins (ToldMend p) ss = Only (On p Mend) ss
Begins (ToldRecover p) ss = AllByRecursion (IsSquashAfter p) ss ⊎ IsRecover p ss

-- The next instruction of the path may not be let for this reason
pub record IsNextLet (v : Held) (Begin : List Step → Type 0) (told : List Step) (reason : Reason) : Type 0 where
  pub index : ℕ
  pub predicted : ℕ
  pub path : front_pc (shown v.tenants.items) ≡ address index
  pub next : Begin (Let index predicted ∷ told)
  pub why : IsNoLet v index predicted reason

abbrev pub NextLet : Held → (List Step → Type 0) → List Step → Reason → Type 0
NextLet v Begin told (OtherPc front) = Begin told
NextLet v Begin told reason = IsNextLet v Begin told reason

-- The step that is refused for a reason is the next one of an event, after those that it has made; or it has made these,
-- and what it states is refused
abbrev pub IsNext : Held → (List Step → Type 0) → List Step → Why → Type 0
IsNext v Begin told (NoAct p deed reason) = Begin (On p deed ∷ told)
IsNext v Begin told (NoLet reason) = NextLet v Begin told reason
IsNext v Begin told why = Begin told

-- The sources of the tenant at a position have these producers
pub record HasProducers (hs : List Tenant) (p : ℕ) (a b : Option ℕ) : Type 0 where
  pub tenant : Tenant
  pub is : slice_get hs p ≡ Some tenant
  pub first : tenant.first.creator ≡ a
  pub second : tenant.second.creator ≡ b

-- The reason why an instruction may not be let is true of a unit
abbrev pub IsTrueLet : Held → Reason → Type 0
IsTrueLet u (OtherPc front) = front_pc (shown u.tenants.items) ≡ front
IsTrueLet u reason = ⊤

-- Nobody is in flight
abbrev pub IsEmpty : Held → Type 0
IsEmpty u = (q : ℕ) → ¬ IsHeldLive (held u.tenants.items q)

-- The reason is true of a unit
abbrev pub IsTrueOf : Held → Why → Type 0
IsTrueOf u (NoLet reason) = IsTrueLet u reason
IsTrueOf u (NoInstruction pc) = front_pc (shown u.tenants.items) ≡ pc
IsTrueOf u (NoAct p deed reason) = ActReason u.program.now (shown u.tenants.items) deed p reason
IsTrueOf u (NotLet p) = slice_get u.tenants.items p ≡ None
IsTrueOf u (Gone p) = Is (shown u.tenants.items) p (λ t. t.standing ≢ Live)
IsTrueOf u (OtherProducer p a b) = HasProducers u.tenants.items p a b
IsTrueOf u Nobody = IsEmpty u
IsTrueOf u _ = ⊤

-- A reason that speaks of values alone
abbrev pub IsOfValues : Why → Type 0
IsOfValues (OtherValue p v) = ⊤
IsOfValues (NoValue p) = ⊤
IsOfValues _ = ⊥

-- A reason that speaks of a state, and of no step
abbrev pub IsOfState : Why → Type 0
IsOfState (NoAct p deed reason) = ⊥
IsOfState (NoLet reason) = ⊥
IsOfState _ = ⊤

-- Legal steps with which an event begins lead to a unit where its next step is refused, for a reason that is true
pub record Refuses (u : Held) (Begin : List Step → Type 0) (why : Why) (v : Held) : Type 0 where
  pub told : List Step
  pub follows : Follows u told v
  pub next : IsNext v Begin told why
  pub holds : IsTrueOf v why
