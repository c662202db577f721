-- The oldest tenant is executed: claimed and finished, a load has its value, a miss is mended and all after it squashed.
use Rattle.std.proofs.Common.{◌≡◌, ℕ, true, false, Bool, cond, eqb, List, [], ◌∷◌, ◌++◌, length, Option, Some, refl, sym, ap, ◌∙◌, subst, eqb-true, true≢false}
use Rattle.std.specs.Prelude.{unwrap_or}
use Rattle.std.specs.List.{AllByRecursion}
use Rattle.instructions.specs.Operations.{loaded}
use Rattle.instructions.specs.Programs.{Program}
use Rattle.instructions.specs.declared.op.Kind.{Kind}
use Rattle.instructions.specs.declared.op.Kind.TheVariants.{Computes, Jumps, Links, Loads, Stores}
use Rattle.instructions.specs.declared.stop.Outcome.{Outcome}
use Rattle.instructions.specs.declared.stop.Outcome.TheVariants.{Address, Next, Pair, Stop as Stops, Value}
use Rattle.inorder.specs.declared.history.Act.TheVariants.{Load, Mend}
use Rattle.inorder.specs.declared.history.Step.TheVariants.{On}
use Rattle.inorder.specs.Memory.{raw_at}
use Rattle.inorder.specs.Moves.{IsSquash, with_tenants}
use Rattle.inorder.specs.Plain.{IsPlain}
use Rattle.inorder.specs.Steps.{HasAddress, MayClaim, finished}
use Rattle.inorder.specs.Tenants.{Addr, Busy, Done, Fate, IsNotLive, Miss, Stopped, Tenant, computed, instr, kind_of}
use Rattle.inorder.specs.Unit.{Sizes, UpdateUnit}
use Rattle.inorder.proofs.Basics.{eqb_self}
use Rattle.inorder.proofs.OneCaller.Recovery.{gone, recover_run}
use Rattle.inorder.proofs.OneCaller.Sequences.{all_weaker, squash_plain}
use Rattle.own_model.specs.Transitions.{Reaches}
use Rattle.own_model.proofs.Sequences.{act_on, runs_on, then_on}

-- the fate of a tenant that was executed, what it has made, and where it goes on; a load finds these values
abbrev pub fate_as : Kind → (ℕ → ℕ) → Outcome → Fate
fate_as k found (Value v) = Done v
fate_as k found (Next x) = Done x
fate_as k found (Pair low high) = Done low
fate_as k found (Stops c) = Stopped c
fate_as Loads found (Address at) = Done (found at)
fate_as k found (Address at) = Addr at

abbrev pub made_as : Kind → (ℕ → ℕ) → Option ℕ → Outcome → Option ℕ
made_as k found made (Value v) = Some v
made_as k found made (Pair low high) = Some low
made_as Loads found made (Address at) = Some (found at)
made_as k found made o = made

abbrev pub next_as : ℕ → Outcome → ℕ
next_as predicted (Next x) = x
next_as predicted o = predicted

abbrev pub executed_as : Kind → (ℕ → ℕ) → Tenant → Outcome → Tenant
executed_as k found t o = record t { fate = fate_as k found o; made = made_as k found t.made o; next = next_as t.next o }

-- the tenant once it was executed with this outcome
abbrev pub executed : Program → (ℕ → ℕ) → Tenant → Outcome → Tenant
executed P found t o = executed_as (kind_of P t) found t o

-- the tenants after it: squashed, if it goes on elsewhere than predicted
abbrev pub stay_by : Bool → List Tenant → List Tenant
stay_by true ys = ys
stay_by false ys = gone ys

abbrev pub stay : ℕ → Outcome → List Tenant → List Tenant
stay predicted (Next x) ys = stay_by (eqb x predicted) ys
stay predicted o ys = ys

same : (n : ℕ) → eqb n n ≡ false → ⊥
same n e = true≢false (sym (eqb_self n) ∙ e)

nobody_by : (hits : Bool) → stay_by hits [] ≡ []
nobody_by true = refl
nobody_by false = refl

pub nobody_stays : (predicted : ℕ) (o : Outcome) → stay predicted o [] ≡ []
nobody_stays predicted (Next x) = nobody_by (eqb x predicted)
nobody_stays predicted (Value v) = refl
nobody_stays predicted (Address at) = refl
nobody_stays predicted (Pair low high) = refl
nobody_stays predicted (Stops c) = refl

-- they stay if it goes on as predicted, and have left if not
pub hit_stays : (predicted : ℕ) (o : Outcome) (ys : List Tenant) → eqb (next_as predicted o) predicted ≡ true → stay predicted o ys ≡ ys
hit_stays predicted (Next x) ys e = ap (λ h. stay_by h ys) e
hit_stays predicted (Value v) ys e = refl
hit_stays predicted (Address at) ys e = refl
hit_stays predicted (Pair low high) ys e = refl
hit_stays predicted (Stops c) ys e = refl

pub miss_squashes : (predicted : ℕ) (o : Outcome) (ys : List Tenant) → eqb (next_as predicted o) predicted ≡ false → stay predicted o ys ≡ gone ys
miss_squashes predicted (Next x) ys e = ap (λ h. stay_by h ys) e
miss_squashes predicted (Value v) ys e = absurd (same predicted e)
miss_squashes predicted (Address at) ys e = absurd (same predicted e)
miss_squashes predicted (Pair low high) ys e = absurd (same predicted e)
miss_squashes predicted (Stops c) ys e = absurd (same predicted e)

-- the tenants before it have left, so that each load may read what they have stored
pub no_addresses : (P : Program) (ts : List Tenant) → AllByRecursion IsNotLive ts → AllByRecursion (HasAddress P) ts
no_addresses P [] nobody = tt
no_addresses P (t ∷ ts) nobody = ((λ live k. absurd (nobody.0 live)), no_addresses P ts nobody.1)

module _ (P : Program) (C : Sizes) (W : UpdateUnit) (ys : List Tenant) (t : Tenant) (ts : List Tenant) (nobody : AllByRecursion IsNotLive ts) (bytes : ℕ → ℕ) where
  abbrev found : ℕ → ℕ
  found at = loaded (instr P t).op (bytes at)

  abbrev To : List Tenant → Tenant → Type 0
  To zs u = Reaches IsPlain P C (with_tenants W (ys ++ t ∷ ts)) (with_tenants W (zs ++ u ∷ ts))

  module _ (may : MayClaim P t) (aimed : t.next ≡ t.predicted) (reads : (at : ℕ) → kind_of P t ≡ Loads → computed P t ≡ Address at → raw_at P ts (instr P t) at ≡ Some (bytes at)) where
    to : (o : Outcome) → computed P t ≡ o → To ys (finished (record t { fate = Busy 0 }) o)
    to o is = subst (λ q. To ys (finished (record t { fate = Busy 0 }) q)) is (runs_on P C W ys t ts may)

    loads : kind_of P t ≡ Loads → (at : ℕ) → computed P t ≡ Address at → To ys (executed_as Loads found t (Address at))
    loads k at is =
        let answered : Option ℕ → Tenant = λ q. record t { fate = Done (loaded (instr P t).op (unwrap_or q 0)); made = Some (loaded (instr P t).op (unwrap_or q 0)) } in
        subst (λ q. To ys (answered q)) (reads at k is)
        (then_on (to (Address at) is) (act_on W ys (record t { fate = Addr at }) ts Load tt
        (record { live = may.live; kind = k; a = at; fate = refl; addresses = no_addresses P ts nobody; bytes = bytes at; read = reads at k is })))

    jumps : (x : ℕ) → computed P t ≡ Next x → (hits : Bool) → eqb x t.predicted ≡ hits → To (stay_by hits ys) (record t { fate = Done x; next = x })
    jumps x is true hit =
        subst (λ n. To ys (record t { fate = Done x; next = n })) (aimed ∙ sym (eqb-true x t.predicted hit))
        (subst (λ b. To ys (record t { fate = cond b (Done x) (Miss x) })) hit (to (Next x) is))
    jumps x is false off =
        let missed : Tenant = record t { fate = Miss x } in
        let r = recover_run P C 0 W ys missed ts x may.live refl in
        then_on (subst (λ b. To ys (record t { fate = cond b (Done x) (Miss x) })) off (to (Next x) is))
        (record { steps = On (length ts) Mend ∷ r.squashes; are = (tt, all_weaker IsSquash IsPlain squash_plain r.squashes r.are); leads = r.leads })

    executes_as : (k : Kind) → kind_of P t ≡ k → (o : Outcome) → computed P t ≡ o → To (stay t.predicted o ys) (executed_as k found t o)
    executes_as k e (Value v) is = to (Value v) is
    executes_as k e (Next x) is = jumps x is (eqb x t.predicted) refl
    executes_as k e (Pair low high) is = to (Pair low high) is
    executes_as k e (Stops c) is = to (Stops c) is
    executes_as Loads e (Address at) is = loads e at is
    executes_as Computes e (Address at) is = to (Address at) is
    executes_as Jumps e (Address at) is = to (Address at) is
    executes_as Links e (Address at) is = to (Address at) is
    executes_as Stores e (Address at) is = to (Address at) is

    pub executes : (o : Outcome) → computed P t ≡ o → To (stay t.predicted o ys) (executed P found t o)
    executes o is = executes_as (kind_of P t) refl o is
