-- What a step leaves due where nothing was due before.
use Rattle.std.proofs.Common.{◌≡◌, ◌≢◌, ℕ, true, false, cond, List, ◌∷◌, length, Some, refl, sym, ap, ◌∙◌, subst, ne_eqb}
use Rattle.instructions.specs.Programs.{Program}
use Rattle.instructions.specs.declared.stop.Outcome.{Outcome}
use Rattle.instructions.specs.declared.stop.Outcome.TheVariants.{Address, Next, Pair, Stop as Stops, Value}
use Rattle.inorder.specs.declared.history.Act.{Act}
use Rattle.inorder.specs.declared.history.Act.TheVariants.{Claim, Deliver, Finish, Link, Load, Mend, Retire, Speculate, Squash}
use Rattle.inorder.specs.declared.history.Source.{Source}
use Rattle.inorder.specs.declared.history.Source.TheVariants.{First, Second}
use Rattle.inorder.specs.declared.history.Speculation.TheVariants.{Confirm, Flush, Guess}
use Rattle.inorder.specs.declared.history.Step.TheVariants.{Let as UnitLet, On as UnitOn, Renew}
use Rattle.inorder.specs.Legal.{Allowed, MayAct, change_at, changed}
use Rattle.inorder.specs.Steps.{MayDeliver, finished, mended_as}
use Rattle.inorder.specs.Tenants.{Addr, Busy, Done, Fate, Guessed, Miss, Open, Stopped, Tenant, computed, operand}
use Rattle.inorder.specs.Unit.{Sizes, UpdateUnit, at, older, replaced}
use Rattle.replay.specs.Placing.{AreDueTo, AreNotDue, EachStepLeavesDue, HasNothingDue, IsNotDue, LeavesDue, may_make}
use Rattle.replay.proofs.Elsewhere.{due_from_it, still_not_due}

-- by the tenants alone
pub none_due : (P : Program) (C : Sizes) (U : UpdateUnit) → HasNothingDue P C U → AreNotDue P U.tenants
none_due P C U quiet q k = record { link = quiet (UnitOn q (Link k)) tt; delivery = quiet (UnitOn q (Deliver k)) tt }

pub nothing_due : (P : Program) (C : Sizes) (U : UpdateUnit) → AreNotDue P U.tenants → HasNothingDue P C U
nothing_due P C U none (UnitOn p (Link k)) silent m = (none p k).link m
nothing_due P C U none (UnitOn p (Deliver k)) silent m = (none p k).delivery m
nothing_due P C U none (UnitOn p Claim) silent m = silent
nothing_due P C U none (UnitOn p Finish) silent m = silent
nothing_due P C U none (UnitOn p Load) silent m = silent
nothing_due P C U none (UnitOn p (Retire n)) silent m = silent
nothing_due P C U none (UnitOn p Squash) silent m = silent
nothing_due P C U none (UnitOn p Mend) silent m = silent
nothing_due P C U none (UnitOn p (Speculate s)) silent m = silent
nothing_due P C U none (UnitLet index predicted first second) silent m = silent
nothing_due P C U none Renew silent m = silent

-- A let

pub new_due : (P : Program) (t : Tenant) (ts : List Tenant) → AreNotDue P ts → AreDueTo P (t ∷ ts) (length ts)
new_due P t ts none q k other =
    let off = ne_eqb q (length ts) other in
    let there = ap (λ b. cond b (Some t) (at ts q)) off in
    record {
      link = λ m. (none q k).link (record { tenant = m.tenant; is = sym there ∙ m.is; may = m.may });
      delivery = λ m.
          (none q k).delivery (record {
            tenant = m.tenant;
            is = sym there ∙ m.is;
            may = subst (λ us. MayDeliver us m.tenant k) (ap (λ b. cond b ts (older ts q)) off) m.may;
          });
    }

-- An act

-- the sources of the tenant stay
record KeepsSources (t new : Tenant) : Type 0 where
  pub first : new.first ≡ t.first
  pub second : new.second ≡ t.second

same_sources : (t new : Tenant) → KeepsSources t new → (j : Source) → operand j new ≡ operand j t
same_sources t new k First = k.first
same_sources t new k Second = k.second

finished_sources : (t : Tenant) (o : Outcome) → KeepsSources t (finished t o)
finished_sources t (Value v) = record { first = refl; second = refl }
finished_sources t (Next x) = record { first = refl; second = refl }
finished_sources t (Address a) = record { first = refl; second = refl }
finished_sources t (Stops c) = record { first = refl; second = refl }
finished_sources t (Pair low high) = record { first = refl; second = refl }

-- so does what it has made
record KeepsMade (t new : Tenant) : Type 0 where
  pub sources : KeepsSources t new
  pub made : new.made ≡ t.made

mended_made : (t : Tenant) (f : Fate) → KeepsMade t (mended_as t f)
mended_made t Open = record { sources = record { first = refl; second = refl }; made = refl }
mended_made t (Busy by) = record { sources = record { first = refl; second = refl }; made = refl }
mended_made t (Addr a) = record { sources = record { first = refl; second = refl }; made = refl }
mended_made t (Done v) = record { sources = record { first = refl; second = refl }; made = refl }
mended_made t (Miss x) = record { sources = record { first = refl; second = refl }; made = refl }
mended_made t (Stopped c) = record { sources = record { first = refl; second = refl }; made = refl }
mended_made t (Guessed v) = record { sources = record { first = refl; second = refl }; made = refl }

module _ (P : Program) (ts : List Tenant) (p : ℕ) (none : AreNotDue P ts) where
  makes : (act : Act) → may_make act ≡ true → (m : MayAct P ts 0 p act) → KeepsSources m.tenant (changed P 0 act m.tenant (older ts p)) →
      LeavesDue (may_make act) P (change_at P ts 0 p act (at ts p)) p
  makes act make m kept =
      let new = changed P 0 act m.tenant (older ts p) in
      subst (λ b. LeavesDue b P (change_at P ts 0 p act (at ts p)) p) (sym make)
      (subst (λ us. LeavesDue true P us p) (sym (ap (change_at P ts 0 p act) m.is))
      (due_from_it P ts p m.tenant new m.is (same_sources m.tenant new kept) none))

  keeps : (act : Act) → may_make act ≡ false → (m : MayAct P ts 0 p act) → KeepsMade m.tenant (changed P 0 act m.tenant (older ts p)) →
      LeavesDue (may_make act) P (change_at P ts 0 p act (at ts p)) p
  keeps act make m kept =
      let new = changed P 0 act m.tenant (older ts p) in
      subst (λ b. LeavesDue b P (change_at P ts 0 p act (at ts p)) p) (sym make)
      (subst (λ us. LeavesDue false P us p) (sym (ap (change_at P ts 0 p act) m.is))
      (λ q j. still_not_due P ts p m.tenant new m.is q j (λ _. same_sources m.tenant new kept.sources j) kept.made (none q j)))

  pub act_leaves : (act : Act) → MayAct P ts 0 p act → LeavesDue (may_make act) P (change_at P ts 0 p act (at ts p)) p
  act_leaves (Link k) m = absurd ((none p k).link m)
  act_leaves (Deliver k) m = absurd ((none p k).delivery m)
  act_leaves Claim m = keeps Claim refl m (record { sources = record { first = refl; second = refl }; made = refl })
  act_leaves Finish m = makes Finish refl m (finished_sources m.tenant (computed P m.tenant))
  act_leaves Load m = makes Load refl m (record { first = refl; second = refl })
  act_leaves (Retire n) m = makes (Retire n) refl m (record { first = refl; second = refl })
  act_leaves Squash m = keeps Squash refl m (record { sources = record { first = refl; second = refl }; made = refl })
  act_leaves Mend m = keeps Mend refl m (mended_made m.tenant m.tenant.fate)
  act_leaves (Speculate (Guess v)) m = makes (Speculate (Guess v)) refl m (record { first = refl; second = refl })
  act_leaves (Speculate Confirm) m =
      keeps (Speculate Confirm) refl m (record { sources = record { first = refl; second = refl }; made = refl })
  act_leaves (Speculate Flush) m =
      keeps (Speculate Flush) refl m (record { sources = record { first = refl; second = refl }; made = refl })

pub step_leaves : EachStepLeavesDue
step_leaves P C U (UnitLet index predicted first second) quiet may = new_due P _ U.tenants (none_due P C U quiet)
step_leaves P C U (UnitOn p act) quiet may = act_leaves P U.tenants p (none_due P C U quiet) act may
step_leaves P C U Renew quiet may = none_due P C U quiet
