-- A tenant that was let is there.
use Rattle.std.proofs.Common.{◌≡◌, ◌≢◌, ℕ, List, [], ◌∷◌, ◌++◌, length, refl, sym, ap, ◌∙◌, subst, arith, length-append}
use Rattle.std.proofs.lemmas.Option.{same_Some}
use mathlib.Core.Logic.{dite}
use native.Mathlib.Decide.{ℕ_discrete}
use Rattle.instructions.specs.Instruction.{first_of, second_of}
use Rattle.instructions.specs.Programs.{Program, instr_of}
use Rattle.inorder.specs.declared.history.Entry.{Entry}
use Rattle.inorder.specs.declared.history.Event.{Event}
use Rattle.inorder.specs.declared.history.Source.TheVariants.{First, Second}
use Rattle.inorder.specs.declared.history.Step.{Step}
use Rattle.inorder.specs.History.{IsLegal, IsUnit, back, entry, front, own, unit_of, renewals}
use Rattle.inorder.specs.Replies.{Has, IsOpen}
use Rattle.inorder.specs.Steps.{let_operand, new_tenant}
use Rattle.inorder.specs.Tenants.{Tenant}
use Rattle.inorder.specs.Unit.{creator, front_half, front_pc, next_station, next_tag, recent, Sizes, UpdateUnit}
use Rattle.inorder.proofs.Histories.{legal_before, no_length, own-append, own_none}
use Rattle.inorder.proofs.Moves.{Goes}
use Rattle.inorder.proofs.Positions.{at_new}
use Rattle.ruu_words.specs.Kinds.{IsTenant}
use Rattle.ruu_words.proofs.Drafting.{still_let}
use Rattle.ruu_words.proofs.Stays.{tenant_stays}
use Rattle.station.specs.declared.answers.Tenant.{Tenant as NewTenant}
use Rattle.station.specs.Letting.{let_of, supply_of}
use Rattle.station.specs.Quiet.{IsLetAs, LetsAreOut}
use Rattle.station.proofs.Splitting.{LastEvent, last_event}
use Rattle.inorder.proofs.Recent.{new_there}
use Rattle.station.proofs.OpenKept.{only_back, open_lasts}

-- A tenant that was let is there

own_first : (n : ℕ) (a x c : List Entry) → own n (a ++ (x ++ c)) ≡ own n c → own n a ≡ []
own_first n a x c e =
    let f = own-append n a (x ++ c) in
    let g = own-append n x c in
    let lf = ap (λ z. length z) (sym f ∙ e) in
    let lg = ap (λ z. length z) g in
    let la = length-append (own n a) (own n (x ++ c)) in
    let lb = length-append (own n x) (own n c) in
    no_length (own n a) (omega arith)

let_as : (P : Program) (C : Sizes) (U : UpdateUnit) (t : NewTenant) → t.half ≡ front_half P U.tenants →
    IsLetAs t (front_pc U.tenants) (new_tenant P C U t.index t.predicted (supply_of t.sources.0) (supply_of t.sources.1))
let_as P C U t half = record {
  index_is = refl;
  half_is = sym half;
  pc_is = refl;
  predicted_is = refl;
  first_is = λ v e. ap (λ z. (let_operand (creator P U.tenants (first_of (instr_of P t.index))) (supply_of z)).value) e;
  second_is = λ v e. ap (λ z. (let_operand (creator P U.tenants (second_of (instr_of P t.index))) (supply_of z)).value) e;
}

pub lets_are_out : LetsAreOut
lets_are_out P C old new t m adds =
    let e : Event = let_of t in
    let l = last_event P C front old new e [] adds in
    let more : List Entry = l.before.begins.more in
    let is : l.point ≡ more ++ old = l.before.begins.is in
    let legal_at : IsLegal P C (entry front e ∷ l.point) = legal_before P C l.after (entry front e ∷ l.point) l.legal in
    let none : own front more ≡ [] = own_none front more old (ap (own front) (sym is) ∙ l.before.mine) in
    let legal : IsLegal P C (more ++ old) = subst (IsLegal P C) is legal_at.0 in
    let stay = still_let P C t.index t.predicted (supply_of t.sources.0) (supply_of t.sources.1) more old legal none m.may in
    let U : UpdateUnit = unit_of P C l.point in
    let n : Tenant = new_tenant P C U t.index t.predicted (supply_of t.sources.0) (supply_of t.sources.1) in
    let r : ℕ = length U.tenants in
    let same : n ≡ new_tenant P C (unit_of P C old) t.index t.predicted (supply_of t.sources.0) (supply_of t.sources.1) = ap
    (λ h. new_tenant P C (unit_of P C h) t.index t.predicted (supply_of t.sources.0) (supply_of t.sources.1)) is ∙ stay.new in
    let its : IsLetAs t (front_pc (unit_of P C old).tenants) n = subst (IsLetAs t (front_pc (unit_of P C old).tenants)) (sym same) (let_as P C (unit_of P C old) t m.half) in
    let now : IsTenant (unit_of P C (entry front e ∷ l.point)) r (next_station C (recent (unit_of P C old))) (next_tag C (recent (unit_of P C old))) (IsLetAs t (front_pc (unit_of P C old).tenants)) =
    record { tenant = n; is = at_new n U.tenants; new = new_there U n; station_is = ap (λ (z : Tenant). z.station) same; tag_is = ap (λ (z : Tenant). z.tag) same; fact = its } in
    let later = tenant_stays P C r (next_station C (recent (unit_of P C old))) (next_tag C (recent (unit_of P C old))) (IsLetAs t (front_pc (unit_of P C old).tenants)) keeps l.after
    (entry front e ∷ l.point) l.legal (sym (ap renewals l.is) ∙ l.since) now in
    let there : IsTenant (unit_of P C new) r (next_station C (recent (unit_of P C old))) (next_tag C (recent (unit_of P C old))) (IsLetAs t (front_pc (unit_of P C old).tenants)) =
    subst (λ z. IsTenant (unit_of P C z) r (next_station C (recent (unit_of P C old))) (next_tag C (recent (unit_of P C old))) (IsLetAs t (front_pc (unit_of P C old).tenants))) (sym l.is) later in
    record { p = r; tenant = there; opens = λ quiet. open_at l there quiet (record { tenant = n; is = at_new n U.tenants; fact = record { live = refl; fate = refl } }) }
  where
    keeps : (by : ℕ) (step : Step) (x y : Tenant) → Goes by step x y → IsLetAs t (front_pc (unit_of P C old).tenants) x → IsLetAs t (front_pc (unit_of P C old).tenants) y
    keeps by step x y g f = record {
      index_is = g.index ∙ f.index_is;
      half_is = g.half ∙ f.half_is;
      pc_is = g.pc ∙ f.pc_is;
      predicted_is = g.predicted ∙ f.predicted_is;
      first_is = λ v e. g.value First v (f.first_is v e);
      second_is = λ v e. g.value Second v (f.second_is v e);
    }

    open_at : (l : LastEvent P C front old new (let_of t) []) {r s g : ℕ} {Fact : Tenant → Type 0} (there : IsTenant (unit_of P C new) r s g Fact) → ((n : ℕ) → IsUnit n → own n new ≡ own n old) →
        Has (unit_of P C (entry front (let_of t) ∷ l.point)) r IsOpen → IsOpen there.tenant
    open_at l {r} there quiet o =
        let last : List Entry = entry front (let_of t) ∷ l.point in
        let long : last ≡ (entry front (let_of t) ∷ l.before.begins.more) ++ old = ap (λ z. entry front (let_of t) ∷ z) l.before.begins.is in
        let units : (n : ℕ) → n ≢ back → own n l.after ≡ [] = λ n ne. dite (ℕ_discrete n front)
        (λ (same : n ≡ front). subst (λ i. own i l.after ≡ []) (sym same) l.none)
        (λ apart. own_first n l.after (entry front (let_of t) ∷ l.before.begins.more) old (ap (λ z. own n (l.after ++ z)) (sym long) ∙ (ap (own n) (sym l.is) ∙ quiet n (above n ne apart)))) in
        let now = open_lasts P C r l.after last l.legal (only_back l.after units) o in
        let here = subst (λ z. Has (unit_of P C z) r IsOpen) (sym l.is) now in
        subst IsOpen (same_Some here.tenant there.tenant (sym here.is ∙ there.is)) here.fact
      where
        above : (n : ℕ) → n ≢ back → n ≢ front → IsUnit n
        above n a b = omega arith
