-- What a let leaves for its questions.
use Rattle.std.proofs.Common.{◌≡◌, ◌≢◌, ℕ, ◌<◌, List, [], ◌∷◌, ◌++◌, length, Option, Some, refl, sym, ap, ◌∙◌, subst, ⊎_elim, arith}
use Rattle.std.proofs.lemmas.Option.{same_Some}
use Rattle.instructions.specs.Programs.{Program, instr_of}
use Rattle.inorder.specs.declared.history.Entry.{Entry}
use Rattle.inorder.specs.declared.history.Event.{Event}
use Rattle.inorder.specs.declared.history.Source.{Source}
use Rattle.inorder.specs.declared.history.Source.TheVariants.{First, Second}
use Rattle.inorder.specs.declared.history.Supply.TheVariants.{From as FromCreator}
use Rattle.inorder.specs.History.{IsLegal, entry, front, own, unit_of, renewals}
use Rattle.inorder.specs.OneHistory.{Adds}
use Rattle.inorder.specs.Replies.{last_tag}
use Rattle.inorder.specs.Steps.{MayComeFrom, MaySupply, let_operand, new_tenant}
use Rattle.inorder.specs.Tenants.{Operand, Tenant, operand}
use Rattle.inorder.specs.Unit.{Sizes, UpdateUnit, at, creator, next_station, next_tag, recent}
use Rattle.inorder.proofs.Creators.{at_cases}
use Rattle.inorder.proofs.Histories.{legal_before, own-append, own_none}
use Rattle.inorder.proofs.Positions.{at_below, at_new, younger_at}
use Rattle.ruu_words.specs.Kinds.{IsNamed}
use Rattle.ruu_words.proofs.Drafting.{still_let}
use Rattle.ruu_words.proofs.Stays.{named_stays}
use Rattle.station.specs.declared.answers.Supply.TheVariants.{From}
use Rattle.station.specs.declared.answers.Tenant.{Tenant as NewTenant}
use Rattle.station.specs.Asking.{MayAsk}
use Rattle.station.specs.Following.{LetsAreAsked, register, supply}
use Rattle.station.specs.Letting.{MayLetOut, let_of, supply_of}
use Rattle.station.proofs.Splitting.{LastEvent, last_event}
use Rattle.station.proofs.Staying.{fronts_stay}
use Rattle.inorder.proofs.Recent.{new_there}

-- What others have added after a call's last event
pub behind_last : (P : Program) (C : Sizes) (old new : List Entry) (e : Event) (es : List Event) → (l : LastEvent P C front old new e es) → Adds P C front (entry front e ∷ l.point) new []
behind_last P C old new e es l = record {
  begins = record { more = l.after; is = l.is };
  legal = subst (IsLegal P C) (sym l.is) l.legal;
  one_table = l.since;
  mine = ap (own front) l.is ∙ (own-append front l.after (entry front e ∷ l.point) ∙ ap (λ z. z ++ own front (entry front e ∷ l.point)) l.none);
}

module _ (P : Program) (C : Sizes) where
  -- source k of the tenant that is let now
  its_operand : (U : UpdateUnit) (t : NewTenant) (k : Source) → operand k (new_tenant P C U t.index t.predicted (supply_of t.sources.0) (supply_of t.sources.1)) ≡ let_operand
      (creator P U.tenants (register k (instr_of P t.index))) (supply_of (supply k t))
  its_operand U t First = refl
  its_operand U t Second = refl

  its_supply : (U : UpdateUnit) (t : NewTenant) (k : Source) → MayLetOut P C U t → MaySupply P U (next_station C (recent U)) (creator P U.tenants (register k (instr_of P t.index)))
      (supply_of (supply k t))
  its_supply U t First m = m.may.first_is
  its_supply U t Second m = m.may.second_is

  comes_from : (U : UpdateUnit) (t : NewTenant) (k : Source) (a g : ℕ) → MayLetOut P C U t → supply k t ≡ From a g →
      MayComeFrom P U (next_station C (recent U)) (creator P U.tenants (register k (instr_of P t.index)))
  comes_from U t k a g m is = subst (λ z. MaySupply P U (next_station C (recent U)) (creator P U.tenants (register k (instr_of P t.index))) (supply_of z)) is (its_supply U t k m)

  -- just after the let
  asked_now : (h : List Entry) (t : NewTenant) (k : Source) (a g q : ℕ) → IsLegal P C (entry front (let_of t) ∷ h) → MayLetOut P C (unit_of P C h) t → supply k t ≡ From a g
      → creator P (unit_of P C h).tenants (register k (instr_of P t.index)) ≡ Some q → IsNamed (unit_of P C h) q a g
      → MayAsk P C (entry front (let_of t) ∷ h) (next_station C (recent (unit_of P C h))) (next_tag C (recent (unit_of P C h))) k a g
  asked_now h t k a g q legal m is creates named =
      let U : UpdateUnit = unit_of P C h in
      let n : Tenant = new_tenant P C U t.index t.predicted (supply_of t.sources.0) (supply_of t.sources.1) in
      let r : ℕ = length U.tenants in
      let c = comes_from U t k a g m is in
      let position : c.p ≡ q = same_position (sym c.creates ∙ creates) in
      let maker : c.tenant ≡ named.tenant = same_Some c.tenant named.tenant (sym c.is ∙ (ap (at U.tenants) position ∙ named.is)) in
      let at_a : c.tenant.station ≡ a = ap (λ (z : Tenant). z.station) maker ∙ named.station_is in
      let now : operand k n ≡ let_operand (creator P U.tenants (register k (instr_of P t.index))) FromCreator = its_operand U t k ∙
      ap (λ z. let_operand (creator P U.tenants (register k (instr_of P t.index))) (supply_of z)) is in
      record {
        r = r;
        q = q;
        asks = record {
          tenant = n;
          is = at_new n U.tenants;
          new = new_there U n;
          station_is = refl;
          tag_is = refl;
          fact = record { can = record { way = ap (λ (o : Operand). o.way) now; creator = ap (λ (o : Operand). o.creator) now ∙ creates }; path = refl };
        };
        last = λ x u less at_x same. let small = at_below (n ∷ U.tenants) x u at_x in absurd (omega arith);
        creator = named_stays P C q a g (entry front (let_of t) ∷ []) h legal refl named;
        creator_last = λ x u less at_x same. go x u c (subst (λ z. z < x) (sym position) less) n refl at_x (same ∙ sym at_a);
      }
    where
      same_position : {p x : ℕ} → Some p ≡ Some x → p ≡ x
      same_position e = cc e

      go : (x : ℕ) (u : Tenant) → (c : MayComeFrom P (unit_of P C h) (next_station C (recent (unit_of P C h))) (creator P (unit_of P C h).tenants (register k (instr_of P t.index)))) → c.p < x →
          (n : Tenant) → n.station ≡ next_station C (recent (unit_of P C h)) → at (n ∷ (unit_of P C h).tenants) x ≡ Some u → u.station ≡ c.tenant.station → ⊥
      go x u c less n at_next at_x same = ⊎_elim
          (λ (was : at (unit_of P C h).tenants x ≡ Some u). younger_at (λ z. z.station ≢ c.tenant.station) (unit_of P C h).tenants c.p c.last x u less was same)
          (λ (e : (x ≡ length (unit_of P C h).tenants) × (n ≡ u)). c.other (sym same ∙ (ap (λ (z : Tenant). z.station) (sym e.1) ∙ at_next)))
          (at_cases n (unit_of P C h).tenants x u at_x)

pub lets_are_asked : LetsAreAsked
lets_are_asked P C old new t k a g m from adds =
    let e : Event = let_of t in
    let l = last_event P C front old new e [] adds in
    let more : List Entry = l.before.begins.more in
    let is : l.point ≡ more ++ old = l.before.begins.is in
    let legal_at : IsLegal P C (entry front e ∷ l.point) = legal_before P C l.after (entry front e ∷ l.point) l.legal in
    let legal : IsLegal P C (entry front e ∷ (more ++ old)) = subst (λ z. IsLegal P C (entry front e ∷ z)) is legal_at in
    let none : own front more ≡ [] = own_none front more old (ap (own front) (sym is) ∙ l.before.mine) in
    let stay = still_let P C t.index t.predicted (supply_of t.sources.0) (supply_of t.sources.1) more old legal.0 none m.may in
    let may : MayLetOut P C (unit_of P C (more ++ old)) t = record { may = stay.may; half = m.half ∙ sym (ap (λ (x : Tenant). x.half) stay.new); tag = subst (λ n. n < last_tag) (sym stay.tag) m.tag }
    in
    let c : Option ℕ = creator P (unit_of P C old).tenants (register k (instr_of P t.index)) in
    let c' : Option ℕ = creator P (unit_of P C (more ++ old)).tenants (register k (instr_of P t.index)) in
    let was = its_operand P C (unit_of P C old) t k ∙ ap (λ z. let_operand c (supply_of z)) from.given in
    let now = its_operand P C (unit_of P C (more ++ old)) t k ∙ ap (λ z. let_operand c' (supply_of z)) from.given in
    let same : c' ≡ c = sym (ap (λ (o : Operand). o.creator) now) ∙ (ap (λ (x : Tenant). (operand k x).creator) stay.new ∙ ap (λ (o : Operand). o.creator) was) in
    let named = named_stays P C from.q a g more old legal.0 (sym (ap renewals is) ∙ l.before.one_table) from.named in
    let asked = asked_now P C (more ++ old) t k a g from.q legal may from.given (same ∙ from.creates) named in
    let here : MayAsk P C (entry front e ∷ l.point) (next_station C (recent (unit_of P C old))) (next_tag C (recent (unit_of P C old))) k a g =
    subst (λ (z : List Entry × (ℕ × ℕ)). MayAsk P C (entry front e ∷ z.0) z.1.0 z.1.1 k a g) (λ i. (sym is i, (ap (λ (x : Tenant). x.station) stay.new i, stay.tag i))) asked in
    (fronts_stay P C (entry front e ∷ l.point) new (behind_last P C old new e [] l)).asks (next_station C (recent (unit_of P C old))) (next_tag C (recent (unit_of P C old))) k a g here
