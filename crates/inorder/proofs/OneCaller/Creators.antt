-- A creator that has made nothing, and the instruction at an address.
use Rattle.std.proofs.Common.{◌≡◌, ◌≢◌, ℕ, zero, suc, ◌-◌, ◌/◌, ◌<◌, Bool, true, false, cond, ◌&&◌, eqb, ltb, List, [], ◌∷◌, length, Option, Some, None, refl, sym, ap, ◌∙◌, subst, arith, eqb-true}
use Rattle.std.proofs.Common.{true≢false}
use Rattle.std.specs.Prelude.{slice_get, unwrap_or}
use Rattle.std.specs.List.{AllByRecursion}
use Rattle.std.proofs.lemmas.Option.{slice_get_within, get_or_from_slice_get}
use Rattle.instructions.specs.Instruction.{pc_plus_4}
use Rattle.instructions.specs.Operations.{outcome_by}
use Rattle.instructions.specs.Programs.{Program, address, instr_at, instr_of}
use Rattle.instructions.specs.declared.instr.Instr.{Instr}
use Rattle.instructions.specs.declared.op.Kind.TheVariants.{Links}
use Rattle.instructions.specs.declared.stop.Outcome.{Outcome}
use Rattle.instructions.specs.declared.stop.Outcome.TheVariants.{Address, Next, Stop as Stops}
use Rattle.inorder.specs.Steps.{IsNoRetiredStop, MayComeFrom}
use Rattle.inorder.specs.Tenants.{Addr, Busy, Done, Fate, Guessed, Live, Miss, Open, Retired, Squashed, Standing, Stopped, Tenant, computed, destination_of, instr, is_live, kind_of, on_path, operand_value}
use Rattle.inorder.specs.Tenants.{stands_on_path}
use Rattle.inorder.specs.Unit.{Sizes, UpdateUnit, at, creator, how_many, last_writer, value_made, newest_of, next_station, older, recent, value_of, younger}
use Rattle.inorder.proofs.Basics.{Below, eqb_less, eqb_self, last_writer_below, split_at}
use Rattle.inorder.proofs.SettledRegisters.{made_leaves, retired_leaves, writer_if}
use Rattle.inorder.proofs.Grows.{all_mid}
use Rattle.inorder.proofs.Recent.{new_by, newest_all}
use Rattle.inorder.proofs.Sound.{FateBy, IsSound, IsSoundAt}
use Rattle.inorder.proofs.Stations.{IsElsewhere, Stands, all_elsewhere, last_at, settling}
use Rattle.inorder.proofs.OneCaller.Left.{retired_commits}
use Rattle.inorder.proofs.OneCaller.Middle.{sound_from}

-- The instruction at an address

pub record IsAt (P : Program) (place : ℕ) (i : Instr) : Type 0 where
  pub index : ℕ
  pub inside : index < length P.code
  pub pc : place ≡ address index
  pub is : instr_of P index ≡ i

pub found_at : (P : Program) (pc : ℕ) (i : Instr) → instr_at P pc ≡ Some i → IsAt P pc i
unfolding instr_at
found_at P pc i h = go (eqb (address k) pc) refl
  where
    k : ℕ
    k = (pc - 0x00400000) / 4

    go : (b : Bool) → eqb (address k) pc ≡ b → IsAt P pc i
    go true e =
        let got : slice_get P.code k ≡ Some i = rw e at h in
        record {
          index = k;
          inside = slice_get_within P.code k i got;
          pc = sym (eqb-true (address k) pc e);
          is = get_or_from_slice_get P.code k i _ got;
        }
    go false e = let no : None ≡ Some i = rw e at h in absurd (cc)

-- The last writer of a register

record IsWriter (P : Program) (U : List Tenant) (r p : ℕ) : Type 0 where
  pub t : Tenant
  pub is : at U p ≡ Some t
  pub on : on_path t ≡ true
  pub writes : destination_of P t ≡ r

last_is : (P : Program) (U : List Tenant) (r p : ℕ) → last_writer P U r ≡ Some p → IsWriter P U r p
last_is P [] r p h = absurd (cc)
last_is P (t ∷ ts) r p h = go (on_path t) (eqb (destination_of P t) r) refl refl (last_is P ts r p)
  where
    later : last_writer P ts r ≡ Some p → IsWriter P ts r p → IsWriter P (t ∷ ts) r p
    later e w = record { t = w.t; is = deeper; on = w.on; writes = w.writes }
      where
        below : p < length ts
        below = subst (λ c. Below c (length ts)) e (last_writer_below P ts r)

        deeper : at (t ∷ ts) p ≡ Some w.t
        deeper = ap (λ b. cond b (Some t) (at ts p)) (eqb_less p (length ts) below) ∙ w.is

    go : (a b : Bool) → on_path t ≡ a → eqb (destination_of P t) r ≡ b → (last_writer P ts r ≡ Some p → IsWriter P ts r p) → IsWriter P (t ∷ ts) r p
    go true true ea eb more =
        let here : Some (length ts) ≡ Some p = sym (writer_if P t ts r true (ap (λ x. x && eqb (destination_of P t) r) ea ∙ eb)) ∙ h in
        let same : length ts ≡ p = cc in
        record { t = t; is = subst (λ q. at (t ∷ ts) q ≡ Some t) same (ap (λ b. cond b (Some t) (at ts (length ts))) (eqb_self (length ts))); on = ea; writes = eqb-true (destination_of P t) r eb }
    go true false ea eb more =
        let there : last_writer P ts r ≡ Some p = sym (writer_if P t ts r false (ap (λ x. x && eqb (destination_of P t) r) ea ∙ eb)) ∙ h in
        later there (more there)
    go false b ea eb more =
        let there : last_writer P ts r ≡ Some p = sym (writer_if P t ts r false (ap (λ x. x && eqb (destination_of P t) r) ea)) ∙ h in
        later there (more there)

-- a jump that links has made its value
early_made : (o : Outcome) (pc pr nx : ℕ) (made a b : Option ℕ) (st : Standing) (f : Fate) → ((x : ℕ) → o ≢ Address x) → ((c : _) → o ≢ Stops c) → FateBy Links o pc pr nx made a b st f → made ≢ None
early_made o pc pr nx made a b st Open na nh h = λ e. let no : None ≡ Some (pc_plus_4 pc) = sym e ∙ h.0 in absurd (cc)
early_made o pc pr nx made a b st (Busy x) na nh h = λ e. let no : None ≡ Some (pc_plus_4 pc) = sym e ∙ h.0 in absurd (cc)
early_made o pc pr nx made a b st (Addr x) na nh h = absurd (na x h.1)
early_made o pc pr nx made a b st (Done x) na nh h = λ e. let no : None ≡ Some (pc_plus_4 pc) = sym e ∙ h.0.2 in absurd (cc)
early_made o pc pr nx made a b st (Guessed x) na nh h = let no = h.0 in absurd (cc no)
early_made o pc pr nx made a b st (Miss x) na nh h = λ e. let no : None ≡ Some (pc_plus_4 pc) = sym e ∙ h.0 in absurd (cc)
early_made o pc pr nx made a b st (Stopped x) na nh h = absurd (nh x h.1)

pub links_go : (P : Program) (t : Tenant) → kind_of P t ≡ Links → (x : ℕ) × (computed P t ≡ Next x)
links_go P t e = (_, ap (λ k. outcome_by k (instr P t) t.half t.pc (operand_value t.first) (operand_value t.second) (length P.bytes)) e)

no_links : (P : Program) (ts : List Tenant) (t : Tenant) → IsSoundAt P ts t → t.made ≡ None → kind_of P t ≢ Links
no_links P ts t s none e =
    let g = links_go P t e in
    early_made (computed P t) t.pc t.predicted t.next t.made t.first.value t.second.value t.standing t.fate
    (λ x q. let no : Next g.0 ≡ Address x = sym g.1 ∙ q in absurd (cc))
    (λ c q. let no : Next g.0 ≡ Stops c = sym g.1 ∙ q in absurd (cc))
    (subst (λ k. FateBy k (computed P t) t.pc t.predicted t.next t.made t.first.value t.second.value t.standing t.fate) e s.own.fate) none

-- a writer on the path that has made nothing is live
writer_live : (P : Program) (ts : List Tenant) (t : Tenant) (r : ℕ) → IsSound P (t ∷ ts) → IsNoRetiredStop t → on_path t ≡ true → destination_of P t ≡ suc r → t.made ≡ None → t.standing ≡ Live
writer_live P ts t r s n on w none = go t.standing refl
  where
    go : (st : Standing) → t.standing ≡ st → t.standing ≡ Live
    go Live e = e
    go Squashed e = absurd (true≢false (sym on ∙ ap stands_on_path e))
    go Retired e =
        let l = retired_leaves P t ts s.0 e (retired_commits t e n) in
        let m = made_leaves P ts t r l w in
        let no : None ≡ Some (unwrap_or t.made 0) = sym none ∙ m in
        absurd (cc)

-- a source whose creator has made nothing may come from it
pub pending_may : (P : Program) (C : Sizes) (U : UpdateUnit) (n : Tenant) (r : ℕ) → IsSound P U.tenants → Stands C U.tenants → U.fresh ≡ length U.tenants → AllByRecursion IsNoRetiredStop U.tenants →
    how_many is_live U.tenants < C.ring
    → n.station ≡ next_station C (recent U) → value_of U.tenants (creator P U.tenants r) ≡ None → MayComeFrom P U (next_station C (recent U)) (creator P U.tenants r)
pending_may P C V n zero s st never ns room at none = let no : Some 0 ≡ None = none in absurd (cc)
pending_may P C V n (suc r) s st never ns room at none = go (ltb (suc r) 34) refl
  where
    U : List Tenant
    U = V.tenants

    same : recent V ≡ U
    same = ap (λ m. newest_of m U) never ∙ newest_all U

    from : (c : Option ℕ) → last_writer P U (suc r) ≡ c → value_of U c ≡ None → MayComeFrom P V (next_station C (recent V)) c
    from None e g = let no : Some 0 ≡ None = g in absurd (cc)
    from (Some p) e g =
        let w = last_is P U (suc r) p e in
        let split = split_at U p w.t w.is in
        let made : w.t.made ≡ None = sym (ap value_made w.is) ∙ g in
        let sound' = sound_from P (younger U p) (w.t ∷ older U p) (subst (IsSound P) split s) in
        let stop' = all_mid IsNoRetiredStop w.t (older U p) (younger U p) (subst (AllByRecursion IsNoRetiredStop) split ns) in
        let live = writer_live P (older U p) w.t r sound' stop' w.on w.writes made in
        let apart = all_mid (IsElsewhere n) w.t (older U p) (younger U p) (subst (AllByRecursion (IsElsewhere n)) split
        (all_elsewhere P C n U [] U refl (at ∙ ap (next_station C) same) room (settling P U s) st.placed)) in
        record {
          p = p;
          tenant = w.t;
          creates = refl;
          is = w.is;
          waits = no_links P (older U p) w.t sound'.0 made;
          other = λ q. apart live (q ∙ sym at);
          last = last_at U p w.t st.apart w.is live;
          new = new_by V p (omega (arith, never));
        }

    go : (b : Bool) → ltb (suc r) 34 ≡ b → MayComeFrom P V (next_station C (recent V)) (cond (ltb (suc r) 34) (last_writer P U (suc r)) None)
    go true e = subst (λ b. MayComeFrom P V (next_station C (recent V)) (cond b (last_writer P U (suc r)) None)) (sym e)
        (from (last_writer P U (suc r)) refl (ap (λ b. value_of U (cond b (last_writer P U (suc r)) None)) (sym e) ∙ none))
    go false e = let no : Some 0 ≡ None = ap (λ b. value_of U (cond b (last_writer P U (suc r)) None)) (sym e) ∙ none in absurd (cc)
