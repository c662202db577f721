-- What a sound unit has committed is in order.
use Rattle.std.proofs.Common.{◌≡◌, ◌⊎◌, ℕ, Bool, true, false, ◌&&◌, not, eqb, inl, inr, List, [], ◌∷◌, length, Some, refl, sym, ap, ◌∙◌, subst, ⊎_elim, true≢false}
use Rattle.std.specs.List.{AllByRecursion}
use Rattle.instructions.specs.Programs.{Program}
use Rattle.instructions.specs.Instruction.{is_low, is_pair}
use Rattle.instructions.specs.declared.op.Half.{Half}
use Rattle.instructions.specs.declared.op.Half.TheVariants.{High, Low}
use Rattle.instructions.specs.declared.stop.Outcome.TheVariants.{Stop as Stops}
use Rattle.instructions.specs.declared.stop.Stop.{Stop}
use Rattle.inorder.specs.Committed.{ahead, commits, commits_by, committed, completes, with_tenant}
use Rattle.inorder.specs.Machine.{Goes, Halts, State, step}
use Rattle.inorder.specs.Runs.{after, next_state, stop, stop_of, then_state, then_stop}
use Rattle.inorder.specs.Tenants.{Fate, Live, Retired, Squashed, Standing, Stopped, Tenant, computed, instr, is_first, kind_of, on_path}
use Rattle.inorder.specs.Theorem.{IsInOrder}
use Rattle.inorder.specs.Unit.{at}
use Rattle.inorder.proofs.Halves.{Waits, none_waits, waits}
use Rattle.inorder.proofs.InOrderStep.{is_pair_here, needs_of, no_store, pair_goes_on, step_done, step_end, step_pair, step_store}
use Rattle.inorder.proofs.Pairs.{and_left, and_right}
use Rattle.inorder.proofs.SettledRegisters.{retired_on, same_rest}
use Rattle.inorder.proofs.Sound.{FateIs, IsInPlace, IsOwn, IsSettled, IsSound, IsSoundAt, LoadIs, Needs, SettledBy}
pub use Rattle.inorder.proofs.SettledRegisters.{committed_if, made_leaves, retired_leaves, writer_if}

-- The theorem, of a sound unit

half_cases : (h : Half) → (h ≡ Low) ⊎ (h ≡ High)
half_cases Low = inl refl
half_cases High = inr refl

-- the second half of a pair, or an instruction of one half, which finds no first half waiting
IsWhole : Program → List Tenant → Tenant → Type 0
IsWhole P ts t = (is_pair (instr P t).op ≡ false) × (t.half ≡ Low) × (ahead P ts ≡ committed P ts)

whole_or_half : (P : Program) (ts : List Tenant) (t : Tenant) (sound : IsSound P ts) (h : AllByRecursion IsSettled ts)
    (own : IsOwn P ts t) (placed : IsInPlace P ts t) → is_first P t ≡ false →
    IsWhole P ts t ⊎ ((t.half ≡ High) × Waits P ts)
unfolding IsWhole
whole_or_half P ts t sound h own placed nf = go (half_cases t.half)
  where
    single : t.half ≡ Low → (b : Bool) → is_pair (instr P t).op ≡ b → is_pair (instr P t).op ≡ false
    single low true e = absurd (true≢false (sym (ap (λ b. b && is_low t.half) e ∙ ap is_low low) ∙ nf))
    single low false e = e

    go : (t.half ≡ Low) ⊎ (t.half ≡ High) → IsWhole P ts t ⊎ ((t.half ≡ High) × Waits P ts)
    go (inl low) =
        inl (single low (is_pair (instr P t).op) refl, low, none_waits P ts h (sym placed.half ∙ low))
    go (inr high) = inr (high, waits P ts sound h (sym placed.half ∙ high))

-- a tenant that completes an instruction is one step
step_commits : (P : Program) → (ts : List Tenant) (t : Tenant) → IsSound P ts → IsSoundAt P ts t →
    t.standing ≡ Retired → commits t ≡ true → is_first P t ≡ false →
    step P (committed P ts) ≡ Goes (with_tenant P t (ahead P ts))
unfolding IsWhole
step_commits P ts t sound s e c nf =
    let on = retired_on t e in
    let placed = s.placed on in
    let all = placed.settled e in
    let n = needs_of P t t.fate s.own.fate (placed.can e) in
    ⊎_elim
    (λ d. ⊎_elim
    (λ (x : IsWhole P ts t). step_done P ts t sound all s.own placed x.0 x.2 x.1 d.0 d.1 n d.2
    (subst (LoadIs P ts (instr P t) (computed P t) (kind_of P t)) d.1 placed.load)
    ∙ ap (λ u. Goes (with_tenant P t u)) (sym x.2))
    (λ (x : (t.half ≡ High) × Waits P ts). step_pair P ts t sound all s.own placed x.0 x.1 d.0 d.1 n d.2)
    (whole_or_half P ts t sound all s.own placed nf))
    (λ d. ⊎_elim
    (λ (x : IsWhole P ts t). step_store P ts t sound all s.own placed x.0 x.2 x.1 d.0 on d.1 d.2 d.3 d.4 n
    ∙ ap (λ u. Goes (with_tenant P t u)) (sym x.2))
    (λ (x : (t.half ≡ High) × Waits P ts). absurd (no_store P ts t sound all s.own placed x.0 x.1 d.3))
    (whole_or_half P ts t sound all s.own placed nf))
    (retired_leaves P t ts s e c)

-- a tenant that stops is no half
step_stops : (P : Program) → (ts : List Tenant) (t : Tenant) → IsSound P ts → IsSoundAt P ts t →
    t.standing ≡ Retired → (c : Stop) → computed P t ≡ Stops c →
    Needs (kind_of P t) t.first.value t.second.value → step P (committed P ts) ≡ Halts c
unfolding IsWhole
step_stops P ts t sound s e c o n = go (is_first P t) refl
  where
    on : on_path t ≡ true
    on = retired_on t e

    go : (b : Bool) → is_first P t ≡ b → step P (committed P ts) ≡ Halts c
    go true f = absurd (pair_goes_on P t (and_left (is_pair (instr P t).op) (is_low t.half) f) c o)
    go false f = ⊎_elim
        (λ (x : IsWhole P ts t). step_end P ts t sound ((s.placed on).settled e) s.own (s.placed on) x.0 x.2 x.1 c o n)
        (λ (x : (t.half ≡ High) × Waits P ts). absurd (pair_goes_on P t (is_pair_here P ts t sound ((s.placed on).settled e) s.own (s.placed on) x.0 x.1) c o))
        (whole_or_half P ts t sound ((s.placed on).settled e) s.own (s.placed on) f)

pub commits_retired : (st : Standing) (f : Fate) → commits_by st f ≡ true → st ≡ Retired
commits_retired Live f h = absurd (true≢false (sym h))
commits_retired Squashed f h = absurd (true≢false (sym h))
commits_retired Retired f h = refl

completes_both : (P : Program) (t : Tenant) → completes P t ≡ true → (commits t ≡ true) × (is_first P t ≡ false)
completes_both P t e =
    (and_left (commits t) (not (is_first P t)) e, not_true (is_first P t) (and_right (commits t) (not (is_first P t)) e))
  where
    not_true : (b : Bool) → not b ≡ true → b ≡ false
    not_true true e = absurd (true≢false (sym e))
    not_true false e = refl

pub state_of : (P : Program) → (U : List Tenant) → IsSound P U →
    after P (committed P U).count ≡ Some (committed P U)
state_of P [] s = refl
state_of P (t ∷ ts) s = go (completes P t) refl (state_of P ts s.1)
  where
    Goal : State → Type 0
    Goal u = after P u.count ≡ Some u

    go : (b : Bool) → completes P t ≡ b → Goal (committed P ts) → Goal (committed P (t ∷ ts))
    go true c more =
        let both = completes_both P t c in
        let st = step_commits P ts t s.1 s.0 (commits_retired t.standing t.fate both.0) both.0 both.1 in
        let new : Goal (with_tenant P t (ahead P ts)) =
        ap (λ n. then_state P (after P n)) (sym (same_rest P ts).2) ∙ ap (then_state P) more ∙ ap next_state st in
        subst Goal (sym (committed_if P t ts true c)) new
    go false c more = subst Goal (sym (committed_if P t ts false c)) more

-- a tenant after one that retired is settled
settled_at : (ts : List Tenant) (p : ℕ) (t : Tenant) → AllByRecursion IsSettled ts → at ts p ≡ Some t →
    IsSettled t
settled_at [] p t h e = absurd (cc)
settled_at (u ∷ us) p t h e = go (eqb p (length us)) refl (settled_at us p t h.1)
  where
    go : (b : Bool) → eqb p (length us) ≡ b → (at us p ≡ Some t → IsSettled t) → IsSettled t
    go true q more = let same : u ≡ t = cc (rw q at e) in subst IsSettled same h.0
    go false q more = more (rw q at e)

pub stops_of : (P : Program) → (U : List Tenant) → IsSound P U → (p : ℕ) (t : Tenant) (c : Stop) →
    at U p ≡ Some t → t.standing ≡ Retired → t.fate ≡ Stopped c → stop P (committed P U).count ≡ Some c
stops_of P [] s p t c e er ef = absurd (cc)
stops_of P (u ∷ us) s p t c e er ef =
    go (eqb p (length us)) refl (completes P u) refl (λ q. stops_of P us s.1 p t c q er ef)
  where
    Goal : State → Type 0
    Goal v = stop P v.count ≡ Some c

    go : (b : Bool) → eqb p (length us) ≡ b → (b' : Bool) → completes P u ≡ b' →
        (at us p ≡ Some t → Goal (committed P us)) → Goal (committed P (u ∷ us))
    go true q false k more =
        let same : t ≡ u = cc (rw q at e) in
        let er' : u.standing ≡ Retired = ap (λ x. x.standing) (sym same) ∙ er in
        let ef' : u.fate ≡ Stopped c = ap (λ x. x.fate) (sym same) ∙ ef in
        let placed = s.0.placed (retired_on u er') in
        let f = subst (FateIs P u) ef' s.0.own.fate in
        let st = step_stops P us u s.1 s.0 er' c f.1 f.2 in
        let new : Goal (committed P us) = ap (then_stop P) (state_of P us s.1) ∙ ap stop_of st in
        subst Goal (sym (committed_if P u us false k)) new
    go true q true k more =
        let same : t ≡ u = cc (rw q at e) in
        let er' : u.standing ≡ Retired = ap (λ x. x.standing) (sym same) ∙ er in
        let ef' : u.fate ≡ Stopped c = ap (λ x. x.fate) (sym same) ∙ ef in
        let not : commits u ≡ false = ap (λ x. commits_by x u.fate) er' ∙ ap (commits_by Retired) ef' in
        absurd (true≢false (sym (completes_both P u k).0 ∙ not))
    go false q false k more = subst Goal (sym (committed_if P u us false k)) (more (rw q at e))
    go false q true k more =
        let er' = commits_retired u.standing u.fate (completes_both P u k).0 in
        let placed = s.0.placed (retired_on u er') in
        let there = settled_at us p t (placed.settled er') (rw q at e) in
        absurd (subst (SettledBy Retired) ef (subst (λ x. SettledBy x t.fate) er there))

pub in_order : (P : Program) → (U : List Tenant) → IsSound P U → IsInOrder P U
in_order P U s = record { state = state_of P U s; stops = stops_of P U s }
