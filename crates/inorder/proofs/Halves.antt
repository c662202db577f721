-- Between the two halves of an instruction: what waits for the second.
use Rattle.std.proofs.Common.{◌≡◌, ◌⊎◌, Bool, true, false, cond, ◌&&◌, not, List, [], ◌∷◌, refl, sym, ap, ◌∙◌, inl, inr, true≢false, subst}
use Rattle.std.specs.List.{AllByRecursion}
use Rattle.instructions.specs.Instruction.{is_low, is_pair}
use Rattle.instructions.specs.Programs.{Program}
use Rattle.instructions.specs.declared.op.Half.{Half}
use Rattle.instructions.specs.declared.op.Half.TheVariants.{High, Low}
use Rattle.inorder.specs.Committed.{ahead, commits, committed, completes, with_first, with_retired}
use Rattle.inorder.specs.Tenants.{Retired, Squashed, Tenant, behind, behind_by, instr, is_first, on_path}
use Rattle.inorder.specs.Unit.{front_half, front_pc, half_after}
use Rattle.inorder.proofs.Pairs.{and_right, first_half_computes}
use Rattle.inorder.proofs.SettledRegisters.{ahead_if, committed_if, retired_on, settled_cases, squashed_not, squashed_off}
use Rattle.inorder.proofs.Sound.{GoesOn, IsSettled, IsSound, IsSoundAt}

half_if : (P : Program) (t : Tenant) (ts : List Tenant) (b : Bool) → on_path t ≡ b →
    front_half P (t ∷ ts) ≡ cond b (half_after (is_first P t)) (front_half P ts)
half_if P t ts b e = ap (λ x. cond x (half_after (is_first P t)) (front_half P ts)) e

pub completes_if : (P : Program) (t : Tenant) (c f : Bool) → commits t ≡ c → is_first P t ≡ f →
    completes P t ≡ (c && not f)
completes_if P t c f e g = ap (λ x. x && not (is_first P t)) e ∙ ap (λ x. c && not x) g

low_is : (half : Half) → is_low half ≡ true → half ≡ Low
low_is Low e = refl
low_is High e = absurd (true≢false (sym e))

pub first_low : (P : Program) (t : Tenant) → is_first P t ≡ true → t.half ≡ Low
first_low P t e = low_is t.half (and_right (is_pair (instr P t).op) (is_low t.half) e)

-- where no first half waits, all that has retired is committed
pub none_waits : (P : Program) (ts : List Tenant) → AllByRecursion IsSettled ts → front_half P ts ≡ Low →
    ahead P ts ≡ committed P ts
none_waits P [] h e = refl
none_waits P (t ∷ ts) h e = go (settled_cases t.standing t.fate h.0) (none_waits P ts h.1)
  where
    Goal : Type 0
    Goal = ahead P (t ∷ ts) ≡ committed P (t ∷ ts)

    test : (f : Bool) → is_first P t ≡ f → commits t ≡ true → half_after f ≡ Low → Goal
    test true g c low = absurd (cc)
    test false g c low =
        ahead_if P t ts true c ∙ ap (λ b. with_retired b P t (ahead P ts)) g
        ∙ sym (committed_if P t ts true (completes_if P t true false c g))

    go : (t.standing ≡ Squashed) ⊎ ((t.standing ≡ Retired) × (commits t ≡ true)) →
        (front_half P ts ≡ Low → ahead P ts ≡ committed P ts) → Goal
    go (inl q) more =
        let off = squashed_off t q in
        let not = squashed_not t q in
        ahead_if P t ts false not ∙ more (sym (half_if P t ts false off) ∙ e)
        ∙ sym (committed_if P t ts false (completes_if P t false (is_first P t) not refl))
    go (inr q) more =
        test (is_first P t) refl q.1 (sym (half_if P t ts true (retired_on t q.0)) ∙ e)

-- the first half that waits
pub record Waits (P : Program) (ts : List Tenant) : Type 0 where
  pub first : Tenant
  pub before : List Tenant
  pub sound : IsSound P before
  pub settled : AllByRecursion IsSettled before
  pub own : IsSoundAt P before first
  pub retired : first.standing ≡ Retired
  pub commits_is : commits first ≡ true
  pub is : is_first P first ≡ true
  pub pc : front_pc ts ≡ first.pc
  pub ahead_is : ahead P ts ≡ with_first P first (committed P ts)
  pub kept : committed P ts ≡ committed P before
  pub level : ahead P before ≡ committed P before

pub waits : (P : Program) (ts : List Tenant) → IsSound P ts → AllByRecursion IsSettled ts →
    front_half P ts ≡ High → Waits P ts
waits P [] s h e = absurd (cc)
waits P (t ∷ ts) s h e = go (settled_cases t.standing t.fate h.0) (waits P ts s.1 h.1)
  where
    test : (f : Bool) → is_first P t ≡ f → t.standing ≡ Retired → commits t ≡ true → half_after f ≡ High →
        Waits P (t ∷ ts)
    test false g q c high = absurd (cc)
    test true g q c high =
        let on = retired_on t q in
        let k = first_half_computes (instr P t).op t.half g in
        let n : t.next ≡ behind P t = subst (λ x. GoesOn x (behind P t) t.next) k s.0.own.goes_on in
        let half : t.half ≡ Low = first_low P t g in
        let level = none_waits P ts h.1 (sym (s.0.placed on).half ∙ half) in
        let same = committed_if P t ts false (completes_if P t true true c g) in
        record {
          first = t;
          before = ts;
          sound = s.1;
          settled = h.1;
          own = s.0;
          retired = q;
          commits_is = c;
          is = g;
          pc = ap (λ b. cond b t.next (front_pc ts)) on ∙ n ∙ ap (λ b. behind_by b t.pc) g;
          ahead_is =
              ahead_if P t ts true c ∙ ap (λ b. with_retired b P t (ahead P ts)) g
              ∙ ap (with_first P t) (level ∙ sym same);
          kept = same;
          level = level;
        }

    go : (t.standing ≡ Squashed) ⊎ ((t.standing ≡ Retired) × (commits t ≡ true)) →
        (front_half P ts ≡ High → Waits P ts) → Waits P (t ∷ ts)
    go (inl q) more =
        let off = squashed_off t q in
        let not = squashed_not t q in
        let w = more (sym (half_if P t ts false off) ∙ e) in
        let same = committed_if P t ts false (completes_if P t false (is_first P t) not refl) in
        record {
          first = w.first;
          before = w.before;
          sound = w.sound;
          settled = w.settled;
          own = w.own;
          retired = w.retired;
          commits_is = w.commits_is;
          is = w.is;
          pc = ap (λ b. cond b t.next (front_pc ts)) off ∙ w.pc;
          ahead_is = ahead_if P t ts false not ∙ w.ahead_is ∙ ap (with_first P w.first) (sym same);
          kept = same ∙ w.kept;
          level = w.level;
        }
    go (inr q) more =
        test (is_first P t) refl q.0 q.1 (sym (half_if P t ts true (retired_on t q.0)) ∙ e)
