-- The unit of two tenants, of which the second waits for what the first makes, step by step.
use Rattle.std.proofs.Common.{◌≡◌, ◌≢◌, ◌⊎◌, ℕ, ◌+◌, ◌%◌, ◌<◌, ◌^◌, Bool, [], ◌∷◌, Some, None, IfSome, ◌∙◌}
use Rattle.std.proofs.Common.{zero, suc, true, false, cond, eqb, refl, sym, ap, subst, inl, inr, arith, eq-eqb, ne_eqb, lt-ltb, mod-eq_of_lt}
use mathlib.Core.Logic.{dite}
use native.Mathlib.Decide.{ℕ_discrete}
use Rattle.instructions.specs.Instruction.{first_of, fixed_next, fixed_next_if, is_access, is_first_half, second_of}
use Rattle.instructions.specs.Programs.{Program, address, instr_of, text_start}
use Rattle.instructions.specs.declared.instr.Instr.{Instr}
use Rattle.instructions.specs.declared.op.Half.TheVariants.{Low}
use Rattle.instructions.specs.declared.op.Kind.TheVariants.{Computes, Links}
use Rattle.instructions.specs.declared.stop.Outcome.{Outcome}
use Rattle.instructions.specs.declared.stop.Outcome.TheVariants.{Value}
use Rattle.inorder.specs.declared.history.Supply.TheVariants.{From, Known}
use Rattle.inorder.specs.Replies.{last_tag}
use Rattle.inorder.specs.Steps.{MayLet, new_tenant}
use Rattle.inorder.specs.Tenants.{Tenant, made_at_let}
use Rattle.inorder.specs.Unit.{Sizes, UpdateUnit, at, can_be_written, creator, empty_unit, front_half, front_pc, half_after, how_many, next_station, next_tag, recent, value_of}
use Rattle.client.specs.Chains.{IsChain, passed}

-- Instructions

-- a first half stays where it is, so the first instruction is none
whole : (b : Bool) (i : Instr) → fixed_next_if b i text_start ≡ Some (address 1) → b ≡ false
whole true i e = let same : text_start ≡ address 1 = cc e in absurd (omega arith)
whole false i e = refl

register_small : (P : Program) (r : ℕ) → 0 < r → r < 34 → can_be_written r ≡ true
register_small P zero p q = absurd (omega arith)
register_small P (suc r) p q = lt-ltb (suc r) 34 q

one_value : (v w : Outcome) (a : ℕ) → v ≡ w → v ≡ Value a → w ≡ Value a
one_value v w a e f = sym e ∙ f

-- of two tenants
pub two_at : (b a t : Tenant) (p : ℕ) → at (b ∷ a ∷ []) p ≡ Some t → ((p ≡ 1) × (b ≡ t)) ⊎ ((p ≡ 0) × (a ≡ t))
two_at b a t p e = dite (ℕ_discrete p 1)
    (λ one. let here : Some b ≡ Some t = sym (ap (at (b ∷ a ∷ [])) one) ∙ e in inl (one, cc here))
    (λ not_one. dite (ℕ_discrete p 0)
    (λ none. let here : Some a ≡ Some t = sym (ap (at (b ∷ a ∷ [])) none) ∙ e in inr (none, cc here))
    (λ not_none.
    let skip : at (b ∷ a ∷ []) p ≡ at (a ∷ []) p = ap (λ x. cond x (Some b) (at (a ∷ []) p)) (ne_eqb p 1 not_one) in
    let nobody : at (a ∷ []) p ≡ None = ap (λ x. cond x (Some a) None) (ne_eqb p 0 not_none) in
    let no : None ≡ Some t = sym (skip ∙ nobody) ∙ e in
    absurd (cc no)))

-- the first, let where nothing was
abbrev pub a_of : Program → Sizes → Tenant
a_of P C = new_tenant P C empty_unit 0 (address 1) (Known 0) (Known 0)

abbrev pub one_of : Program → Sizes → UpdateUnit
one_of P C = record { tenants = a_of P C ∷ []; fresh = 1 }

module _ (P : Program) (C : Sizes) (chain : IsChain P) (ring : 1 < C.ring) (queue : 0 < C.queue) (tags : C.first_tag < last_tag) where
  abbrev a : Tenant
  a = a_of P C

  abbrev one : UpdateUnit
  one = one_of P C

  pub first_station : next_station C [] ≡ 0
  first_station = zero_mod C.ring ring
    where
      zero_mod : (n : ℕ) → 1 < n → 0 % n ≡ 0
      zero_mod n h = omega arith

  pub second_station : next_station C (recent one) ≡ 1
  second_station = one_mod C.ring ring
    where
      one_mod : (n : ℕ) → 1 < n → 1 % n ≡ 1
      one_mod n h = mod-eq_of_lt h

  pub made_none : a.made ≡ None
  made_none = ap (λ k. made_at_let k (front_pc [])) chain.computes

  -- its register was written by it, and no other was
  is_whole : is_first_half (instr_of P 0).op Low ≡ false
  is_whole = whole (is_first_half (instr_of P 0).op Low) (instr_of P 0) chain.goes_on

  creator_is : creator P (a ∷ []) (passed P) ≡ Some 0
  creator_is = (λ i. cond (register_small P (passed P) chain.writes chain.small i) (cond (eq-eqb (passed P) (passed P) refl i) (Some 0) None) None)

  pub reads_it : creator P (a ∷ []) (first_of (instr_of P 1)) ≡ Some 0
  reads_it = ap (creator P (a ∷ [])) chain.reads ∙ creator_is

  no_other : (r : ℕ) → r ≢ passed P → value_of (a ∷ []) (creator P (a ∷ []) r) ≡ Some 0
  no_other r ne = ap (λ b. value_of (a ∷ []) (cond (can_be_written r) (cond b (Some 0) None) None)) (ne_eqb (passed P) r (λ e. ne (sym e))) ∙ either (can_be_written r)
    where
      either : (b : Bool) → value_of (a ∷ []) (cond b None None) ≡ Some 0
      either true = refl
      either false = refl

  -- the second may be let then, with its source from the first
  pub next_half : front_half P (a ∷ []) ≡ Low
  next_half = ap half_after is_whole

  pub may_let_second : (predicted : ℕ) → predicted < 2 ^ 32 → IfSome (fixed_next (instr_of P 1) Low (address 1)) (λ x. predicted ≡ x) → MayLet P C one 1 predicted From (Known 0)
  may_let_second predicted word predicts = record {
    room = ring;
    queue = λ e. subst (λ k. cond (is_access k) 1 0 < C.queue) (sym chain.computes) queue;
    is_there = chain.two;
    pc = refl;
    small = word;
    predicts = subst (λ h. IfSome (fixed_next (instr_of P 1) h (address 1)) (λ x. predicted ≡ x)) (sym next_half) predicts;
    first_is = record {
      p = 0;
      tenant = a;
      creates = reads_it;
      is = refl;
      waits = λ e. let k : Computes ≡ Links = sym chain.computes ∙ e in cc k;
      other = λ e. let k : 0 ≡ 1 = sym first_station ∙ (e ∙ second_station) in cc k;
      last = tt;
      new = refl;
    };
    second_is = no_other (second_of (instr_of P 1)) chain.alone;
  }

  pub low_half : Low ≡ front_half P one.tenants
  low_half = sym next_half

  pub small_tag : next_tag C (recent one) < last_tag
  small_tag = subst (λ n. C.first_tag + n < last_tag) (sym none_there) (omega arith)
    where
      apart : a.station ≢ next_station C (recent one)
      apart e = let k : 0 ≡ 1 = sym first_station ∙ (e ∙ second_station) in cc k

      none_there : how_many (λ t. eqb t.station (next_station C (recent one))) (a ∷ []) ≡ 0
      none_there = ap (λ b. cond b 1 0) (ne_eqb a.station (next_station C (recent one)) apart)
