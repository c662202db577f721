-- A new tenant is sound.
use Rattle.std.proofs.Common.{◌≡◌, ℕ, Bool, true, false, List, Option, Some, refl, sym, ap, ◌∙◌, subst, rules}
use Rattle.std.specs.Prelude.{IfSome}
use Rattle.instructions.specs.Instruction.{first_of, fixed_next, fixed_next_by, fixed_next_if, is_first_half, kind, pc_plus_4, second_of}
use Rattle.instructions.specs.Programs.{Program, instr_of}
use Rattle.instructions.specs.declared.instr.Instr.{Instr}
use Rattle.instructions.specs.declared.op.Half.{Half}
use Rattle.instructions.specs.declared.op.Kind.{Kind}
use Rattle.instructions.specs.declared.op.Kind.TheVariants.{Computes, Jumps, Links, Loads, Stores}
use Rattle.instructions.specs.declared.op.Op.{Op}
use Rattle.instructions.specs.declared.op.Op.TheVariants.{Addu}
use Rattle.instructions.specs.declared.stop.Outcome.{Outcome}
use Rattle.inorder.specs.declared.history.Supply.{Supply}
use Rattle.inorder.specs.declared.history.Supply.TheVariants.{From, Known}
use Rattle.inorder.specs.Steps.{MayLet, MaySupply, let_operand, new_tenant}
use Rattle.inorder.specs.Tenants.{Open, Tenant, behind_by}
use Rattle.inorder.specs.Unit.{Sizes, UpdateUnit, creator, front_half, front_pc, next_station, recent}
use Rattle.inorder.proofs.Pairs.{first_half_computes}
use Rattle.inorder.proofs.Sound.{GoesOn, IsSoundAt, LoadIs, ValueIs}

-- Let

pub let_value : (P : Program) (U : UpdateUnit) (station : ℕ) (c : Option ℕ) (s : Supply) →
    MaySupply P U station c s → ValueIs U.tenants (let_operand c s)
let_value P U station c (Known v) m w e = let same : v ≡ w = cc in m ∙ ap Some same
let_value P U station c From m w e = absurd (cc)

pub let_creator : (c : Option ℕ) (s : Supply) → (let_operand c s).creator ≡ c
let_creator c (Known v) = refl
let_creator c From = refl

-- only a jump is predicted to go on elsewhere than after itself
pub predicted_by : (op : Op) (pc n predicted : ℕ) → IfSome (fixed_next_by op pc n) (λ x. predicted ≡ x) →
    GoesOn (kind op) (pc_plus_4 pc) predicted
predicted_by Addu pc n predicted h = h
predicted_by op pc n predicted h = search rules

pub predicted_on : (i : Instr) (half : Half) (pc predicted : ℕ) → IfSome (fixed_next i half pc) (λ x. predicted ≡ x) →
    GoesOn (kind i.op) (behind_by (is_first_half i.op half) pc) predicted
predicted_on i half pc predicted = go (is_first_half i.op half) refl
  where
    go : (b : Bool) → is_first_half i.op half ≡ b → IfSome (fixed_next_if b i pc) (λ x. predicted ≡ x) →
        GoesOn (kind i.op) (behind_by b pc) predicted
    go true e h = subst (λ k. GoesOn k pc predicted) (sym (first_half_computes i.op half e)) h
    go false e h = predicted_by i.op pc i.number predicted h

pub load_open : (P : Program) (ts : List Tenant) (i : Instr) (o : Outcome) (k : Kind) → LoadIs P ts i o k Open
load_open P ts i o Computes = tt
load_open P ts i o Jumps = tt
load_open P ts i o Links = tt
load_open P ts i o Loads = tt
load_open P ts i o Stores = tt

pub let_sound : (P : Program) (C : Sizes) (U : UpdateUnit) (index predicted : ℕ) (first second : Supply) →
    MayLet P C U index predicted first second →
    IsSoundAt P U.tenants (new_tenant P C U index predicted first second)
let_sound P C U index predicted first second m =
    record {
      own = record {
        first =
            let_value P U (next_station C (recent U)) (creator P U.tenants
            (first_of (instr_of P index))) first m.first_is;
        second =
            let_value P U (next_station C (recent U)) (creator P U.tenants
            (second_of (instr_of P index))) second m.second_is;
        place = m.pc;
        inside = m.is_there;
        goes_on =
            predicted_on (instr_of P index) (front_half P U.tenants) (front_pc U.tenants) predicted m.predicts;
        fate = (refl, refl);
      };
      placed = λ on. record {
        first = let_creator (creator P U.tenants (first_of (instr_of P index))) first;
        second = let_creator (creator P U.tenants (second_of (instr_of P index))) second;
        pc = refl;
        half = refl;
        load = load_open P U.tenants (instr_of P index) _ (kind (instr_of P index).op);
        settled = λ e. absurd (cc);
        can = λ e. absurd (cc);
      };
    }
