-- A tenant may be let where nobody is live and there is an instruction to go on with.
use Rattle.std.proofs.Common.{◌≡◌, ◌≢◌, ℕ, suc, ◌+◌, ◌*◌, ◌%◌, ◌<◌, ◌≤◌, ◌^◌, Bool, true, false, cond, ◌&&◌, List, [], ◌∷◌, length, Option, Some, None, refl, sym, ap, ◌∙◌, subst, arith}
use Rattle.std.specs.Prelude.{IfSome, slice_index}
use Rattle.std.specs.List.{AllByRecursion}
use Rattle.instructions.specs.Instruction.{first_of, fixed_next, fixed_next_by, fixed_next_if, is_access, is_first_half, kind, second_of}
use Rattle.instructions.specs.Programs.{Program, address, instr_at, instr_of}
use Rattle.instructions.specs.declared.instr.Instr.{Instr}
use Rattle.instructions.specs.declared.op.Half.{Half}
use Rattle.instructions.specs.declared.op.Op.{Op}
use Rattle.instructions.specs.declared.op.Op.TheVariants.{Beq, Bgez, Bgtz, Blez, Bltz, Bne, J, Jal, Jalr, Jr}
use Rattle.inorder.specs.declared.history.Step.TheVariants.{Let}
use Rattle.inorder.specs.declared.history.Supply.TheVariants.{Known}
use Rattle.inorder.specs.Committed.{ahead, committed}
use Rattle.inorder.specs.Numbers.{HasWords}
use Rattle.inorder.specs.Progress.{CanGoOn, HasRoom}
use Rattle.inorder.specs.Steps.{IsNoRetiredStop, MayLet}
use Rattle.inorder.specs.Tenants.{IsNotLive, Live, Retired, Squashed, Standing, Tenant, is_live, is_live_access, kind_of, stands_live}
use Rattle.inorder.specs.Unit.{Sizes, UpdateUnit, front_half, front_pc, how_many}
use Rattle.inorder.proofs.OneCaller.Creators.{IsAt, found_at}
use Rattle.inorder.proofs.GoesOn.Going.{all_settled}
use Rattle.inorder.proofs.SettledRegisters.{committed_pc, source_given}
use Rattle.inorder.proofs.Sound.{IsSettled, IsSound}

-- The predicted next pc

abbrev pub chosen : Option ℕ → ℕ
chosen None = 0
chosen (Some x) = x

chosen_is : (o : Option ℕ) → IfSome o (λ x. chosen o ≡ x)
chosen_is None = tt
chosen_is (Some x) = refl

fixed_by : (op : Op) (pc to : ℕ) → pc < 4294967296 → to < 4294967296 → chosen (fixed_next_by op pc to) < 4294967296
fixed_by J pc to h w = w
fixed_by Jal pc to h w = w
fixed_by Jr pc to h w = omega arith
fixed_by Jalr pc to h w = omega arith
fixed_by Beq pc to h w = omega arith
fixed_by Bne pc to h w = omega arith
fixed_by Blez pc to h w = omega arith
fixed_by Bgtz pc to h w = omega arith
fixed_by Bltz pc to h w = omega arith
fixed_by Bgez pc to h w = omega arith
fixed_by _ pc to h w = omega arith

fixed_small : (i : Instr) (half : Half) (pc : ℕ) → pc < 4294967296 → i.number < 4294967296 → chosen (fixed_next i half pc) < 4294967296
fixed_small i half pc h w = go (is_first_half i.op half)
  where
    go : (b : Bool) → chosen (fixed_next_if b i pc) < 4294967296
    go true = h
    go false = fixed_by i.op pc i.number h w

-- Nobody is live

pub off : (st : Standing) → st ≢ Live → stands_live st ≡ false
off Live n = absurd (n refl)
off Retired n = refl
off Squashed n = refl

none_counted : (test : Tenant → Bool) (ts : List Tenant) → ((t : Tenant) → IsNotLive t → test t ≡ false) → AllByRecursion IsNotLive ts → how_many test ts ≡ 0
none_counted test [] h n = refl
none_counted test (t ∷ ts) h n = ap (λ b. cond b (suc (how_many test ts)) (how_many test ts)) (h t n.0) ∙ none_counted test ts h n.1

module _ (P : Program) (C : Sizes) (U : UpdateUnit) (s : IsSound P U.tenants) (words : HasWords P) (room : HasRoom C)
    (goes_on : AllByRecursion IsNoRetiredStop U.tenants) (nobody : AllByRecursion IsNotLive U.tenants) where
  abbrev us : List Tenant
  us = U.tenants

  gone : AllByRecursion IsSettled us
  gone = all_settled us nobody goes_on

  module _ (i : Instr) (e : instr_at P (committed P us).pc ≡ Some i) where
    abbrev here : IsAt P (committed P us).pc i
    here = found_at P (committed P us).pc i e

    abbrev k : ℕ
    k = here.index

    pc_is : front_pc us ≡ address k
    pc_is = sym (committed_pc P us s gone) ∙ here.pc

    pc_small : front_pc us < 4294967296
    pc_small = let inside = here.inside in let few = words.code in omega (arith, pc_is, inside, few)

    abbrev next : ℕ
    next = chosen (fixed_next (instr_of P k) (front_half P us) (front_pc us))

    abbrev first : ℕ
    first = slice_index (ahead P us).registers (first_of (instr_of P k))

    abbrev second : ℕ
    second = slice_index (ahead P us).registers (second_of (instr_of P k))

    may : MayLet P C U k next (Known first) (Known second)
    may = record {
      room = let none = none_counted is_live us (λ t n. off t.standing n) nobody in let some = room.ring in omega (arith, none, some);
      queue = λ q.
          let none = none_counted (is_live_access P) us (λ t n. ap (λ b. b && is_access (kind_of P t)) (off t.standing n)) nobody in
          let some = room.queue in omega (arith, none, some);
      is_there = here.inside;
      pc = pc_is;
      small = fixed_small (instr_of P k) (front_half P us) (front_pc us) pc_small (words.numbers k);
      predicts = chosen_is (fixed_next (instr_of P k) (front_half P us) (front_pc us));
      first_is = source_given P us s gone (first_of (instr_of P k));
      second_is = source_given P us s gone (second_of (instr_of P k));
    }

    pub can_let : CanGoOn P C U
    can_let = record { by = 0; step = Let k next (Known first) (Known second); brings_on = tt; may = may }
