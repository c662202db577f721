-- The load that the instruction at an index is.
use Rattle.std.proofs.Common.{◌≡◌, ℕ, ◌+◌, ◌<◌, ◌≤◌, Bool, true, false, cond, leb, leb-true, ltb, length, Some, None, refl, sym, ap, ◌∙◌, subst}
use Rattle.std.proofs.lemmas.Bool.{le-leb, lt-ltb}
use Rattle.instructions.specs.Instruction.{kind, width}
use Rattle.instructions.specs.Programs.{Program, instr_of}
use Rattle.instructions.specs.declared.instr.Instr.{Instr}
use Rattle.instructions.specs.declared.op.Kind.{Kind}
use Rattle.instructions.specs.declared.op.Kind.TheVariants.{Computes, Jumps, Links, Loads, Stores}
use Rattle.back.specs.Trials.{load_of_index, load_of_kind}
use Rattle.back.specs.declared.port.Load.{Load}

-- what a load that was read says
pub record IsThatLoad (P : Program) (index tag address : ℕ) (l : Load) : Type 0 where
  pub tag_is : l.tag ≡ tag
  pub address_is : l.address ≡ address
  pub op_is : l.op ≡ (instr_of P index).op
  pub kind_is : kind (instr_of P index).op ≡ Loads
  pub inside : l.address + width l.op ≤ length P.bytes

by_kind : (k : Kind) (size : ℕ) (i : Instr) (tag address : ℕ) (l : Load) → load_of_kind k size i tag address ≡ Some l → (k ≡ Loads) × (address + width i.op ≤ size) ×
    (record { tag = tag; address = address; op = i.op } ≡ l)
by_kind Loads size i tag address l e = go (leb (address + width i.op) size) refl e
  where
    go : (b : Bool) → leb (address + width i.op) size ≡ b → cond b (Some (record { tag = tag; address = address; op = i.op })) None ≡ Some l → (Loads ≡ Loads) × (address + width i.op ≤ size) ×
        (record { tag = tag; address = address; op = i.op } ≡ l)
    go true le h = (refl, leb-true (address + width i.op) size le, cc h)
    go false le h = absurd (cc h)
by_kind Computes size i tag address l e = absurd (cc e)
by_kind Jumps size i tag address l e = absurd (cc e)
by_kind Links size i tag address l e = absurd (cc e)
by_kind Stores size i tag address l e = absurd (cc e)

pub load_says : (P : Program) (index tag address : ℕ) (l : Load) → load_of_index P index tag address ≡ Some l → IsThatLoad P index tag address l
load_says P index tag address l e = go (ltb index (length P.code)) e
  where
    go : (b : Bool) → cond b (load_of_kind (kind (instr_of P index).op) (length P.bytes) (instr_of P index) tag address) None ≡ Some l → IsThatLoad P index tag address l
    go true h =
        let z = by_kind (kind (instr_of P index).op) (length P.bytes) (instr_of P index) tag address l h in
        record {
          tag_is = ap (λ (x : Load). x.tag) (sym z.2);
          address_is = ap (λ (x : Load). x.address) (sym z.2);
          op_is = ap (λ (x : Load). x.op) (sym z.2);
          kind_is = z.0;
          inside = subst (λ (x : Load). x.address + width x.op ≤ length P.bytes) z.2 z.1;
        }
    go false h = absurd (cc h)

-- a load that is there would have been read
pub load_there : (P : Program) (index tag address : ℕ) → index < length P.code →
    kind (instr_of P index).op ≡ Loads → address + width (instr_of P index).op ≤ length P.bytes →
    load_of_index P index tag address ≡ None → ⊥
load_there P index tag address small k fits e =
    let b = lt-ltb index (length P.code) small in
    let c = le-leb (address + width (instr_of P index).op) (length P.bytes) fits in
    let some : load_of_index P index tag address ≡ Some (record { tag = tag; address = address; op = (instr_of P index).op }) =
    ap (λ z. cond z (load_of_kind (kind (instr_of P index).op) (length P.bytes) (instr_of P index) tag address) None) b
    ∙ (ap (λ q. load_of_kind q (length P.bytes) (instr_of P index) tag address) k
    ∙ ap (λ z. cond z (Some (record { tag = tag; address = address; op = (instr_of P index).op })) None) c) in
    let x = sym e ∙ some in absurd (cc x)
