-- A step over a text is the machine's.
use Rattle.std.proofs.Common.{◌≡◌, ℕ, zero, suc, ◌-◌, ◌/◌, ◌<◌, ◌≤◌, Bool, true, false, eqb, eqb-true, List, [], length, Option, None, Some, refl, sym, ap, ◌∙◌, subst, ⊎_elim}
use Rattle.std.specs.Prelude.{slice_get, slice_index}
use Rattle.std.proofs.lemmas.Option.{slice_get-get_or, slice_get_cases, slice_get_past}
use Rattle.instructions.specs.declared.instr.Instr.{Instr}
use Rattle.instructions.specs.Instruction.{first_of, kind, second_of, width}
use Rattle.instructions.specs.declared.op.Kind.{Kind}
use Rattle.instructions.specs.declared.op.Kind.TheVariants.{Computes, Jumps, Links, Loads, Stores}
use Rattle.instructions.specs.declared.stop.Outcome.{Outcome}
use Rattle.instructions.specs.declared.stop.Outcome.TheVariants.{Address, Next, Pair, Stop as Stops, Value}
use Rattle.instructions.specs.Operations.{outcome}
use Rattle.instructions.specs.Programs.{Program, address, instr_at, instr_of, text_start}
use Rattle.inorder.specs.Machine.{Goes, Halts, Ran, State, after_access, fetched, ran, step}
use Rattle.inorder.specs.Runs.{end_after, end_from}
use Rattle.inorder.proofs.Basics.{length_put}
use Rattle.encoding.specs.Layouts.{operation_of}
use Rattle.encoding.specs.Words.{decode, decode_as}
use Rattle.lockstep.specs.Step.{step_at, step_by, step_over, word_at}
use Rattle.lockstep.specs.Law.{ARunIsTheMachines, AStepIsTheMachines, IsTextOf, end_behind, end_over}

-- a word is decoded as one of its operation
pub decoded_as : (pc word : ℕ) → decode pc word ≡ decode_as pc word (operation_of word)
unfolding decode
decoded_as pc word = refl

-- only the size of a program's data is read
sized : (P : Program) (s : State) (i : Instr) → length s.memory ≡ length P.bytes →
    step_by s (Some i) ≡ Some (fetched P s (Some i))
sized P s i e =
    ap (λ n. Some (ran s i (outcome i s.pc (slice_index s.registers (first_of i)) (slice_index s.registers (second_of i)) n))) e

at_word : (P : Program) (text : List ℕ) (s : State) (k : ℕ) → IsTextOf text P → length s.memory ≡ length P.bytes → address k ≡ s.pc →
    step_at s (slice_get text k) ≡ Some (fetched P s (slice_get P.code k))
at_word P text s k h e here =
    ⊎_elim
    (λ y.
    let w = y.0 in
    let inside : k < length P.code = subst (λ n. k < n) h.as_long y.1 in
    let said : decode s.pc w ≡ Some (instr_of P k) = subst (λ a. decode a w ≡ Some (instr_of P k)) here (h.says k w y.2) in
    ap (step_at s) y.2 ∙ (ap (step_by s) said ∙ (sized P s (instr_of P k) e ∙
    ap (λ o. Some (fetched P s o)) (sym (slice_get-get_or P.code k _ inside)))))
    (λ y.
    let past : length P.code ≤ k = subst (λ n. n ≤ k) h.as_long y.0 in
    ap (step_at s) y.1 ∙ ap (λ o. Some (fetched P s o)) (sym (slice_get_past P.code k past)))
    (slice_get_cases text k).1

pub the_step : AStepIsTheMachines
unfolding word_at instr_at
the_step P text s h e = go (eqb (address ((s.pc - text_start) / 4)) s.pc) refl
  where
    go : (b : Bool) → eqb (address ((s.pc - text_start) / 4)) s.pc ≡ b → step_over text s ≡ Some (step P s)
    go true t = rw t (at_word P text s ((s.pc - text_start) / 4) h e (eqb-true _ _ t))
    go false t = rw t refl

-- Memory keeps its length

-- a step that goes on leaves as much memory
abbrev KeepsLength : State → Ran → Type 0
KeepsLength s (Goes t) = length t.memory ≡ length s.memory
KeepsLength s (Halts c) = Unit {0}

by_kind : (k : Kind) (s : State) (i : Instr) (a : ℕ) → KeepsLength s (Goes (after_access k s i a))
by_kind Computes s i a = refl
by_kind Jumps s i a = refl
by_kind Links s i a = refl
by_kind Loads s i a = refl
by_kind Stores s i a = length_put s.memory a (width i.op) (slice_index s.registers (second_of i))

by_outcome : (s : State) (i : Instr) (o : Outcome) → KeepsLength s (ran s i o)
by_outcome s i (Value v) = refl
by_outcome s i (Next x) = refl
by_outcome s i (Address a) = by_kind (kind i.op) s i a
by_outcome s i (Stops c) = tt
by_outcome s i (Pair l h) = refl

by_fetch : (P : Program) (s : State) (o : Option Instr) → KeepsLength s (fetched P s o)
by_fetch P s None = tt
by_fetch P s (Some i) = by_outcome s i _

-- Runs

pub the_run : ARunIsTheMachines
the_run P text zero s h e = refl
the_run P text (suc k) s h e =
    ap (end_behind (end_over text k) s) (the_step P text s h e)
    ∙ go (step P s) (by_fetch P s (instr_at P s.pc)) (λ t l. the_run P text k t h l)
  where
    go : (r : Ran) → KeepsLength s r → ((t : State) → length t.memory ≡ length P.bytes → end_over text k t ≡ Some (end_from P k t)) →
        end_behind (end_over text k) s (Some r) ≡ Some (end_after (end_from P k) s r)
    go (Goes t) l more = more t (l ∙ e)
    go (Halts c) l more = refl

pub step_keeps : (text : List ℕ) (s t : State) → step_over text s ≡ Some (Goes t) → length t.memory ≡ length s.memory
step_keeps text s t e = by_word (word_at text s.pc) e
  where
    by_said : (o : Option Instr) → step_by s o ≡ Some (Goes t) → length t.memory ≡ length s.memory
    by_said None h = absurd (cc h)
    by_said (Some i) h =
        let P : Program = record { code = []; bytes = s.memory } in
        let f : fetched P s (Some i) ≡ Goes t = cc h in
        subst (KeepsLength s) f (by_fetch P s (Some i))

    by_word : (o : Option ℕ) → step_at s o ≡ Some (Goes t) → length t.memory ≡ length s.memory
    by_word None h = absurd (cc h)
    by_word (Some w) h = by_said (decode s.pc w) h
