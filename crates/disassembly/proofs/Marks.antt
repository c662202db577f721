-- Which instructions have a label.
use Rattle.std.proofs.Common.{◌≡◌, ℕ, ◌+◌, ◌≤◌, ◌<◌, Bool, true, false, List, [], ◌∷◌, ◌++◌, length, get_or, set, take, ◌∙◌, subst, arith, inl, inr, length-set, get_or-set_same, get_or-set_other}
use Rattle.std.proofs.Common.{take_all}
use Rattle.std.proofs.lemmas.Bool.{cases_eq}
use Rattle.std.proofs.lemmas.List.{take_more}
use Rattle.instructions.specs.declared.instr.Instr.{Instr}
use Rattle.instructions.specs.Programs.{address}
use Rattle.instructions.specs.Targets.{names_target}
use Rattle.disassembly.specs.Meaning.{is_inside}
use Rattle.disassembly.specs.Writing.{IsLabelled, AllMarked}

set_at : (marks : List Bool) (k j : ℕ) → k < length marks → get_or marks j false ≡ true → get_or (set marks k true) j false ≡ true
set_at marks k j lt h = elim (cases_eq j k) [
  | inl same ↦ rw same (get_or-set_same marks k true false lt)
  | inr other ↦ get_or-set_other marks k j true false other ∙ h
]

pub mark_kept : (marks : List Bool) (k target : ℕ) → k < length marks → IsLabelled marks target → IsLabelled (set marks k true) target
mark_kept marks k target lt m =
    record { index = m.index; inside = omega (arith, m.inside, length-set marks k true); is = m.is; set = set_at marks k m.index lt m.set }

pub mark_new : (marks : List Bool) (k target : ℕ) → k < length marks → target ≡ address k → IsLabelled (set marks k true) target
mark_new marks k target lt at =
    record { index = k; inside = omega (arith, lt, length-set marks k true); is = at; set = get_or-set_same marks k true false lt }

all_kept : (old new : List Bool) (n : ℕ) (is : List Instr) → ((target : ℕ) → IsLabelled old target → IsLabelled new target) → AllMarked old n is → AllMarked new n is
all_kept old new n [] f h = tt
all_kept old new n (i ∷ is) f h = (λ goes inside. f i.number (h.0 goes inside), all_kept old new n is f h.1)

all_push : (marks : List Bool) (n : ℕ) (is : List Instr) (i : Instr) → AllMarked marks n is
    → (names_target i.op ≡ true → is_inside n i.number ≡ true → IsLabelled marks i.number) → AllMarked marks n (is ++ i ∷ [])
all_push marks n [] i h one = (one, tt)
all_push marks n (j ∷ is) i h one = (h.0, all_push marks n is i h.1 one)

pub marks_more : (old new : List Bool) (n k : ℕ) (code : List Instr) (d : Instr) → k < length code → AllMarked old n (take k code)
    → ((target : ℕ) → IsLabelled old target → IsLabelled new target)
    → (names_target (get_or code k d).op ≡ true → is_inside n (get_or code k d).number ≡ true → IsLabelled new (get_or code k d).number)
    → AllMarked new n (take (k + 1) code)
marks_more old new n k code d lt h kept one =
    rw (take_more code k d lt) (all_push new n (take k code) (get_or code k d) (all_kept old new n (take k code) kept h) one)

pub marks_all : (marks : List Bool) (n k : ℕ) (code : List Instr) → length code ≤ k → AllMarked marks n (take k code) → AllMarked marks n code
marks_all marks n k code le h = subst (AllMarked marks n) (take_all k code le) h
