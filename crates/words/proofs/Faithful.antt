-- Words that say the instructions of a program mean them.
use Rattle.std.proofs.Common.{◌≡◌, ℕ, zero, suc, ◌+◌, ◌-◌, ◌<◌, ◌≤◌, ◌==◌, ◌&&◌, Bool, true, false, not, cond, List, [], ◌∷◌, ◌++◌, length, take, take_all, get_or, replicate, Option, Some, None, Result, Ok, Err, refl, sym, ap, ap₂, ◌∙◌, subst, arith}
use Rattle.std.specs.Prelude.{slice_index, slice_get}
use Rattle.std.proofs.Math.Seq.{take-suc}
use Rattle.std.proofs.lemmas.List.{take_more}
use Rattle.instructions.specs.Programs.{Program, address, instr_of}
use Rattle.instructions.specs.declared.op.Op.TheVariants.{Break}
use Rattle.instructions.specs.Targets.{names_target}
use Rattle.instructions.specs.declared.instr.Instr.{Instr}
use Rattle.encoding.specs.Words.{decode}
use Rattle.disassembly.specs.Meaning.{appended, checked, checked_if, has_slot, is_inside, meant, meant_up_to, with_delay_slot, with_next}
use Rattle.disassembly.specs.declared.refusal.Refusal.{Refusal}
use Rattle.disassembly.specs.declared.refusal.Refusal.TheVariants.{Slot, Target}
use Rattle.disassembly.specs.Conversion.{program_by, with_memory}
use Rattle.elf.specs.Images.{Loaded}
use Rattle.elf.specs.Placing.{loaded_from}
use Rattle.words.specs.Executables.{IsExecutableOf}
use Rattle.words.specs.Encoded.{SayAll, SayFrom}

-- one word more
pub say_more : (k n : ℕ) (ws : List ℕ) (is : List Instr) (w : ℕ) (i : Instr) → SayFrom k ws is → n ≡ k + length ws →
    decode (address n) w ≡ Some i → SayFrom k (ws ++ w ∷ []) (is ++ i ∷ [])
say_more k n [] [] w i say at is = (subst (λ m. decode (address m) w ≡ Some i) (omega (arith, at)) is, tt)
say_more k n [] (j ∷ js) w i say at is = absurd say
say_more k n (v ∷ ws) [] w i say at is = absurd say
say_more k n (v ∷ ws) (j ∷ js) w i say at is = (say.0, say_more (suc k) n ws js w i say.1 (omega (arith, at)) is)

pub say_length : (k : ℕ) (ws : List ℕ) (is : List Instr) → SayFrom k ws is → length ws ≡ length is
say_length k [] [] say = refl
say_length k [] (j ∷ js) say = absurd say
say_length k (v ∷ ws) [] say = absurd say
say_length k (v ∷ ws) (j ∷ js) say = ap suc (say_length (suc k) ws js say.1)

-- one instruction more of a program
pub one_more : (P : Program) (k : ℕ) (old new : List ℕ) (word pc : ℕ) (i : Instr) → k < length P.code → SayAll old (take k P.code) → length old ≡ k →
    new ≡ old ++ word ∷ [] → decode pc word ≡ Some i → pc ≡ address k → i ≡ instr_of P k → SayAll new (take (k + 1) P.code)
one_more P k old new word pc i lt say long is said at here =
    let none : Instr = record { op = Break; target = 0; first = 0; second = 0; number = 0 } in
    let says : decode (address k) word ≡ Some (instr_of P k) = subst (λ a. decode a word ≡ Some (instr_of P k)) at (said ∙ ap Some here) in
    subst (λ l. SayAll l (take (k + 1) P.code)) (sym is)
    (subst (SayAll (old ++ word ∷ [])) (sym (take_more P.code k none lt)) (say_more 0 k old (take k P.code) word (instr_of P k) say (omega (arith, long)) says))

-- all instructions
pub all_said : (P : Program) (k : ℕ) (words : List ℕ) → length P.code ≤ k → SayAll words (take k P.code) → SayAll words P.code
all_said P k words le say = subst (SayAll words) (take_all k P.code le) say

-- ---- what words mean

slot_keeps : (at word : ℕ) (i j : Instr) (next : Option ℕ) → with_delay_slot at word i next ≡ Ok j → i ≡ j
slot_keeps at word i j None h = absurd (cc)
slot_keeps at word i j (Some next) h = go (next == 0) h
  where
    go : (b : Bool) → cond b (Ok i) (Err (Slot (at + 4) next)) ≡ Ok j → i ≡ j
    go true h = cc
    go false h = absurd (cc)

keeps : (words : List ℕ) (k : ℕ) (i j : Instr) → checked words k i ≡ Ok j → i ≡ j
keeps words k i j h = go (names_target i.op && not (is_inside (length words) i.number)) (has_slot i.op) h
  where
    go : (b d : Bool) → cond b (Err (Target (address k) (slice_index words k) i.number)) (cond d (with_delay_slot (address k) (slice_index words k) i (slice_get words (k + 1))) (Ok i)) ≡ Ok j → i ≡ j
    go true d h = absurd (cc)
    go false true h = slot_keeps (address k) (slice_index words k) i j (slice_get words (k + 1)) h
    go false false h = cc

-- the instruction that a word says is the one that it means
meant_is : (words : List ℕ) (k : ℕ) (i j : Instr) → decode (address k) (slice_index words k) ≡ Some i → meant words k ≡ Ok j → i ≡ j
meant_is words k i j said means = keeps words k i j (sym (ap (checked_if words k) said) ∙ means)

says_at : (k n : ℕ) (ws : List ℕ) (is : List Instr) (d : Instr) → SayFrom k ws is → n < length ws →
    decode (address (k + n)) (slice_index ws n) ≡ Some (get_or is n d)
says_at k n [] is d say lt = absurd (omega (arith, lt))
says_at k n (w ∷ ws) [] d say lt = absurd say
says_at k zero (w ∷ ws) (i ∷ is) d say lt = let same : k ≡ k + 0 = omega arith in subst (λ m. decode (address m) w ≡ Some i) same say.0
says_at k (suc n) (w ∷ ws) (i ∷ is) d say lt =
    let same : suc k + n ≡ k + suc n = omega arith in
    subst (λ m. decode (address m) (slice_index ws n) ≡ Some (get_or is n d)) same (says_at (suc k) n ws is d say.1 (omega (arith, lt)))

up_to : (words : List ℕ) (code : List Instr) (d : Instr) → SayAll words code → (n : ℕ) → n ≤ length words → (items : List Instr) →
    meant_up_to words n ≡ Ok items → items ≡ take n code
unfolding meant_up_to
up_to words code d say zero le items h = let e : ◌≡◌ {A = Result (List Instr) Refusal} (Ok []) (Ok items) = h in cc
up_to words code d say (suc n) le items h =
    go (λ is e. up_to words code d say n (omega (arith, le)) is e) (meant_up_to words n) refl h
  where
    less : n < length code
    less = omega (arith, le, say_length 0 words code say)

    last : (is : List Instr) → is ≡ take n code → (r : Result Instr Refusal) → meant words n ≡ r → appended is r ≡ Ok items → items ≡ take (suc n) code
    last is e (Err refusal) m h = absurd (cc)
    last is e (Ok i) m h =
        let here : 0 + n ≡ n = omega arith in
        let said : decode (address n) (slice_index words n) ≡ Some (get_or code n d) =
        subst (λ m. decode (address m) (slice_index words n) ≡ Some (get_or code n d)) here (says_at 0 n words code d say (omega (arith, le))) in
        let same : get_or code n d ≡ i = meant_is words n (get_or code n d) i said m in
        let all : is ++ i ∷ [] ≡ items = let f : ◌≡◌ {A = Result (List Instr) Refusal} (Ok (is ++ i ∷ [])) (Ok items) = h in cc in
        sym all ∙ ap₂ (λ l j. l ++ j ∷ []) e (sym same) ∙ sym (take-suc code n d less)

    go : ((is : List Instr) → meant_up_to words n ≡ Ok is → is ≡ take n code) → (r : Result (List Instr) Refusal) → meant_up_to words n ≡ r →
        with_next words n r ≡ Ok items → items ≡ take (suc n) code
    go before (Err refusal) e h = absurd (cc)
    go before (Ok is) e h = last is (before is e) (meant words n) refl h

-- a file that loads such words, and the data of a program, means the program
pub faithful : (P : Program) (file words : List ℕ) (loaded : Loaded) (items : List Instr) → SayAll words P.code → loaded_from file ≡ Ok loaded →
    meant_up_to loaded.code (length loaded.code) ≡ Ok items → loaded.code ≡ words → loaded.bytes ≡ P.bytes ++ replicate (65536 - length P.bytes) 0 →
    IsExecutableOf P file
faithful P file words loaded items say loads means same filled =
    let none : Instr = record { op = Break; target = 0; first = 0; second = 0; number = 0 } in
    let here : meant_up_to words (length words) ≡ Ok items = subst (λ ws. meant_up_to ws (length ws) ≡ Ok items) same means in
    let code : items ≡ P.code =
    up_to words P.code none say (length words) (omega arith) items here ∙ take_all (length words) P.code (omega (arith, say_length 0 words P.code say)) in
    ap program_by loads ∙ ap (with_memory loaded.bytes) means
    ∙ ap₂ (λ c b. Ok (record { code = c; bytes = b })) code filled
