-- Each step leaves the numbers of a unit words.
use Rattle.std.proofs.Common.{◌≡◌, ℕ, zero, suc, ◌+◌, ◌-◌, ◌*◌, ◌/◌, ◌^◌, ◌<◌, ◌≤◌, Bool, true, false, cond, eqb, List, [], ◌∷◌, ◌++◌, length, Option, Some, None, sym, subst, arith}
use Rattle.std.specs.List.{AllByRecursion}
use Rattle.std.specs.Prelude.{IfSome, option_map, unwrap_or}
use Rattle.instructions.specs.Instruction.{first_of, second_of, kind, width}
use Rattle.instructions.specs.Operations.{IsWord}
use Rattle.instructions.specs.Programs.{Program, instr_of}
use Rattle.instructions.specs.declared.instr.Instr.{Instr}
use Rattle.instructions.specs.declared.op.Kind.{Kind}
use Rattle.instructions.specs.declared.op.Kind.TheVariants.{Computes, Jumps, Links, Loads, Stores}
use Rattle.instructions.specs.declared.op.Op.{Op}
use Rattle.instructions.specs.declared.op.Op.TheVariants.{Lb}
use Rattle.instructions.specs.declared.stop.Outcome.{Outcome}
use Rattle.instructions.specs.declared.stop.Outcome.TheVariants.{Pair, Address, Next, Stop as Stops, Value}
use Rattle.inorder.specs.declared.history.Act.{Act}
use Rattle.inorder.specs.declared.history.Act.TheVariants.{Claim, Deliver, Finish, Link, Load, Mend, Retire, Speculate, Squash}
use Rattle.inorder.specs.declared.history.Source.TheVariants.{First, Second}
use Rattle.inorder.specs.declared.history.Step.{Step}
use Rattle.inorder.specs.declared.history.Step.TheVariants.{Let, On, Renew}
use Rattle.inorder.specs.declared.history.Supply.{Supply}
use Rattle.inorder.specs.declared.history.Supply.TheVariants.{From, Known}
use Rattle.inorder.specs.Legal.{Allowed, AreAllowed, May, Taken, applied, changed, reached}
use Rattle.inorder.specs.Memory.{Stored, byte_after, byte_at, covers, load_value, raw, stored}
use Rattle.inorder.specs.Numbers.{AreWords, FateIsWord, HasWords, ValuesAreWords}
use Rattle.inorder.specs.Steps.{MayLet, MaySupply, finished, let_operand, made_at_end, mended_as, new_tenant}
use Rattle.inorder.specs.Tenants.{Addr, Busy, Done, Fate, Guessed, Miss, Open, Stopped, Tenant, computed, instr, kind_of, made_at_let}
use Rattle.inorder.specs.Unit.{Sizes, UpdateUnit, at, creator, front_pc, value_made, next_station, older, recent, value_of, younger}
use Rattle.lsq.specs.Bytes.{byte_of, joined, little_endian_if_there}
use Rattle.inorder.proofs.Basics.{split_at}
use Rattle.inorder.proofs.Grows.{all_grows, all_mid}
use Rattle.inorder.proofs.Kept.{parts}
use Rattle.instructions.proofs.Words.{OutcomeIsWord, loaded_words, outcome_words}
use Rattle.inorder.specs.declared.history.Speculation.TheVariants.{Confirm, Flush, Guess}

-- bytes

byte_small : (k v : ℕ) → byte_of k v < 256
byte_small zero v = omega arith
byte_small (suc k) v = byte_small k (v / 256)

abbrev IsByte : ℕ → Type 0
IsByte b = b < 256

mapped_small : (k : ℕ) (c : Option ℕ) → IfSome (option_map (byte_of k) c) IsByte
mapped_small k None = tt
mapped_small k (Some d) = byte_small k d

after_small : (o : Option Stored) (x : ℕ) (q : Option ℕ) → IfSome q IsByte → IfSome (byte_after o x q) IsByte
after_small None x q h = h
after_small (Some s) x q h = go (covers s x)
  where
    go : (b : Bool) → IfSome (cond b (option_map (byte_of (x - s.at)) s.content) q) IsByte
    go true = mapped_small (x - s.at) s.content
    go false = h

byte_at_small : (P : Program) → HasWords P → (ts : List Tenant) (x : ℕ) → IfSome (byte_at P ts x) IsByte
byte_at_small P w [] x = w.bytes x
byte_at_small P w (t ∷ ts) x = after_small (stored P t) x (byte_at P ts x) (byte_at_small P w ts x)

joined_small : (b q : Option ℕ) (m : ℕ) → IfSome b IsByte → IfSome q (λ n. n < m) →
    IfSome (joined b q) (λ n. n < 256 * m)
joined_small (Some b) (Some n) m u v = omega arith
joined_small (Some b) None m u v = tt
joined_small None q m u v = tt

number_small : (byte : ℕ → Option ℕ) → ((x : ℕ) → IfSome (byte x) IsByte) → (a w : ℕ) →
    IfSome (little_endian_if_there byte a w) (λ n. n < 256 ^ w)
number_small byte h a zero = omega arith
number_small byte h a (suc w) =
    let more = joined_small (byte a) (little_endian_if_there byte (a + 1) w) (256 ^ w) (h a)
    (number_small byte h (a + 1) w) in
    subst (λ m. IfSome (little_endian_if_there byte a (suc w)) (λ n. n < m)) (omega arith) more

width_small : (op : Op) → width op ≤ 4
width_small Lb = omega arith
width_small op = omega arith

width_cases : (op : Op) (q : Option ℕ) → IfSome q (λ n. n < 256 ^ width op) → IfSome q IsWord
width_cases op None h = tt
width_cases op (Some n) h = small (width op) (width_small op) h
  where
    small : (w : ℕ) → w ≤ 4 → n < 256 ^ w → IsWord n
    small zero l h = omega arith
    small (suc zero) l h = omega arith
    small (suc (suc zero)) l h = omega arith
    small (suc (suc (suc zero))) l h = omega arith
    small (suc (suc (suc (suc zero)))) l h = omega arith
    small (suc (suc (suc (suc (suc w))))) l h = absurd (omega arith)

raw_word : (P : Program) → HasWords P → (ts : List Tenant) (i : Instr) (f : Fate) → IfSome (raw P ts i f) IsWord
raw_word P w ts i (Addr a) =
    width_cases i.op _ (number_small (byte_at P ts) (byte_at_small P w ts) a (width i.op))
raw_word P w ts i Open = tt
raw_word P w ts i (Busy c) = tt
raw_word P w ts i (Done c) = tt
raw_word P w ts i (Miss c) = tt
raw_word P w ts i (Guessed c) = tt
raw_word P w ts i (Stopped c) = tt

or_zero : (o : Option ℕ) → IfSome o IsWord → IsWord (unwrap_or o 0)
or_zero None h = omega arith
or_zero (Some v) h = h

load_word : (P : Program) → HasWords P → (ts : List Tenant) (t : Tenant) → IsWord (load_value P ts t)
load_word P w ts t =
    loaded_words (instr P t).op _ (or_zero (raw P ts (instr P t) t.fate) (raw_word P w ts (instr P t) t.fate))

-- values

some_word : (o : Option ℕ) (v : ℕ) → o ≡ Some v → IfSome o IsWord → IsWord v
some_word o v e h = subst (λ q. IfSome q IsWord) e h

made_words : (ts : List Tenant) → AllByRecursion AreWords ts → (p : ℕ) → IfSome (value_made (at ts p)) IsWord
made_words [] h p = tt
made_words (t ∷ ts) h p = go (eqb p (length ts)) (made_words ts h.1 p)
  where
    go : (b : Bool) → IfSome (value_made (at ts p)) IsWord → IfSome (value_made (cond b (Some t) (at ts p))) IsWord
    go true more = h.0.made
    go false more = more

value_words : (ts : List Tenant) → AllByRecursion AreWords ts → (c : Option ℕ) → IfSome (value_of ts c) IsWord
value_words ts h None = omega arith
value_words ts h (Some p) = made_words ts h p

supply_word : (P : Program) (U : UpdateUnit) (station : ℕ) (c : Option ℕ) (s : Supply) →
    AllByRecursion AreWords U.tenants → MaySupply P U station c s → IfSome (let_operand c s).value IsWord
supply_word P U station c (Known v) h m = some_word (value_of U.tenants c) v m (value_words U.tenants h c)
supply_word P U station c From h m = tt

made_at_let_word : (k : Kind) (pc : ℕ) → IfSome (made_at_let k pc) IsWord
made_at_let_word Links pc = omega arith
made_at_let_word Computes pc = tt
made_at_let_word Jumps pc = tt
made_at_let_word Loads pc = tt
made_at_let_word Stores pc = tt

let_words : (P : Program) (C : Sizes) (U : UpdateUnit) (index predicted : ℕ) (first second : Supply) →
    HasWords P → MayLet P C U index predicted first second → AllByRecursion AreWords U.tenants →
    AreWords (new_tenant P C U index predicted first second)
let_words P C U index predicted first second w m h =
    record {
      pc = let e = m.pc in let i = m.is_there in let c = w.code in omega (arith, e, i, c);
      predicted = m.small;
      next = m.small;
      first =
          supply_word P U (next_station C (recent U)) (creator P U.tenants
          (first_of (instr_of P index))) first h m.first_is;
      second =
          supply_word P U (next_station C (recent U)) (creator P U.tenants
          (second_of (instr_of P index))) second h m.second_is;
      made = made_at_let_word (kind (instr_of P index).op) (front_pc U.tenants);
      fate = tt;
    }

-- another fate, and what is made
remade_words : (t : Tenant) (f : Fate) (made : Option ℕ) → FateIsWord f → IfSome made IsWord → AreWords t →
    AreWords (record t { fate = f; made = made })
remade_words t f made u v h =
    record {
      pc = h.pc;
      predicted = h.predicted;
      next = h.next;
      first = h.first;
      second = h.second;
      made = v;
      fate = u;
    }

finish_words : (P : Program) → HasWords P → (t : Tenant) (o : Outcome) → OutcomeIsWord o → AreWords t →
    AreWords (finished t o)
finish_words P w t (Value v) u h = remade_words t (Done v) (Some v) u u h
finish_words P w t (Next x) u h = remade_words t _ t.made (go (eqb x t.predicted)) h.made h
  where
    go : (b : Bool) → FateIsWord (cond b (Done x) (Miss x))
    go true = u
    go false = u
finish_words P w t (Address a) u h = remade_words t (Addr a) t.made u h.made h
finish_words P w t (Stops c) u h = remade_words t (Stopped c) t.made tt h.made h
finish_words P w t (Pair l r) u h = remade_words t (Done l) (Some l) u u h

end_word : (f : Fate) (made : Option ℕ) (n : ℕ) → IsWord n → IfSome made IsWord →
    IfSome (made_at_end f made n) IsWord
end_word (Stopped c) made n u h = u
end_word Open made n u h = h
end_word (Busy c) made n u h = h
end_word (Addr c) made n u h = h
end_word (Done c) made n u h = h
end_word (Guessed c) made n u h = h
end_word (Miss c) made n u h = h

act_words : (P : Program) → HasWords P →
    (by : ℕ) (act : Act) (ys : List Tenant) (t : Tenant) (ts : List Tenant) → May P by act ys t ts →
    AllByRecursion AreWords ts → AreWords t → AreWords (changed P by act t ts)
act_words P w by (Link First) ys t ts m us h =
    record {
      pc = h.pc;
      predicted = h.predicted;
      next = h.next;
      first = h.first;
      second = h.second;
      made = h.made;
      fate = h.fate;
    }
act_words P w by (Link Second) ys t ts m us h =
    record {
      pc = h.pc;
      predicted = h.predicted;
      next = h.next;
      first = h.first;
      second = h.second;
      made = h.made;
      fate = h.fate;
    }
act_words P w by (Deliver First) ys t ts m us h =
    record {
      pc = h.pc;
      predicted = h.predicted;
      next = h.next;
      first = value_words ts us t.first.creator;
      second = h.second;
      made = h.made;
      fate = h.fate;
    }
act_words P w by (Deliver Second) ys t ts m us h =
    record {
      pc = h.pc;
      predicted = h.predicted;
      next = h.next;
      first = h.first;
      second = value_words ts us t.second.creator;
      made = h.made;
      fate = h.fate;
    }
act_words P w by Claim ys t ts m us h = remade_words t (Busy by) t.made tt h.made h
act_words P w by Finish ys t ts m us h =
    finish_words P w t (computed P t) (outcome_words (kind_of P t) (instr P t) t.half t.pc _ _ (length P.bytes)
    (w.numbers t.index) (or_zero t.first.value h.first) (or_zero t.second.value h.second)) h
act_words P w by Load ys t ts m us h =
    let u = load_word P w ts t in remade_words t (Done (load_value P ts t)) (Some (load_value P ts t)) u u h
act_words P w by (Retire n) ys t ts m us h =
    record {
      pc = h.pc;
      predicted = h.predicted;
      next = h.next;
      first = h.first;
      second = h.second;
      made = end_word t.fate t.made n m.small h.made;
      fate = h.fate;
    }
act_words P w by Squash ys t ts m us h =
    record {
      pc = h.pc;
      predicted = h.predicted;
      next = h.next;
      first = h.first;
      second = h.second;
      made = h.made;
      fate = h.fate;
    }
act_words P w by (Speculate (Guess v)) ys t ts m us h = remade_words t (Guessed v) (Some v) m.small m.small h
act_words P w by (Speculate Confirm) ys t ts m us h = remade_words t (Done (unwrap_or t.made 0)) t.made (or_zero t.made h.made) h.made h
act_words P w by (Speculate Flush) ys t ts m us h =
    record {
      pc = h.pc;
      predicted = h.predicted;
      next = h.next;
      first = h.first;
      second = h.second;
      made = h.made;
      fate = h.fate;
    }
act_words P w by Mend ys t ts m us h = go t.fate h.fate
  where
    go : (f : Fate) → FateIsWord f → AreWords (mended_as t f)
    go Open u = h
    go (Busy v) u = h
    go (Addr v) u = h
    go (Done v) u = h
    go (Miss x) u =
        record {
          pc = h.pc;
          predicted = h.predicted;
          next = u;
          first = h.first;
          second = h.second;
          made = h.made;
          fate = u;
        }
    go (Guessed v) u = h
    go (Stopped v) u = h

words_tail : (t : Tenant) (ts ys : List Tenant) → AllByRecursion AreWords (ys ++ t ∷ ts) →
    AllByRecursion AreWords ts
words_tail t ts [] h = h.1
words_tail t ts (y ∷ ys) h = words_tail t ts ys h.1

words_kept : (P : Program) (C : Sizes) → HasWords P → (U : UpdateUnit) (by : ℕ) (s : Step) →
    Allowed P C U by s → AllByRecursion AreWords U.tenants →
    AllByRecursion AreWords (applied P C U by s).tenants
words_kept P C w U by (Let index predicted first second) a h =
    (let_words P C U index predicted first second w a h, h)
words_kept P C w U by (On p act) a h =
    let ts = U.tenants in
    let t = a.tenant in
    let parted = subst (AllByRecursion AreWords) (split_at ts p t a.is) h in
    let new = act_words P w by act (younger ts p) t (older ts p) a.may (words_tail t (older ts p)
    (younger ts p) parted) in
    subst (AllByRecursion AreWords) (sym (parts P ts by p act t a.is)) (all_grows AreWords t
    (changed P by act t (older ts p)) (older ts p) (younger ts p) new parted)
words_kept P C w U by Renew a h = h

words : (P : Program) (C : Sizes) → HasWords P → (ss : List Taken) → AreAllowed P C ss →
    AllByRecursion AreWords (reached P C ss).tenants
words P C w [] a = tt
words P C w (s ∷ ss) a = words_kept P C w (reached P C ss) s.by s.step a.1 (words P C w ss a.0)

pub values_are_words : (P : Program) (C : Sizes) (history : List Taken) → ValuesAreWords P C history
values_are_words P C history w a p t e =
    let ts = (reached P C history).tenants in
    all_mid AreWords t (older ts p) (younger ts p) (subst (AllByRecursion AreWords) (split_at ts p t e)
    (words P C w history a))
