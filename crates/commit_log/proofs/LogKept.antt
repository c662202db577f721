-- What a step adds to the log, and what is left of it.
use Rattle.std.proofs.Common.{◌≡◌, ℕ, suc, ◌+◌, ◌-◌, ◌<◌, ◌≤◌, List, [], ◌++◌, length, take, Option, None, Some, Result, Err, refl, sym, ap, ◌∙◌, subst, arith, append_assoc, length-append}
use Rattle.std.proofs.KnownBytes.{Appends-trans}
use Rattle.std.proofs.Math.Seq.{take-append-add}
use Rattle.std.proofs.lemmas.List.{append-nil, take-append-le, take_all}
use Rattle.std.specs.Io.KnownBytes.{Appends}
use Rattle.instructions.specs.Instruction.{kind}
use Rattle.instructions.specs.Programs.{Program, instr_at}
use Rattle.instructions.specs.declared.end.Ending.{Ending}
use Rattle.instructions.specs.declared.end.Ending.TheVariants.{Stop as ByStop, Limit as ByLimit}
use Rattle.instructions.specs.declared.instr.Instr.{Instr}
use Rattle.instructions.specs.declared.op.Kind.{Kind}
use Rattle.instructions.specs.declared.op.Kind.TheVariants.{Computes, Jumps, Links, Loads, Stores}
use Rattle.instructions.specs.declared.stop.Outcome.{Outcome}
use Rattle.instructions.specs.declared.stop.Outcome.TheVariants.{Pair, Value, Next, Address, Stop as Stops}
use Rattle.instructions.specs.declared.stop.Stop.{Stop}
use Rattle.inorder.specs.Machine.{Goes, Halts, Ran, State, after_access, fetched, ran, start, step}
use Rattle.inorder.specs.Runs.{IsStep, Running, end_after, end_from, end_of}
use Rattle.inorder.specs.declared.machine.Stepped.TheVariants.{Ran as HasRan, Stopped}
use Rattle.command_line.specs.declared.logged.Logged.{Logged}
use Rattle.counted_io.specs.Counted.{Gives, GivesPart, failures_of, known_by}
use Rattle.counted_io.specs.Writes.{HasWritten, IsBeginning, Writes}
use Rattle.counted_io.specs.declared.counted.Counted.{Counted}
use Rattle.counted_io.specs.declared.fault.Fault.{Fault}
use Rattle.counted_io.specs.declared.fault.Fault.TheVariants.{Memory, Read, Write}
use Rattle.commit_log.specs.Lines.{limit_line}
use Rattle.commit_log.specs.Logs.{IsLogOfRun, address_of, line_of, line_of_step, line_of_stop, log, log_after, log_from}
use Rattle.commit_log.specs.Steps.{HasLogged, HasLoggedRun, IsLoggedStep, end_ahead, log_ahead}

-- ---- a step counts one more

abbrev IsMore : State → Ran → Type 0
IsMore s (Goes t) = t.count ≡ suc s.count
IsMore s (Halts c) = Unit {0}

by_kind : (k : Kind) (s : State) (i : Instr) (a : ℕ) → IsMore s (Goes (after_access k s i a))
by_kind Computes s i a = refl
by_kind Jumps s i a = refl
by_kind Links s i a = refl
by_kind Loads s i a = refl
by_kind Stores s i a = refl

by_outcome : (s : State) (i : Instr) (o : Outcome) → IsMore s (ran s i o)
by_outcome s i (Value v) = refl
by_outcome s i (Next x) = refl
by_outcome s i (Address a) = by_kind (kind i.op) s i a
by_outcome s i (Stops c) = tt
by_outcome s i (Pair l h) = refl

by_fetch : (P : Program) (s : State) (o : Option Instr) → IsMore s (fetched P s o)
by_fetch P s None = tt
by_fetch P s (Some i) = by_outcome s i _

counted : (P : Program) (s t : State) → step P s ≡ Goes t → t.count ≡ suc s.count
counted P s t e = subst (IsMore s) e (by_fetch P s (instr_at P s.pc))

-- ---- what a step answers

pub went : (asked : Logged) (old new : Running) (before after : List ℕ) (r : Ran) → IsStep old HasRan new r →
    ((t : State) → new.state ≡ t → after ≡ before ++ line_of_step asked old.state (instr_at old.program old.state.pc) t) →
    IsLoggedStep asked old new before after None r
went asked old new before after (Goes t) h line = (refl, (h.1, line t (ap (λ m. m.state) h.1)))
went asked old new before after (Halts c) h line = let no = h.0 in absurd (cc)

pub halted : (asked : Logged) (old new : Running) (before after : List ℕ) (c : Stop) (r : Ran) → IsStep old (Stopped c) new r →
    after ≡ before ++ line_of_stop old.state (instr_at old.program old.state.pc) c →
    IsLoggedStep asked old new before after (Some c) r
halted asked old new before after c (Goes t) h line = let no = h.0 in absurd (cc)
halted asked old new before after c (Halts d) h line =
    let same : c ≡ d = let e = h.0 in cc in
    (ap Some same, (h.1, subst (λ x. after ≡ before ++ line_of_stop old.state (instr_at old.program old.state.pc) x) same line))

-- the line of an instruction that was fetched
pub line_is : (asked : Logged) (P Q : Program) (s t u : State) (pc address : ℕ) (i : Instr) → pc ≡ s.pc → Some i ≡ instr_at Q pc → P ≡ Q →
    address ≡ address_of s i → u ≡ t → line_of asked pc i address u ≡ line_of_step asked s (instr_at P s.pc) t
line_is asked P Q s t u pc address i at is same reads ends =
    let found : instr_at P s.pc ≡ Some i = ap (λ p. instr_at p s.pc) same ∙ ap (instr_at Q) (sym at) ∙ sym is in
    ap (λ p. line_of asked p i address u) at ∙ ap (λ a. line_of asked s.pc i a u) reads ∙ ap (λ x. line_of asked s.pc i (address_of s i) x) ends
    ∙ sym (ap (λ o. line_of_step asked s o t) found)

-- ---- a step, and what is left

-- a step that goes on leaves one step less of the log
pub record GoesOn (asked : Logged) (old new : Running) (before after : List ℕ) : Type 0 where
  pub program : new.program ≡ old.program
  pub one : new.state.count ≡ suc old.state.count
  pub log : before ++ log_ahead asked old ≡ after ++ log_ahead asked new
  pub ends : end_ahead asked new ≡ end_ahead asked old

-- a step that stops leaves nothing
pub record IsOver (asked : Logged) (old : Running) (before after : List ℕ) (ending : Ending) : Type 0 where
  pub log : before ++ log_ahead asked old ≡ after
  pub ends : (end_ahead asked old).0 ≡ ending

pub goes_on : (asked : Logged) (old new : Running) (before after : List ℕ) → old.state.count < asked.limit →
    IsLoggedStep asked old new before after None (step old.program old.state) → GoesOn asked old new before after
goes_on asked old new before after less h = go (step old.program old.state) refl h
  where
    go : (r : Ran) → step old.program old.state ≡ r → IsLoggedStep asked old new before after None r → GoesOn asked old new before after
    go (Halts c) e h = let no = h.0 in absurd (cc)
    go (Goes t) e h =
        let P = old.program in
        let s = old.state in
        let one : t.count ≡ suc s.count = counted P s t e in
        let k = asked.limit - t.count in
        let left : asked.limit - s.count ≡ suc k = omega (arith, one, less) in
        let line = line_of_step asked s (instr_at P s.pc) t in
        let ahead : log_ahead asked old ≡ line ++ log_from asked P k t =
        ap (λ n. log_from asked P n s) left ∙ ap (log_after asked (log_from asked P k) s (instr_at P s.pc)) e in
        let is : new ≡ record { program = P; state = t } = h.1.0 in
        record {
          program = ap (λ m. m.program) is;
          one = ap (λ m. m.state.count) is ∙ one;
          log = ap (λ l. before ++ l) ahead ∙ sym (append_assoc before line (log_from asked P k t))
              ∙ ap (λ l. l ++ log_from asked P k t) (sym h.1.1) ∙ ap (λ m. after ++ log_ahead asked m) (sym is);
          ends = ap (end_ahead asked) is ∙ sym (ap (λ n. end_from P n s) left ∙ ap (end_after (end_from P k) s) e);
        }

pub is_over : (asked : Logged) (old new : Running) (before after : List ℕ) (c : Stop) → old.state.count < asked.limit →
    IsLoggedStep asked old new before after (Some c) (step old.program old.state) → IsOver asked old before after (ByStop c)
is_over asked old new before after c less h = go (step old.program old.state) refl h
  where
    go : (r : Ran) → step old.program old.state ≡ r → IsLoggedStep asked old new before after (Some c) r → IsOver asked old before after (ByStop c)
    go (Goes t) e h = let no = h.0 in absurd (cc)
    go (Halts d) e h =
        let P = old.program in
        let s = old.state in
        let k = asked.limit - suc s.count in
        let left : asked.limit - s.count ≡ suc k = omega (arith, less) in
        let same : d ≡ c = let f = h.0 in cc in
        record {
          log = ap (λ l. before ++ l)
              (ap (λ n. log_from asked P n s) left ∙ ap (log_after asked (log_from asked P k) s (instr_at P s.pc)) e) ∙ sym h.1.1;
          ends = ap (λ n. (end_from P n s).0) left ∙ ap (λ r. (end_after (end_from P k) s r).0) e ∙ ap ByStop same;
        }

pub at_limit : (asked : Logged) (m : Running) (before after : List ℕ) → asked.limit ≤ m.state.count → after ≡ before ++ limit_line m.state.pc →
    IsOver asked m before after ByLimit
at_limit asked m before after more is =
    let none : asked.limit - m.state.count ≡ 0 = omega arith in
    record {
      log = ap (λ n. before ++ log_from asked m.program n m.state) none ∙ sym is;
      ends = ap (λ n. (end_from m.program n m.state).0) none;
    }

-- ---- the text that was written

appends_none : (known : Option (List ℕ)) → Appends known known []
appends_none None = tt
appends_none (Some xs) = sym (append-nil xs)

pub none_logged : (text : List ℕ) (known : Option (List ℕ)) → HasLogged text text known known
none_logged text known = record { text = []; says = appends_none known; is = refl }

pub all_logged : (text : List ℕ) (before after : Option (List ℕ)) → Appends before after text → HasLogged text [] before after
all_logged text before after says = record { text = text; says = says; is = sym (append-nil text) }

-- the same text is left in other words
pub left_as : (whole left other : List ℕ) (before after : Option (List ℕ)) → left ≡ other → HasLogged whole left before after →
    HasLogged whole other before after
left_as whole left other before after e h = subst (λ l. HasLogged whole l before after) e h

-- a part of what is left was written
pub more_logged : (whole part part' rest : List ℕ) (before mid after : Option (List ℕ)) → HasLogged whole (part ++ rest) before mid →
    HasLogged part part' mid after → HasLogged whole (part' ++ rest) before after
more_logged whole part part' rest before mid after h more = record {
  text = h.text ++ more.text;
  says = Appends-trans before mid after h.text more.text h.says more.says;
  is = h.is ∙ ap (λ l. h.text ++ (l ++ rest)) more.is ∙ ap (λ l. h.text ++ l) (append_assoc more.text part' rest)
      ∙ sym (append_assoc h.text more.text (part' ++ rest));
}

-- all that is left was written
pub rest_logged : (whole left : List ℕ) (before mid after : Option (List ℕ)) → HasLogged whole left before mid → Appends mid after left →
    Appends before after whole
rest_logged whole left before mid after h says =
    subst (Appends before after) (sym h.is) (Appends-trans before mid after h.text left h.says says)

-- what was written so far is a beginning
pub begun : (whole left : List ℕ) (before after : Option (List ℕ)) → HasLogged whole left before after → IsBeginning whole before after
begun whole left before after h = record {
  n = length h.text;
  inside = subst (λ l. length h.text ≤ length l) (sym h.is) (omega (arith, length-append h.text left));
  says = subst (Appends before after)
      (sym (ap (take (length h.text)) h.is ∙ take-append-le (length h.text) h.text left (omega arith) ∙ take_all (length h.text) h.text (omega arith))) h.says;
}

-- what was written, and a beginning of a part of what is left, are a beginning
pub begun_more : (whole part rest : List ℕ) (before mid after : Option (List ℕ)) → HasLogged whole (part ++ rest) before mid →
    IsBeginning part mid after → IsBeginning whole before after
begun_more whole part rest before mid after h b = record {
  n = length h.text + b.n;
  inside = subst (λ l. length h.text + b.n ≤ length l) (sym h.is)
      (omega (arith, length-append h.text (part ++ rest), length-append part rest, b.inside));
  says = subst (Appends before after)
      (sym (ap (take (length h.text + b.n)) h.is ∙ take-append-add h.text (part ++ rest) b.n ∙ ap (λ l. h.text ++ l) (take-append-le b.n part rest b.inside)))
      (Appends-trans before mid after h.text (take b.n part) h.says b.says);
}

-- ---- a run

first_log : (asked : Logged) (P : Program) → log_ahead asked (record { program = P; state = start P }) ≡ log asked P
first_log asked P = let all : asked.limit - 0 ≡ asked.limit = omega arith in ap (λ n. log_from asked P n (start P)) all

first_end : (asked : Logged) (P : Program) → end_ahead asked (record { program = P; state = start P }) ≡ end_of P asked.limit
first_end asked P = let all : asked.limit - 0 ≡ asked.limit = omega arith in ap (λ n. end_from P n (start P)) all

module _ {A W : Type 0} (contents : W → Option (List ℕ)) (w w' : Counted W) (All : A → (before after : Option (List ℕ)) → Type 0) where
  -- memory was refused
  pub no_room : (whole left : List ℕ) (result : Result A Fault) (e : Fault) → result ≡ Err e → e ≡ Memory →
      HasLogged whole left (known_by contents w) (known_by contents w') → failures_of w' ≡ failures_of w →
      Writes contents w w' All (IsBeginning whole) result
  no_room whole left result e is memory h quiet =
      subst (Writes contents w w' All (IsBeginning whole)) (sym (is ∙ ap Err memory))
      (record { says = begun whole left _ _ h; failures = omega (arith, quiet) })

  -- a block was not written whole
  pub broke_off : {B : Type 0} (whole part rest : List ℕ) (w'' : Counted W) (Block : B → (before after : Option (List ℕ)) → Type 0) (result : Result A Fault) (e : Fault) →
      result ≡ Err e → HasLogged whole (part ++ rest) (known_by contents w) (known_by contents w') → failures_of w' ≡ failures_of w →
      Writes contents w' w'' Block (IsBeginning part) (Err e) → Writes contents w w'' All (IsBeginning whole) result
  broke_off whole part rest w'' Block result e is h quiet block =
      subst (Writes contents w w'' All (IsBeginning whole)) (sym is) (go e block)
    where
      go : (e : Fault) → Writes contents w' w'' Block (IsBeginning part) (Err e) → Writes contents w w'' All (IsBeginning whole) (Err e)
      go Read block = absurd block
      go Memory block = record { says = begun_more whole part rest _ _ _ h block.says; failures = omega (arith, quiet, block.failures) }
      go Write block = record { says = begun_more whole part rest _ _ _ h block.says; failures = omega (arith, quiet, block.failures) }

module _ {W : Type 0} (contents : W → Option (List ℕ)) (w w' w'' : Counted W) (asked : Logged) (P : Program) (m : Running) (left text : List ℕ)
    (ending : Ending) (is : m ≡ record { program = P; state = start P })
    (h : HasWritten contents w w' 0 (HasLoggedRun (log_ahead asked m) left (end_ahead asked m) ending)) (same : text ≡ left) where
  whole_is : log_ahead asked m ≡ log asked P
  whole_is = ap (log_ahead asked) is ∙ first_log asked P

  -- the last block was written
  pub all_written : Gives contents w' w'' text → failures_of w'' ≡ failures_of w' → HasWritten contents w w'' 0 (IsLogOfRun asked P ending)
  all_written gives quiet = record {
    says = record {
      ends = h.says.ends ∙ ap (λ e. e.0) (ap (end_ahead asked) is ∙ first_end asked P);
      says = subst (Appends (known_by contents w) (known_by contents w'')) whole_is
          (rest_logged (log_ahead asked m) left _ _ _ h.says.logged (subst (Appends (known_by contents w') (known_by contents w'')) same gives));
    };
    failures = omega (arith, quiet, h.failures);
  }

  -- the last block was not written whole
  pub last_broken : (result : Result Ending Fault) (e : Fault) → result ≡ Err e → e ≡ Write → GivesPart contents w' w'' text → failures_of w'' ≡ failures_of w' + 1 →
      Writes contents w w'' (IsLogOfRun asked P) (IsBeginning (log asked P)) result
  last_broken result e err write part failed =
      subst (Writes contents w w'' (IsLogOfRun asked P) (IsBeginning (log asked P))) (sym (err ∙ ap Err write))
      (record {
        says = subst (λ whole. IsBeginning whole (known_by contents w) (known_by contents w'')) whole_is
            (begun_more (log_ahead asked m) left [] _ _ _ (left_as (log_ahead asked m) left (left ++ []) _ _ (sym (append-nil left)) h.says.logged)
            (subst (λ l. IsBeginning l (known_by contents w') (known_by contents w'')) same
            (record { n = part.0; inside = omega (arith, part.1); says = part.2 })));
        failures = omega (arith, failed, h.failures);
      })
