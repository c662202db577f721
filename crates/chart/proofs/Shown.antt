-- What was written of a text, and how the devices are left.
use Rattle.std.proofs.Common.{◌≡◌, ◌<◌, ◌+◌, ℕ, List, [], ◌++◌, length, take, Bool, true, false, Option, Some, None, IfSome, Result, Ok, Err, String, string_bytes, refl, sym, ap, ◌∙◌, subst, arith, append_assoc, length-append}
use Rattle.std.specs.Prelude.{is_some}
use Rattle.std.proofs.KnownBytes.{Appends-trans}
use Rattle.std.proofs.Math.Seq.{take-append-add}
use Rattle.std.proofs.lemmas.List.{append-nil, take-append-le, take_all}
use Rattle.std.specs.Io.KnownBytes.{Appends}
use Rattle.std.specs.declared.alloc.AllocError.{AllocError}
use Rattle.std.specs.declared.alloc.Global.{Global}
use Rattle.instructions.specs.Programs.{Program}
use Rattle.isa.specs.Listing.{listing}
use Rattle.isa.specs.declared.listing.fault.FaultKind.{FaultKind}
use Rattle.inorder.specs.Runs.{end_of}
use Rattle.instructions.specs.declared.end.Ending.{Ending}
use Rattle.instructions.specs.declared.end.Ending.TheVariants.{Stop as ByStop, Limit as ByLimit}
use Rattle.instructions.specs.declared.stop.Stop.TheVariants.{BadPc, Break, OutOfRange, Overflow, Unaligned}
use Rattle.answers.specs.Answer.{ending_status, most_taken, text_for}
use Rattle.answers.specs.Enough.{listing_taken}
use Rattle.answers.specs.declared.outcome.Status.{Status}
use Rattle.answers.specs.declared.outcome.Status.TheVariants.{TextFault}
use Rattle.counted_io.specs.Counted.{Gives, GivesPart, failures_of, known_by}
use Rattle.counted_io.specs.Replies.{HasRead, IsUnread}
use Rattle.counted_io.specs.Writes.{HasWritten, IsBeginning, IsBeginningOf, IsWritten, Writes}
use Rattle.counted_io.specs.declared.counted.Counted.{Counted}
use Rattle.counted_io.specs.declared.fault.Fault.{Fault}
use Rattle.counted_io.specs.declared.fault.Fault.TheVariants as fault
use Rattle.counted_io.proofs.Replied.{has_begun}
use Rattle.command_line.specs.Exits.{fault_refusal, refused}
use Rattle.command_line.specs.declared.exit.Exit.{Exit}
use Rattle.command_line.specs.declared.exit.Refusal.{Refusal}
use Rattle.command_line.specs.declared.exit.Refusal.TheVariants.{Memory, Open, Read, Thread, Trace, Write}
use Rattle.command_line.specs.declared.request.Charted.{Charted}
use Rattle.chart.specs.Answers.{Charts, HasBegunFrom, HasTextFrom, IsChartedWith, IsLogged, IsShown, IsShownInPart, Shows, is_logged, log_head, log_refusal}

-- ---- texts

pub appends_none : (known : Option (List ℕ)) → Appends known known []
appends_none None = tt
appends_none (Some xs) = sym (append-nil xs)

pub none_begun : (head : List ℕ) (known : Option (List ℕ)) → HasBegunFrom head known known
none_begun head known = record { more = []; begun = record { n = 0; inside = omega arith; says = appends_none known } }

-- a proper beginning
pub part_begun : (head : List ℕ) (a b : Option (List ℕ)) (n : ℕ) → n < length head → Appends a b (take n head) → HasBegunFrom head a b
part_begun head a b n less says = record {
  more = [];
  begun = record {
    n = n;
    inside = omega (arith, less, length-append head []);
    says = subst (Appends a b) (sym (take-append-le n head [] (omega (arith, less)))) says;
  };
}

-- the head, and a beginning of more
pub more_begun : (head more : List ℕ) (a b c : Option (List ℕ)) → Appends a b head → IsBeginning more b c → HasBegunFrom head a c
more_begun head more a b c first part = record {
  more = more;
  begun = record {
    n = length head + part.n;
    inside = omega (arith, part.inside, length-append head more);
    says = subst (Appends a c) (sym (take-append-add head more part.n)) (Appends-trans a b c head (take part.n more) first part.says);
  };
}

-- the whole is a beginning
pub whole_begun : (head : List ℕ) (a b : Option (List ℕ)) → HasTextFrom head a b → HasBegunFrom head a b
whole_begun head a b t = record {
  more = t.more;
  begun = record {
    n = length (head ++ t.more);
    inside = omega arith;
    says = subst (Appends a b) (sym (take_all (length (head ++ t.more)) (head ++ t.more) (omega arith))) t.says;
  };
}

pub whole_in_part : (limit : ℕ) (found : Result Program (ℕ × FaultKind)) (status : Status) (a b : Option (List ℕ)) →
    IsShown limit found status a b → IsShownInPart limit found a b
whole_in_part limit (Ok P) status a b h = whole_begun (text_for limit (Ok P)) a b h.1
whole_in_part limit (Err f) status a b h = let text = text_for limit (Err f) in record {
  n = length text;
  inside = omega arith;
  says = subst (Appends a b) (sym (take_all (length text) text (omega arith))) h.1;
}

pub none_in_part : (limit : ℕ) (found : Result Program (ℕ × FaultKind)) (known : Option (List ℕ)) → IsShownInPart limit found known known
none_in_part limit (Ok P) known = none_begun (text_for limit (Ok P)) known
none_in_part limit (Err f) known = record { n = 0; inside = omega arith; says = appends_none known }

-- a text after another one
some_text : (head : List ℕ) (text : Result (String Global) AllocError) (a b c : Option (List ℕ)) → Appends a b head → IsWritten text b c → HasTextFrom head a c
some_text head (Ok text) a b c first says = record { more = string_bytes text; says = Appends-trans a b c head (string_bytes text) first says }
some_text head (Err e) a b c first says = absurd says

some_begun : (head : List ℕ) (text : Result (String Global) AllocError) (a b c : Option (List ℕ)) → Appends a b head → IsBeginningOf text b c → HasBegunFrom head a c
some_begun head (Ok text) a b c first part = more_begun head (string_bytes text) a b c first (part (string_bytes text) refl)
some_begun head (Err e) a b c first part = more_begun head [] a b c first (part [] tt)

-- ---- calls that only write

module _ {A W : Type 0} (contents : W → Option (List ℕ)) (w w' : Counted W) (All : A → (before after : Option (List ℕ)) → Type 0)
    (Begun : (before after : Option (List ℕ)) → Type 0) (result : Result A Fault) (e : Fault) (is : result ≡ Err e) where
  -- memory was refused
  pub no_room : e ≡ fault.Memory → Begun (known_by contents w) (known_by contents w') → failures_of w' ≡ failures_of w → Writes contents w w' All Begun result
  no_room memory begun quiet =
      subst (Writes contents w w' All Begun) (sym (is ∙ ap Err memory)) (record { says = begun; failures = omega (arith, quiet) })

  -- the writer failed
  pub no_write : e ≡ fault.Write → Begun (known_by contents w) (known_by contents w') → failures_of w' ≡ failures_of w + 1 → Writes contents w w' All Begun result
  no_write write begun failed =
      subst (Writes contents w w' All Begun) (sym (is ∙ ap Err write)) (record { says = begun; failures = omega (arith, failed) })

module _ {W : Type 0} (contents : W → Option (List ℕ)) (w w' w'' : Counted W) (head : List ℕ) (text : Result (String Global) AllocError)
    (first : Gives contents w w' head) (quiet : failures_of w' ≡ failures_of w) where
  -- a text after another one was not written whole
  pub more_broken : {A : Type 0} (All : A → (before after : Option (List ℕ)) → Type 0) (result : Result A Fault) (e : Fault) → result ≡ Err e →
      Writes {A = Unit {0}} contents w' w'' (λ _. IsWritten text) (IsBeginningOf text) (Err e) → Writes contents w w'' All (HasBegunFrom head) result
  more_broken All result e is more = subst (Writes contents w w'' All (HasBegunFrom head)) (sym is) (go e more)
    where
      go : (e : Fault) → Writes {A = Unit {0}} contents w' w'' (λ _. IsWritten text) (IsBeginningOf text) (Err e) → Writes contents w w'' All (HasBegunFrom head) (Err e)
      go fault.Read more = absurd more
      go fault.Memory more = record { says = some_begun head text _ _ _ first more.says; failures = omega (arith, quiet, more.failures) }
      go fault.Write more = record { says = some_begun head text _ _ _ first more.says; failures = omega (arith, quiet, more.failures) }

  -- it was
  pub more_written : HasWritten contents w' w'' 0 (IsWritten text) → HasWritten contents w w'' 0 (HasTextFrom head)
  more_written more = record { says = some_text head text _ _ _ first more.says; failures = omega (arith, quiet, more.failures) }

-- ---- a log

-- the head, more, and a beginning of yet more
begun_on : (head : List ℕ) (a b c : Option (List ℕ)) (text : List ℕ) → HasTextFrom head a b → IsBeginning text b c → HasBegunFrom head a c
begun_on head a b c text t part =
    let more = more_begun (head ++ t.more) text a b c t.says part in
    record { more = t.more ++ more.more; begun = subst (λ x. IsBeginning x a c) (append_assoc head t.more more.more) more.begun }

text_on : (head : List ℕ) (a b c : Option (List ℕ)) (text : List ℕ) → HasTextFrom head a b → Appends b c text → HasTextFrom head a c
text_on head a b c text t says = record {
  more = t.more ++ text;
  says = subst (Appends a c) (append_assoc head t.more text) (Appends-trans a b c (head ++ t.more) text t.says says);
}

module _ {W : Type 0} (contents : W → Option (List ℕ)) (w w' w'' : Counted W) (head : List ℕ) (text : Result (String Global) AllocError)
    (so_far : HasTextFrom head (known_by contents w) (known_by contents w')) where
  log_part : (text : Result (String Global) AllocError) → IsBeginningOf text (known_by contents w') (known_by contents w'') →
      HasBegunFrom head (known_by contents w) (known_by contents w'')
  log_part (Ok t) part = begun_on head _ _ _ (string_bytes t) so_far (part (string_bytes t) refl)
  log_part (Err e) part = begun_on head _ _ _ [] so_far (part [] tt)

  log_all : (text : Result (String Global) AllocError) → IsWritten text (known_by contents w') (known_by contents w'') →
      HasTextFrom head (known_by contents w) (known_by contents w'')
  log_all (Ok t) says = text_on head _ _ _ (string_bytes t) so_far says
  log_all (Err e) says = absurd says

  pub log_broken : (quiet : failures_of w' ≡ failures_of w) (result : Result (Unit {0}) Fault) (e : Fault) → result ≡ Err e →
      Writes {A = Unit {0}} contents w' w'' (λ _. IsWritten text) (IsBeginningOf text) (Err e) →
      Writes contents w w'' (λ (it : Unit {0}). HasTextFrom head) (HasBegunFrom head) result
  log_broken quiet result e is more = subst (Writes contents w w'' (λ (it : Unit {0}). HasTextFrom head) (HasBegunFrom head)) (sym is) (go e more)
    where
      go : (e : Fault) → Writes {A = Unit {0}} contents w' w'' (λ _. IsWritten text) (IsBeginningOf text) (Err e) →
          Writes contents w w'' (λ (it : Unit {0}). HasTextFrom head) (HasBegunFrom head) (Err e)
      go fault.Read more = absurd more
      go fault.Memory more = record { says = log_part text more.says; failures = omega (arith, quiet, more.failures) }
      go fault.Write more = record { says = log_part text more.says; failures = omega (arith, quiet, more.failures) }

  pub log_written : HasWritten contents w' w'' 0 (IsWritten text) → HasTextFrom head (known_by contents w) (known_by contents w'')
  log_written more = log_all text more.says

-- ---- the writer and the log

pub log_stays : {L : Type 0} (logs : L → Option (List ℕ)) (wanted : Bool) (l : Counted L) → IsLogged logs wanted 0 (HasBegunFrom log_head) l l
log_stays logs true l = record { says = none_begun log_head (known_by logs l); failures = omega arith }
log_stays logs false l = (refl, refl)

log_left : {L : Type 0} (logs : L → Option (List ℕ)) (wanted : Bool) (n : ℕ) (Says : (before after : Option (List ℕ)) → Type 0) (l l' : Counted L) →
    wanted ≡ true → HasWritten logs l l' n Says → IsLogged logs wanted n Says l l'
log_left logs true n Says l l' is h = h
log_left logs false n Says l l' is h = absurd (cc)

module _ {W L : Type 0} (contents : W → Option (List ℕ)) (logs : L → Option (List ℕ)) (wanted : Bool) (limit : ℕ) (P : Program)
    (w w' : Counted W) (l l' : Counted L) where
  abbrev found : Result Program (ℕ × FaultKind)
  found = Ok P

  module _ (status : Status) (is : wanted ≡ true) (shown : HasWritten contents w w' 0 (IsShown limit found status)) where
    -- it was not written whole
    pub no_log : (result : Result Status Refusal) (e : Fault) → result ≡ Err (log_refusal e) →
        Writes {A = Unit {0}} logs l l' (λ _. HasTextFrom log_head) (HasBegunFrom log_head) (Err e) →
        Shows contents logs wanted (IsShown limit found) (IsShownInPart limit found) w w' l l' result
    no_log result e same h = subst (Shows contents logs wanted (IsShown limit found) (IsShownInPart limit found) w w' l l') (sym same) (go e h)
      where
        go : (e : Fault) → Writes {A = Unit {0}} logs l l' (λ _. HasTextFrom log_head) (HasBegunFrom log_head) (Err e) →
            Shows contents logs wanted (IsShown limit found) (IsShownInPart limit found) w w' l l' (Err (log_refusal e))
        go fault.Read h = absurd h
        go fault.Write h = (status, shown, log_left logs wanted 1 (HasBegunFrom log_head) l l' is h)
        go fault.Memory h = (
          record { says = whole_in_part limit found status _ _ shown.says; failures = shown.failures },
          log_left logs wanted 0 (HasBegunFrom log_head) l l' is h,
        )

-- ---- a listing

module _ {W L : Type 0} (contents : W → Option (List ℕ)) (logs : L → Option (List ℕ)) (wanted : Bool) (limit : ℕ) (found : Result Program (ℕ × FaultKind))
    (w w' : Counted W) (l : Counted L) (result : Result Status Refusal) where
  -- it was
  pub line_written : (f : ℕ × FaultKind) (text : List ℕ) → found ≡ Err f → text ≡ text_for limit (Err f) →
      Gives contents w w' text → failures_of w' ≡ failures_of w → Shows contents logs wanted (IsShown limit found) (IsShownInPart limit found) w w' l l (Ok TextFault)
  line_written f text is same gives quiet =
      subst (λ x. Shows contents logs wanted (IsShown limit x) (IsShownInPart limit x) w w' l l (Ok TextFault)) (sym is) (
        record {
          says = (refl, subst (Appends (known_by contents w) (known_by contents w')) same gives);
          failures = omega (arith, quiet);
        },
        (refl, refl),
      )

-- ---- a reader

of_taken : (F : Result Program (ℕ × FaultKind) → Type 0) (known : Option (List ℕ)) (bytes slice : List ℕ)
    → IfSome known (λ input. bytes ≡ take most_taken input) → slice ≡ bytes → F (listing slice) → IfSome known (λ input. F (listing input))
of_taken F None bytes slice read same is = tt
of_taken F (Some input) bytes slice read same is = subst F (ap listing (same ∙ read) ∙ listing_taken input) is

none_for : (limit : ℕ) (input known : Option (List ℕ)) → IfSome input (λ x. IsShownInPart limit (listing x) known known)
none_for limit None known = tt
none_for limit (Some input) known = none_in_part limit (listing input) known

module _ {R W L : Type 0} (remaining : R → Option (List ℕ)) (contents : W → Option (List ℕ)) (logs : L → Option (List ℕ)) (asked : Charted) (r r' : Counted R)
    (w w' : Counted W) (l l' : Counted L) where
  written : (n : ℕ) (F : Result Program (ℕ × FaultKind) → (before after : Option (List ℕ)) → Type 0) (bytes slice : List ℕ) →
      IfSome (known_by remaining r) (λ input. bytes ≡ take most_taken input) → slice ≡ bytes → HasWritten contents w w' n (F (listing slice)) →
      HasWritten contents w w' n (λ before after. IfSome (known_by remaining r) (λ input. F (listing input) before after))
  written n F bytes slice read same h = record {
    says = of_taken (λ found. F found (known_by contents w) (known_by contents w')) (known_by remaining r) bytes slice read same h.says;
    failures = h.failures;
  }

  -- a listing that was read was charted
  pub charts : (bytes slice : List ℕ) (result : Result Status Refusal) → HasRead remaining most_taken r r' →
      IfSome (known_by remaining r) (λ input. bytes ≡ take most_taken input) → slice ≡ bytes →
      Shows contents logs (is_some asked.log) (IsShown asked.run.config.limit (listing slice)) (IsShownInPart asked.run.config.limit (listing slice)) w w' l l' result →
      Charts remaining contents logs asked r r' w w' l l' result
  charts bytes slice (Ok status) read is same h = (read, (written 0 (λ found. IsShown asked.run.config.limit found status) bytes slice is same h.0, h.1))
  charts bytes slice (Err Memory) read is same h =
      (has_begun remaining most_taken r r' read, (written 0 (IsShownInPart asked.run.config.limit) bytes slice is same h.0, h.1))
  charts bytes slice (Err Write) read is same h = (read, (written 1 (IsShownInPart asked.run.config.limit) bytes slice is same h.0, h.1))
  charts bytes slice (Err Trace) read is same h =
      (read, (h.0, written 0 (λ found. IsShown asked.run.config.limit found h.0) bytes slice is same h.1, h.2))
  charts bytes slice (Err Open) read is same h = absurd h
  charts bytes slice (Err Read) read is same h = absurd h
  charts bytes slice (Err Thread) read is same h = absurd h

  -- one that was not is not charted
  pub unread : (result : Result Status Refusal) (e : Fault) → result ≡ Err (fault_refusal e) → IsUnread remaining most_taken r r' e →
      Charts remaining contents logs asked r r' w w l l result
  unread result e same is = subst (Charts remaining contents logs asked r r' w w l l) (sym same) (go e is)
    where
      go : (e : Fault) → IsUnread remaining most_taken r r' e → Charts remaining contents logs asked r r' w w l l (Err (fault_refusal e))
      go fault.Read is = (is, refl, refl)
      go fault.Memory is = (
        is,
        (
          record { says = none_for asked.run.config.limit (known_by remaining r) (known_by contents w); failures = omega arith },
          log_stays logs (is_some asked.log) l,
        ),
      )
      go fault.Write is = absurd is

  -- the exit after a refusal
  pub refused_with : (reader reader' : Option (Counted R)) (refusal : Refusal) (exit : Exit) → exit ≡ refused refusal → reader ≡ Some r → reader' ≡ Some r' →
      Charts remaining contents logs asked r r' w w' l l' (Err refusal) → IsChartedWith remaining contents logs asked reader reader' w w' l l' exit.status exit.line
  refused_with reader reader' refusal exit e was is h =
      subst (λ x. IsChartedWith remaining contents logs asked reader reader' w w' l l' x.status x.line) (sym e) (go refusal h)
    where
      go : (refusal : Refusal) → Charts remaining contents logs asked r r' w w' l l' (Err refusal) →
          IsChartedWith remaining contents logs asked reader reader' w w' l l' (refused refusal).status (refused refusal).line
      go Open h = absurd h.1
      go Read h = record { old = r; new = r'; was = was; is = is; holds = h }
      go Memory h = record { old = r; new = r'; was = was; is = is; holds = h }
      go Thread h = absurd h.1
      go Write h = record { old = r; new = r'; was = was; is = is; holds = h }
      go Trace h = record { old = r; new = r'; was = was; is = is; holds = h }
