-- A tenant that retires, is squashed or is mended stays sound.
use Rattle.std.proofs.Common.{◌≡◌, ℕ, List, [], ◌∷◌, Option, Some, None, refl, sym, subst, true≢false}
use Rattle.std.specs.List.{AllByRecursion}
use Rattle.instructions.specs.Instruction.{width}
use Rattle.instructions.specs.Programs.{Program}
use Rattle.instructions.specs.declared.op.Kind.{Kind}
use Rattle.instructions.specs.declared.stop.Outcome.{Outcome}
use Rattle.inorder.specs.Memory.{stored, stored_by}
use Rattle.inorder.specs.Steps.{IsNoRetiredStop, MayRetire, made_at_end, retired, squashed}
use Rattle.inorder.specs.Tenants.{Addr, Busy, Done, Fate, Guessed, IsNotLive, Live, Miss, Open, Retired, Squashed, Standing, Stopped, Tenant, behind, computed, instr, kind_of}
use Rattle.inorder.proofs.Theorem.DeliveryKept.{live_not_retired, live_on, live_unsettled, stores_self}
use Rattle.inorder.proofs.Theorem.FinishKept.{next_goes_on, next_is_done, next_load}
use Rattle.inorder.proofs.Grows.{Grows, StoredGrows}
use Rattle.inorder.proofs.Sound.{FateBy, FateIs, IsSettled, IsSoundAt, SettledBy, own_with, placed_with}

-- Retire

pub settled_from : (ts : List Tenant) → AllByRecursion IsNotLive ts → AllByRecursion IsNoRetiredStop ts →
    AllByRecursion IsSettled ts
settled_from [] h n = tt
settled_from (t ∷ ts) h n = (go t.standing t.fate refl refl, settled_from ts h.1 n.1)
  where
    go : (st : Standing) (f : Fate) → t.standing ≡ st → t.fate ≡ f → SettledBy st f
    go Live f e ef = absurd (h.0 e)
    go Squashed f e ef = tt
    go Retired Open e ef = tt
    go Retired (Busy c) e ef = tt
    go Retired (Addr c) e ef = tt
    go Retired (Done c) e ef = tt
    go Retired (Guessed c) e ef = tt
    go Retired (Miss c) e ef = tt
    go Retired (Stopped c) e ef = absurd (n.0 e c ef)

pub retire_fate : (k : Kind) (o : Outcome) (pc pr nx : ℕ) (made a b : Option ℕ) (st : Standing) (n : ℕ)
    (f : Fate) → FateBy k o pc pr nx made a b st f → FateBy k o pc pr nx (made_at_end f made n) a b Retired f
retire_fate k o pc pr nx made a b st n Open h = h
retire_fate k o pc pr nx made a b st n (Busy c) h = h
retire_fate k o pc pr nx made a b st n (Addr c) h = h
retire_fate k o pc pr nx made a b st n (Done c) h = h
retire_fate k o pc pr nx made a b st n (Guessed c) h = h
retire_fate k o pc pr nx made a b st n (Miss c) h = h
retire_fate k o pc pr nx made a b st n (Stopped c) h = ((λ ne. absurd (ne refl)), h.1, h.2)

pub retire_made : (k : Kind) (o : Outcome) (pc pr nx : ℕ) (made a b : Option ℕ) (n : ℕ) (f : Fate) →
    FateBy k o pc pr nx made a b Live f → (v : ℕ) → made ≡ Some v → made_at_end f made n ≡ Some v
retire_made k o pc pr nx made a b n Open h v e = e
retire_made k o pc pr nx made a b n (Busy c) h v e = e
retire_made k o pc pr nx made a b n (Addr c) h v e = e
retire_made k o pc pr nx made a b n (Done c) h v e = e
retire_made k o pc pr nx made a b n (Guessed c) h v e = e
retire_made k o pc pr nx made a b n (Miss c) h v e = e
retire_made k o pc pr nx made a b n (Stopped c) h v e =
    let none : made ≡ None = h.0 (λ q. absurd (cc)) in absurd (cc)

pub retire_sound : (P : Program) (ts : List Tenant) (t : Tenant) (n : ℕ) → MayRetire P n ts t →
    IsSoundAt P ts t → IsSoundAt P ts (retired t n)
retire_sound P ts t n m s =
    let q = s.placed (live_on t m.live) in
    let made = made_at_end t.fate t.made n in
    record {
      own =
          own_with P ts t t.fate made Retired s.own
          (retire_fate (kind_of P t)
          (computed P t) t.pc t.predicted t.next t.made t.first.value t.second.value t.standing n t.fate s.own.fate);
      placed = λ on.
          placed_with P ts t t.fate made Retired q q.load (λ e. settled_from ts m.oldest m.no_stop) (λ e. m.can);
    }

pub retire_grows : (P : Program) (ts : List Tenant) (t : Tenant) (n : ℕ) → MayRetire P n ts t →
    IsSoundAt P ts t → Grows P t (retired t n)
retire_grows P ts t n m s =
    let f = subst (λ st. FateBy (kind_of P t)
    (computed P t) t.pc t.predicted t.next t.made t.first.value t.second.value st t.fate) m.live s.own.fate in
    record {
      index = refl;
      half = refl;
      next = refl;
      path = sym (live_on t m.live);
      made =
          retire_made (kind_of P t)
          (computed P t) t.pc t.predicted t.next t.made t.first.value t.second.value n t.fate f;
      address = λ h l. absurd (cc);
      stores =
          λ h. subst (λ b. StoredGrows (stored P t)
          (stored_by b (kind_of P t) t.fate (width (instr P t).op) t.second.value)) (live_on t m.live)
          (stores_self (stored P t));
      settled = λ h. absurd (live_unsettled t m.live h);
    }

-- Squash

pub squash_fate : (k : Kind) (o : Outcome) (pc pr nx : ℕ) (made a b : Option ℕ) (f : Fate) →
    FateBy k o pc pr nx made a b Live f → FateBy k o pc pr nx made a b Squashed f
squash_fate k o pc pr nx made a b Open h = h
squash_fate k o pc pr nx made a b (Busy c) h = h
squash_fate k o pc pr nx made a b (Addr c) h = h
squash_fate k o pc pr nx made a b (Done c) h = h
squash_fate k o pc pr nx made a b (Guessed c) h = h
squash_fate k o pc pr nx made a b (Miss c) h = h
squash_fate k o pc pr nx made a b (Stopped c) h = ((λ ne. h.0 (λ e. absurd (cc))), h.1, h.2)

pub squash_sound : (P : Program) (ts : List Tenant) (t : Tenant) → t.standing ≡ Live → IsSoundAt P ts t →
    IsSoundAt P ts (squashed t)
squash_sound P ts t live s =
    let f = subst (λ st. FateBy (kind_of P t)
    (computed P t) t.pc t.predicted t.next t.made t.first.value t.second.value st t.fate) live s.own.fate in
    record {
      own =
          own_with P ts t t.fate t.made Squashed s.own
          (squash_fate (kind_of P t)
          (computed P t) t.pc t.predicted t.next t.made t.first.value t.second.value t.fate f);
      placed = λ on. absurd (true≢false (sym on));
    }

-- Mend

pub mend_sound : (P : Program) (ts : List Tenant) (t : Tenant) (x : ℕ) → t.standing ≡ Live → t.fate ≡ Miss x →
    IsSoundAt P ts t → IsSoundAt P ts (record t { fate = Done x; next = x })
mend_sound P ts t x live e s =
    let f = subst (FateIs P t) e s.own.fate in
    record {
      own =
          record {
            first = s.own.first;
            second = s.own.second;
            place = s.own.place;
            inside = s.own.inside;
            goes_on = next_goes_on (instr P t) t.half t.pc _ _ _ (kind_of P t) x f.1 (behind P t);
            fate = (next_is_done (instr P t) t.half t.pc _ _ _ (kind_of P t) x x t.made f.1 refl f.0, f.2);
          };
      placed =
          λ on. let q = s.placed on in
          record {
            first = q.first;
            second = q.second;
            pc = q.pc;
            half = q.half;
            load = next_load (instr P t) t.half t.pc _ _ _ P ts (kind_of P t) x (Done x) f.1;
            settled = λ r. live_not_retired t live r;
            can = λ r. live_not_retired t live r;
          };
    }
