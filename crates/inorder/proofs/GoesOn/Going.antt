-- A step is possible while somebody is live: one of the oldest live tenant, or one that recovers it.
use Rattle.std.proofs.Common.{◌≡◌, ◌≢◌, ◌⊎◌, ℕ, suc, ◌+◌, ◌<◌, ◌≤◌, ◌^◌, List, [], ◌∷◌, ◌++◌, length, Option, Some, None, Ok, Err, refl, sym, ap, ◌∙◌, subst, inl, inr, ⊎_elim, arith}
use mathlib.Core.Logic.{dite}
use native.Mathlib.Decide.{ℕ_discrete}
use Rattle.std.proofs.lemmas.Bool.{cases_lt}
use Rattle.std.specs.Prelude.{Result, slice_index}
use Rattle.std.specs.List.{AllByRecursion}
use Rattle.std.proofs.lemmas.Option.{same_Some}
use Rattle.instructions.specs.Instruction.{first_of, second_of, width}
use Rattle.instructions.specs.Operations.{as_address, as_value, checked_address, computed_by, loaded, outcome_by, sum}
use Rattle.instructions.specs.Programs.{Program}
use Rattle.instructions.specs.declared.instr.Instr.{Instr}
use Rattle.instructions.specs.declared.op.Half.{Half}
use Rattle.instructions.specs.declared.op.Kind.{Kind}
use Rattle.instructions.specs.declared.op.Kind.TheVariants.{Computes, Jumps, Links, Loads, Stores}
use Rattle.instructions.specs.declared.stop.Outcome.{Outcome}
use Rattle.instructions.specs.declared.stop.Outcome.TheVariants.{Address, Next, Pair, Stop as Stops, Value}
use Rattle.instructions.specs.declared.stop.Stop.{Stop}
use Rattle.inorder.specs.declared.history.Act.{Act}
use Rattle.inorder.specs.declared.history.Act.TheVariants.{Claim, Deliver, Finish, Link, Load, Mend, Retire, Speculate, Squash}
use Rattle.inorder.specs.declared.history.Source.{Source}
use Rattle.inorder.specs.declared.history.Source.TheVariants.{First, Second}
use Rattle.inorder.specs.declared.history.Speculation.TheVariants.{Confirm, Flush}
use Rattle.inorder.specs.declared.history.Step.TheVariants.{On}
use Rattle.inorder.specs.Committed.{committed}
use Rattle.inorder.specs.Legal.{Allowed, May}
use Rattle.inorder.specs.Memory.{byte_at, raw_at, sure_raw_at}
use Rattle.inorder.specs.Progress.{BringsOnAct, CanGoOn, HasWrongGuess}
use Rattle.inorder.specs.Speculation.{MayConfirm}
use Rattle.inorder.specs.Steps.{CanRetire, HasAddress, IsNoRetiredStop}
use Rattle.inorder.specs.Tenants.{Addr, AtLet, Busy, Done, Fate, Guessed, IsNotLive, IsThere, Linked, Live, Miss, Open, Retired, Squashed, Standing, Stopped, Tenant, Unlinked, Way, computed}
use Rattle.inorder.specs.Tenants.{instr, kind_of, missing, missing_of, operand, operand_value, stands_on_path}
use Rattle.inorder.specs.Unit.{Sizes, UpdateUnit, at, older, value_of, younger}
use Rattle.lsq.specs.Bytes.{little_endian}
use Rattle.inorder.proofs.Basics.{number_there, split_at}
use Rattle.inorder.proofs.Creators.{at_cases}
use Rattle.inorder.proofs.Ends.{at_older}
use Rattle.inorder.proofs.Grows.{sure_raw}
use Rattle.inorder.proofs.Heads.{Oldest}
use Rattle.inorder.proofs.InOrderStep.{load_in}
use Rattle.inorder.proofs.OneCaller.Middle.{sound_from}
use Rattle.inorder.proofs.Positions.{all_at, at_below, at_more, at_new, older_from, younger_from}
use Rattle.inorder.proofs.GoesOn.Supplied.{AreSupplied}
use Rattle.inorder.proofs.SettledMemory.{byte_given}
use Rattle.inorder.proofs.SettledRegisters.{source_given}
use Rattle.inorder.proofs.Sound.{FateIs, IsInPlace, IsSettled, IsSound, IsSoundAt, SettledBy}

-- Who has left

settled_by : (st : Standing) (f : Fate) → st ≢ Live → (st ≡ Retired → (c : Stop) → f ≢ Stopped c) → SettledBy st f
settled_by Live f n g = absurd (n refl)
settled_by Squashed f n g = tt
settled_by Retired Open n g = tt
settled_by Retired (Busy x) n g = tt
settled_by Retired (Addr x) n g = tt
settled_by Retired (Done x) n g = tt
settled_by Retired (Guessed x) n g = tt
settled_by Retired (Miss x) n g = tt
settled_by Retired (Stopped c) n g = absurd (g refl c refl)

pub all_settled : (ts : List Tenant) → AllByRecursion IsNotLive ts → AllByRecursion IsNoRetiredStop ts → AllByRecursion IsSettled ts
all_settled [] n g = tt
all_settled (t ∷ ts) n g = (settled_by t.standing t.fate n.0 g.0, all_settled ts n.1 g.1)

no_addresses : (P : Program) (ts : List Tenant) → AllByRecursion IsNotLive ts → AllByRecursion (HasAddress P) ts
no_addresses P [] n = tt
no_addresses P (t ∷ ts) n = ((λ live k. absurd (n.0 live)), no_addresses P ts n.1)

-- The youngest live tenant

record Youngest (us : List Tenant) : Type 0 where
  pub q : ℕ
  pub tenant : Tenant
  pub is : at us q ≡ Some tenant
  pub live : tenant.standing ≡ Live
  pub last : (r : ℕ) (u : Tenant) → q < r → at us r ≡ Some u → u.standing ≢ Live

find_youngest : (us : List Tenant) (p : ℕ) (t : Tenant) → at us p ≡ Some t → t.standing ≡ Live → Youngest us
find_youngest [] p t is live = absurd (cc is)
find_youngest (u ∷ us) p t is live = go u.standing refl (λ rest. find_youngest us p t rest live)
  where
    gone : (st : Standing) → u.standing ≡ st → st ≢ Live → (at us p ≡ Some t → Youngest us) → Youngest (u ∷ us)
    gone st e ne more =
        let off : u.standing ≢ Live = λ x. ne (sym e ∙ x) in
        let rest : at us p ≡ Some t = ⊎_elim (λ old. old)
        (λ (new : (p ≡ length us) × (u ≡ t)). absurd (off (ap (λ z. z.standing) new.1 ∙ live))) (at_cases u us p t is) in
        let y = more rest in
        record {
          q = y.q;
          tenant = y.tenant;
          is = at_more u us y.q y.tenant y.is;
          live = y.live;
          last = λ r w lt e. ⊎_elim (λ old. y.last r w lt old)
              (λ (new : (r ≡ length us) × (u ≡ w)). λ l. off (ap (λ z. z.standing) new.1 ∙ l)) (at_cases u us r w e);
        }

    go : (st : Standing) → u.standing ≡ st → (at us p ≡ Some t → Youngest us) → Youngest (u ∷ us)
    go Live e more = record {
      q = length us;
      tenant = u;
      is = at_new u us;
      live = e;
      last = λ r w lt f. let below = at_below (u ∷ us) r w f in absurd (omega (arith, lt, below));
    }
    go Retired e more = gone Retired e (λ x. cc x) more
    go Squashed e more = gone Squashed e (λ x. cc x) more

-- Sources

no_missing : (k : Kind) (a b : Option ℕ) → IsThere a → IsThere b → missing_of k a b ≡ None
no_missing k (Some x) (Some y) m n = refl
no_missing k None b m n = let no = m.1 in absurd (cc no)
no_missing k (Some x) None m n = let no = n.1 in absurd (cc no)

-- an instruction with an address is a load or store
value_not_address : (r : Result ℕ Stop) (a : ℕ) → as_value r ≢ Address a
value_not_address (Ok v) a e = cc e
value_not_address (Err c) a e = cc e

accesses : (k : Kind) (i : Instr) (half : Half) (pc a b size q : ℕ) → outcome_by k i half pc a b size ≡ Address q → (k ≡ Loads) ⊎ (k ≡ Stores)
accesses Computes i half pc a b size q e = absurd (value_not_address (computed_by i.op half a b i.number) q e)
accesses Jumps i half pc a b size q e = absurd (cc e)
accesses Links i half pc a b size q e = absurd (cc e)
accesses Loads i half pc a b size q e = inl refl
accesses Stores i half pc a b size q e = inr refl

less_two : 0 < 4294967296
less_two = omega arith

-- The oldest live tenant

module _ (P : Program) (C : Sizes) (U : UpdateUnit) (s : IsSound P U.tenants) (goes_on : AllByRecursion IsNoRetiredStop U.tenants)
    (supplied : AllByRecursion AreSupplied U.tenants) (o : Oldest U.tenants) where
  abbrev us : List Tenant
  us = U.tenants

  abbrev p : ℕ
  p = o.p

  abbrev t : Tenant
  t = o.tenant

  abbrev ts : List Tenant
  ts = older us p

  below : p < length us
  below = at_below us p t o.is

  sounds : IsSound P (t ∷ ts)
  sounds = sound_from P (younger us p) (t ∷ ts) (subst (IsSound P) (split_at us p t o.is) s)

  left : AllByRecursion IsNotLive ts
  left = older_from IsNotLive us p below (λ q u lt e. o.oldest q u lt e)

  no_stop : AllByRecursion IsNoRetiredStop ts
  no_stop = older_from IsNoRetiredStop us p below (λ q u lt e. all_at IsNoRetiredStop us goes_on q u e)

  gone : AllByRecursion IsSettled ts
  gone = all_settled ts left no_stop

  placed : IsInPlace P ts t
  placed = sounds.0.placed (ap stands_on_path o.live)

  act : (by : ℕ) (a : Act) → BringsOnAct a → May P by a (younger us p) t ts → CanGoOn P C U
  act by a b m = record { by = by; step = On p a; brings_on = b; may = record { tenant = t; is = o.is; may = m } }

  made : (k : Source) → (v : ℕ) × (value_of ts (operand k t).creator ≡ Some v)
  made First = (_, ap (value_of ts) placed.first ∙ source_given P ts sounds.1 gone (first_of (instr P t)))
  made Second = (_, ap (value_of ts) placed.second ∙ source_given P ts sounds.1 gone (second_of (instr P t)))

  source : (k : Source) → CanGoOn P C U ⊎ IsThere (operand k t).value
  source k = go (operand k t).way (operand k t).value refl refl
    where
      go : (w : Way) (v : Option ℕ) → (operand k t).way ≡ w → (operand k t).value ≡ v → CanGoOn P C U ⊎ IsThere (operand k t).value
      go AtLet v w e = inr (all_at AreSupplied us supplied p t o.is k w)
      go Unlinked v w e = inl (act 0 (Link k) tt (record { way = w }))
      go (Linked b) None w e = inl (act 0 (Deliver k) tt (record { in_time = b; way = w; waits = e; value = (made k).0; is_made = (made k).1 }))
      go (Linked b) (Some v) w e = inr (v, e)

  ready : CanGoOn P C U ⊎ (missing P t ≡ None)
  ready = ⊎_elim (λ g. inl g)
      (λ (a : IsThere t.first.value). ⊎_elim (λ g. inl g)
      (λ (b : IsThere t.second.value). inr (no_missing (kind_of P t) t.first.value t.second.value a b))
      (source Second))
      (source First)

  retires : CanRetire (kind_of P t) t.second.value t.fate → CanGoOn P C U
  retires can = act 1 (Retire 0) tt (record { small = less_two; live = o.live; oldest = left; no_stop = no_stop; can = can })

  -- the bytes of a load at an address
  abbrev bytes : ℕ → ℕ
  bytes a = little_endian (slice_index (committed P ts).memory) a (width (instr P t).op)

  there : (a : ℕ) → a + width (instr P t).op ≤ length P.bytes → raw_at P ts (instr P t) a ≡ Some (bytes a)
  there a inside =
      number_there (byte_at P ts) (slice_index (committed P ts).memory) a (width (instr P t).op)
      (λ x l m. byte_given P ts sounds.1 gone x (omega arith))

  addressed : (a : ℕ) → t.fate ≡ Addr a → CanGoOn P C U
  addressed a e = ⊎_elim
      (λ (k : kind_of P t ≡ Loads). act 1 Load tt (record {
        live = o.live;
        kind = k;
        a = a;
        fate = e;
        addresses = no_addresses P ts left;
        bytes = bytes a;
        read = there a (load_in P t a k at_address);
      }))
      (λ (k : kind_of P t ≡ Stores). ⊎_elim (λ g. g)
      (λ (v : IsThere t.second.value). retires (subst (CanRetire (kind_of P t) t.second.value) (sym e) (k, v)))
      (source Second))
      (accesses (kind_of P t) (instr P t) t.half t.pc (operand_value t.first) (operand_value t.second) (length P.bytes) a at_address)
    where
      at_address : computed P t ≡ Address a
      at_address = (subst (FateIs P t) e sounds.0.own.fate).1

  young : Youngest us
  young = find_youngest us p t o.is o.live

  last : AllByRecursion IsNotLive (younger us young.q)
  last = younger_from IsNotLive us young.q (at_below us young.q young.tenant young.is) (λ r u lt e. young.last r u lt e)

  recovers : (x : ℕ) → t.fate ≡ Miss x → CanGoOn P C U
  recovers x e = dite (ℕ_discrete p young.q)
      (λ (same : p ≡ young.q). act 0 Mend tt (record { live = o.live; youngest = subst (λ z. AllByRecursion IsNotLive (younger us z)) (sym same) last; x = x; fate = e }))
      (λ (ne : p ≢ young.q). ⊎_elim
      (λ (lt : young.q < p). absurd (o.oldest young.q young.tenant lt young.is young.live))
      (λ (le : p ≤ young.q).
      let lt : p < young.q = omega (arith, ne, le) in
      record {
        by = 0;
        step = On young.q Squash;
        brings_on = tt;
        may = record {
          tenant = young.tenant;
          is = young.is;
          may = record {
            live = young.live;
            youngest = last;
            p = p;
            miss = t;
            x = x;
            miss_at = at_older us young.q p t (at_below us young.q young.tenant young.is) lt o.is;
            miss_live = o.live;
            miss_fate = e;
          };
        };
      })
      (cases_lt young.q p))

  -- a guess is confirmed, or flushed
  wrong_guess : (v : ℕ) → t.fate ≡ Guessed v → missing P t ≡ None → ¬ MayConfirm P ts t → HasWrongGuess P C U
  wrong_guess v e needs wrong = record {
    p = p;
    tenant = t;
    is = o.is;
    live = o.live;
    oldest = left;
    value = v;
    guessed = e;
    needs = needs;
    wrong = wrong;
    youngest = young.q;
    flush = λ by. record { tenant = young.tenant; is = young.is; may = record { live = young.live; youngest = last } };
  }

  decided : (v : ℕ) → t.fate ≡ Guessed v → missing P t ≡ None → CanGoOn P C U ⊎ HasWrongGuess P C U
  decided v e needs = go (computed P t) refl
    where
      loads : kind_of P t ≡ Loads
      loads = (subst (FateIs P t) e sounds.0.own.fate).0

      none : ((m : MayConfirm P ts t) → ⊥) → CanGoOn P C U ⊎ HasWrongGuess P C U
      none wrong = inr (wrong_guess v e needs wrong)

      go : (out : Outcome) → computed P t ≡ out → CanGoOn P C U ⊎ HasWrongGuess P C U
      go (Value w) q = none (λ m. let no = sym q ∙ m.computes in cc no)
      go (Next x) q = none (λ m. let no = sym q ∙ m.computes in cc no)
      go (Stops c) q = none (λ m. let no = sym q ∙ m.computes in cc no)
      go (Pair l h) q = none (λ m. let no = sym q ∙ m.computes in cc no)
      go (Address a) q =
          let read : sure_raw_at P ts (instr P t) a ≡ Some (bytes a) =
          sure_raw P ts (instr P t) a (bytes a) (no_addresses P ts left) (there a (load_in P t a loads q)) in dite
          (ℕ_discrete v (loaded (instr P t).op (bytes a)))
          (λ right. inl (act 1 (Speculate Confirm) tt (record {
            live = o.live;
            v = v;
            fate = e;
            needs = needs;
            a = a;
            computes = q;
            bytes = bytes a;
            read = read;
            right = right;
          })))
          (λ ne. none (λ m.
          let value : Guessed v ≡ Guessed m.v = sym e ∙ m.fate in
          let place : Address a ≡ Address m.a = sym q ∙ m.computes in
          let same_v : v ≡ m.v = cc value in
          let same_a : a ≡ m.a = cc place in
          let both : Some (bytes a) ≡ Some m.bytes = sym read ∙ ap (sure_raw_at P ts (instr P t)) same_a ∙ m.read in
          let same_b : bytes a ≡ m.bytes = same_Some (bytes a) m.bytes both in
          ne (same_v ∙ m.right ∙ ap (loaded (instr P t).op) (sym same_b))))

  pub head_goes_on : CanGoOn P C U ⊎ HasWrongGuess P C U
  head_goes_on = go t.fate refl
    where
      go : (f : Fate) → t.fate ≡ f → CanGoOn P C U ⊎ HasWrongGuess P C U
      go Open e = inl (⊎_elim (λ g. g) (λ m. act 2 Claim tt (record { live = o.live; fate = e; needs = m })) ready)
      go (Busy by) e = inl (act by Finish tt (record { live = o.live; fate = e }))
      go (Addr a) e = inl (addressed a e)
      go (Done v) e = inl (retires (subst (CanRetire (kind_of P t) t.second.value) (sym e) tt))
      go (Stopped c) e = inl (retires (subst (CanRetire (kind_of P t) t.second.value) (sym e) tt))
      go (Miss x) e = inl (recovers x e)
      go (Guessed v) e = ⊎_elim (λ g. inl g) (λ m. decided v e m) ready
