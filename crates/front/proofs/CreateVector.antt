-- The create vector, found among what the front keeps.
use Rattle.std.proofs.Common.{◌≡◌, ◌≢◌, ◌⊎◌, ℕ, zero, suc, ◌-◌, ◌<◌, Bool, true, false, cond, ◌&&◌, eqb, List, [], ◌∷◌, ◌++◌, length, take, Option, Some, None, refl, sym, ap, ◌∙◌, subst, inl, inr}
use Rattle.std.proofs.Common.{⊎_elim, arith}
use Rattle.std.proofs.lemmas.Bool.{le-leb}
use Rattle.std.specs.List.{AllByRecursion}
use Rattle.std.specs.Prelude.{slice_get}
use Rattle.instructions.specs.Programs.{Program}
use Rattle.inorder.specs.Tenants.{Tenant, destination_of, on_path}
use Rattle.inorder.specs.Unit.{can_be_written, creator, last_writer}
use Rattle.front.specs.declared.path.record.Record.{Record}
use Rattle.front.specs.Creators.{creator_in, creator_note, newest, newest_note, position}
use Rattle.front.specs.Knows.{whats}
use Rattle.front.specs.Trail.{Note, note, trail}
use Rattle.front.proofs.Trails.{trail_off, trail_on}

abbrev pub after_note : Option Note → Note → ℕ → Option Note
after_note older n r = cond (eqb n.what.destination r) (Some n) older

pub newest_both : (older : Option Note) (xs ys : List Note) (r : ℕ) → newest_note older (xs ++ ys) r ≡ newest_note (newest_note older xs r) ys r
newest_both older [] ys r = refl
newest_both older (x ∷ xs) ys r = newest_both (after_note older x r) xs ys r

-- the last writer of the path
pub writer_is : (P : Program) (ts : List Tenant) (r : ℕ) → last_writer P ts r ≡ position (newest_note None (trail P ts) r)
writer_is P [] r = refl
writer_is P (t ∷ ts) r = go (on_path t) refl (writer_is P ts r)
  where
    go : (b : Bool) → on_path t ≡ b → last_writer P ts r ≡ position (newest_note None (trail P ts) r) → last_writer P (t ∷ ts) r ≡ position (newest_note None (trail P (t ∷ ts)) r)
    go true e more =
        let n = note P ts t in
        let list = ap (λ z. position (newest_note None z r)) (trail_on P t ts e) ∙ ap position (newest_both None (trail P ts) (n ∷ []) r) in
        ap (λ b. cond (b && eqb (destination_of P t) r) (Some (length ts)) (last_writer P ts r)) e
        ∙ (by (eqb (destination_of P t) r) more ∙ sym list)
      where
        by : (b : Bool) → last_writer P ts r ≡ position (newest_note None (trail P ts) r) → cond b (Some (length ts)) (last_writer P ts r) ≡ position
            (cond b (Some (note P ts t)) (newest_note None (trail P ts) r))
        by true more = refl
        by false more = more
    go false e more =
        ap (λ b. cond (b && eqb (destination_of P t) r) (Some (length ts)) (last_writer P ts r)) e
        ∙ (more ∙ sym (ap (λ z. position (newest_note None z r)) (trail_off P t ts e)))

pub creator_is : (P : Program) (ts : List Tenant) (r : ℕ) → creator P ts r ≡ position (creator_note (trail P ts) r)
creator_is P ts r = go (can_be_written r)
  where
    go : (b : Bool) → cond b (last_writer P ts r) None ≡ position (cond b (newest_note None (trail P ts) r) None)
    go true = writer_is P ts r
    go false = refl

-- what is kept of it
abbrev pub what_of : Option Note → Option Record
what_of None = None
what_of (Some n) = Some n.what

newest_what : (older : Option Note) (xs : List Note) (r : ℕ) → what_of (newest_note older xs r) ≡ newest (what_of older) (whats xs) r
newest_what older [] r = refl
newest_what older (x ∷ xs) r = newest_what (after_note older x r) xs r ∙ ap (λ z. newest z (whats xs) r) (by (eqb x.what.destination r))
  where
    by : (b : Bool) → what_of (cond b (Some x) older) ≡ cond b (Some x.what) (what_of older)
    by true = refl
    by false = refl

-- it is among these, or an older one
pub newest_among : (Q : Note → Type 0) (older : Option Note) (xs : List Note) (r : ℕ) (n : Note) → AllByRecursion Q xs → newest_note older xs r ≡ Some n → (older ≡ Some n) ⊎ Q n
newest_among Q older [] r n all e = inl e
newest_among Q older (x ∷ xs) r n all e = ⊎_elim (here (eqb x.what.destination r)) (λ q. inr q) (newest_among Q (after_note older x r) xs r n all.1 e)
  where
    here : (b : Bool) → cond b (Some x) older ≡ Some n → (older ≡ Some n) ⊎ Q n
    here true f = let same : x ≡ n = cc f in inr (subst Q same all.0)
    here false f = inl f

-- with an older one before them
some_found : (x : Note) (xs : List Note) (r : ℕ) → (n : Note) × (newest_note (Some x) xs r ≡ Some n)
some_found x [] r = (x, refl)
some_found x (y ∷ xs) r = go (eqb y.what.destination r) (some_found y xs r) (some_found x xs r)
  where
    go : (b : Bool) → (n : Note) × (newest_note (Some y) xs r ≡ Some n) → (n : Note) × (newest_note (Some x) xs r ≡ Some n) → (n : Note) × (newest_note (cond b (Some y) (Some x)) xs r ≡ Some n)
    go true f g = f
    go false f g = g

pub newest_over : (older : Option Note) (xs : List Note) (r : ℕ) (n : Note) → newest_note None xs r ≡ Some n → newest_note older xs r ≡ Some n
newest_over older [] r n e = absurd (cc e)
newest_over older (x ∷ xs) r n e = go (eqb x.what.destination r) e (newest_over older xs r n)
  where
    go : (b : Bool) → newest_note (cond b (Some x) None) xs r ≡ Some n → (newest_note None xs r ≡ Some n → newest_note older xs r ≡ Some n) → newest_note (cond b (Some x) older) xs r ≡ Some n
    go true f more = f
    go false f more = more f

pub newest_none : (older : Option Note) (xs : List Note) (r : ℕ) → newest_note None xs r ≡ None → newest_note older xs r ≡ older
newest_none older [] r e = refl
newest_none older (x ∷ xs) r e = go (eqb x.what.destination r) e (newest_none older xs r)
  where
    go : (b : Bool) → newest_note (cond b (Some x) None) xs r ≡ None → (newest_note None xs r ≡ None → newest_note older xs r ≡ older) → newest_note (cond b (Some x) older) xs r ≡ older
    go true f more = let g = some_found x xs r in let no : Some g.0 ≡ None = sym g.1 ∙ f in absurd (cc no)
    go false f more = more f

-- the creator of a register: one of those that are kept, or an older one
pub data Creates (Q : Note → Type 0) (gone : List Note) (records : List Record) (r : ℕ) (whole : Option Note) : Type 0 where
  Kept : (n : Note) → whole ≡ Some n → Q n → creator_in records r ≡ Some n.what → Creates Q gone records r whole
  Older : whole ≡ creator_note gone r → creator_in records r ≡ None → Creates Q gone records r whole

pub creates : (Q : Note → Type 0) (gone notes : List Note) (r : ℕ) → AllByRecursion Q notes → Creates Q gone (whats notes) r (creator_note (gone ++ notes) r)
creates Q gone notes r all = go (can_be_written r) refl (newest_note None notes r) refl
  where
    noted : (b : Bool) → can_be_written r ≡ b → (xs : List Note) → creator_note xs r ≡ cond b (newest_note None xs r) None
    noted b e xs = ap (λ b. cond b (newest_note None xs r) None) e

    kept_as : (b : Bool) → can_be_written r ≡ b → creator_in (whats notes) r ≡ cond b (newest None (whats notes) r) None
    kept_as b e = ap (λ b. cond b (newest None (whats notes) r) None) e

    go : (b : Bool) → can_be_written r ≡ b → (o : Option Note) → newest_note None notes r ≡ o → Creates Q gone (whats notes) r (creator_note (gone ++ notes) r)
    go false e o f = Older (noted false e (gone ++ notes) ∙ sym (noted false e gone)) (kept_as false e)
    go true e (Some n) f =
        Kept n
        (noted true e (gone ++ notes) ∙ (newest_both None gone notes r ∙ newest_over (newest_note None gone r) notes r n f))
        (⊎_elim (λ (no : None ≡ Some n). absurd (cc no)) (λ q. q) (newest_among Q None notes r n all f))
        (kept_as true e ∙ (sym (newest_what None notes r) ∙ ap what_of f))
    go true e None f =
        Older
        (noted true e (gone ++ notes) ∙ (newest_both None gone notes r ∙ (newest_none (newest_note None gone r) notes r f ∙ sym (noted true e gone))))
        (kept_as true e ∙ (sym (newest_what None notes r) ∙ ap what_of f))

-- The search from the youngest on

abbrev pub after_record : Option Record → ℕ → Option Record → Option Record
after_record older r None = older
after_record older r (Some x) = cond (eqb x.destination r) (Some x) older

newest_next : (r : ℕ) (v : Option Record) (xs : List Record) (j : ℕ) → newest v (take (suc j) xs) r ≡ after_record (newest v (take j xs) r) r (slice_get xs j)
newest_next r v [] zero = refl
newest_next r v [] (suc j) = refl
newest_next r v (x ∷ xs) zero = refl
newest_next r v (x ∷ xs) (suc j) = newest_next r (after_record v r (Some x)) xs j

one_back : (r : ℕ) (xs : List Record) (j : ℕ) → 0 < j → newest None (take j xs) r ≡ after_record (newest None (take (j - 1) xs) r) r (slice_get xs (j - 1))
one_back r xs j h = let same : suc (j - 1) ≡ j = omega arith in sym (ap (λ k. newest None (take k xs) r) same) ∙ newest_next r None xs (j - 1)

pub written : (r : ℕ) → r ≢ 0 → r < 34 → can_be_written r ≡ true
written zero n l = absurd (n refl)
written (suc r) n l = le-leb (suc (suc r)) 34 (omega (arith, l))
